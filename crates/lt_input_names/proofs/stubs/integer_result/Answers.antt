use Rattle.std.proofs.Common.{◌≡◌, None, slice_get, sym, ap, ◌∙◌}
use Rattle.std.specs.Prelude.{option_map}
use Rattle.lt_entry.specs.Conditions.{integer_result}
use Rattle.lt_input_names.proofs.FactRows.{none_type, some_type}
use Rattle.lt_input_names.proofs.stubs.integer_result.Goals as goal

pub returns-in-None : goal.returns-in-None
returns-in-None c =
    let rows = c.args.kinds.now.program.now.table.items in
    let none : slice_get rows c.args.t.place ≡ None =
    ap (λ l. slice_get l c.args.t.place) (sym c.deref.ensures.value) ∙ sym c.row_at.ensures ∙ ap (option_map (λ row. row.now)) c.in-None.is in
    sym (ap integer_result (none_type rows c.args.t none))

pub returns-in-Some : goal.returns-in-Some
returns-in-Some c =
    let program = c.args.kinds.now.program.now in
    c.result_of.ensures
    ∙ ap integer_result
    (sym
    (some_type program.table.items c.deref.result.now c.args.t c.in-Some.row.now c.deref.ensures.value program.rows_before
    (sym (ap (option_map (λ row. row.now)) c.in-Some.is) ∙ c.row_at.ensures)))
