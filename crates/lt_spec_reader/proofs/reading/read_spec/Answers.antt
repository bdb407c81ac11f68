use Rattle.std.proofs.Common.{◌≡◌, [], Some, None, map, Bor, List, ℕ, sym, ap, ◌∙◌, subst}
use Rattle.std.specs.Prelude.{option_map}
use Rattle.lt_tree.specs.Typing.ProgramView.{program_of}
use Rattle.lt_tree.specs.declared.typed.program.Program.{Program}
use Rattle.lt_entry.specs.LineViews.{row_view}
use Rattle.lt_entry.specs.declared.row.Row.{Row}
use Rattle.lt_spec_reader.specs.Entries.{IsEntryOf}
use Rattle.lt_spec_reader.specs.Fronts.{IsNext}
use Rattle.lt_spec_reader.proofs.FaultLaws.{answer_none, answer_first, first_row, no_rows, one_first, answer_moved}
use Rattle.lt_spec_reader.proofs.reading.read_spec.Goals as goal

pub returns : goal.returns
returns c =
    let rows = map row_view c.as_slice-2.result.now in
    let row = row_view c.in-Some.first.now in
    let kept = c.in_ok-kinds.kinds.program.now in
    let first = first_row row_view c.as_slice.result.now c.in-Some.first.now (sym c.first.ensures.value ∙ ap (option_map (λ (r : Bor Row). r.now)) c.in-Some.is) in
    let are = ap (map row_view) (c.as_slice-2.ensures.value ∙ sym c.as_slice.ensures.value) ∙ first.1 in
    let found = subst (λ o. IsEntryOf (program_of kept) rows row.words o) c.in-Some-2.is (c.in_ok-entry.ensures rows) in
    answer_moved kept c.args.program.now rows c.args.text.now _ (ap (λ (b : Bor Program). b.now) c.in_ok-kinds.ensures.program) (ap (map row_view) c.as_slice-2.ensures.value ∙ c.in_ok-rows.ensures)
    (c.read_file.ensures (one_first (program_of kept) rows first.0 row _ are found.0) found.1)

pub returns-in_default : goal.returns-in_default
returns-in_default c =
    answer_none c.args.program.now c.args.text.now (map row_view c.as_slice.result.now) _ (ap (map row_view) c.as_slice.ensures.value ∙ c.in_ok-rows.ensures)
    (no_rows row_view c.as_slice.result.now (sym c.first.ensures.value ∙ ap (option_map (λ (r : Bor Row). r.now)) c.in_default.is)) c.in_ok-no_line.ensures

pub returns-in_default-2 : goal.returns-in_default-2
returns-in_default-2 c =
    let rows = map row_view c.as_slice.result.now in
    let row = row_view c.in-Some.first.now in
    let first = first_row row_view c.as_slice.result.now c.in-Some.first.now (sym c.first.ensures.value ∙ ap (option_map (λ (r : Bor Row). r.now)) c.in-Some.is) in
    let next = subst (λ o. IsEntryOf (program_of c.in_ok-kinds.kinds.program.now) rows row.words o) c.in_default-2.is (c.in_ok-entry.ensures rows) in
    let moved = ap (λ (b : Bor Program). b.now) c.in_ok-kinds.ensures.program in
    answer_first c.args.program.now c.args.text.now rows row first.0 _ (ap (map row_view) c.as_slice.ensures.value ∙ c.in_ok-rows.ensures) first.1 (subst (λ p. IsNext (program_of p) rows [] row.words None) moved next) c.bad_line.ensures
