use Rattle.std.proofs.Common.{◌≡◌, ◌∙◌, ◌++◌, ap, subst, List}
use Rattle.std.specs.Prelude.{IfOk, not}
use Rattle.std.specs.List.{filter, filter_map, list_any}
use Rattle.std.specs.Str.{bytes_eq}
use Rattle.lt_model.specs.declared.input.StubRange.{StubRange}
use Rattle.lt_model.specs.declared.input.StubSet.{StubSet}
use Rattle.lt_entry.specs.Inputs.{stubs_in_order}
use Rattle.lt_input_values.specs.Maps.{values_for, has_name}
use Rattle.lt_input_values.proofs.Orders.{stubs_by_maps}
use Rattle.lt_input_values.proofs.stub_order.stubs_in_order.Goals as goal

pub returns : goal.returns
returns c =
    let P : List StubSet → Type 0 = λ xs. IfOk c.with_other_values.result (λ ordered. ordered.items ≡ xs) in
    let first : c.in_ok-values_for_ranges.field-0.items ≡ filter_map (λ (range : StubRange). values_for c.in_ok-first.first range.name) c.args.spec.now.stubs = c.in_ok-values_for_ranges.ensures ∙ ap (filter_map (λ (range : StubRange). values_for c.in_ok-first.first range.name)) c.as_slice-ranges.ensures in
    let e : c.in_ok-values_for_ranges.field-0.items ++ filter (λ it. not (has_name c.in_ok-names.names it.name)) c.args.sets.now ≡ stubs_in_order c.args.spec.now c.args.sets.now =
    ap (λ xs. xs ++ filter (λ (it : StubSet). not (has_name c.in_ok-names.names it.name)) c.args.sets.now) first
    ∙ stubs_by_maps c.args.spec.now c.args.sets.now (values_for c.in_ok-first.first) (has_name c.in_ok-names.names) c.in_ok-first.ensures (λ name. c.in_ok-names.ensures name ∙ ap (list_any (λ (range : StubRange). bytes_eq range.name name)) c.as_slice-ranges.ensures) in
    subst P e c.with_other_values.ensures
