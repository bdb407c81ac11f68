use Rattle.std.proofs.Common.{◌≡◌, [], map, refl, ap, ◌∙◌}
use Rattle.lt_tree.specs.Typing.TypeRows.{type_in, types_of_rows}
use Rattle.lt_tree.specs.Typing.Programs.{with_new}
use Rattle.lt_unit.specs.ListedTypes.{types_in_all}
use Rattle.lt_type.proofs.Sequences.{stopped}
use Rattle.lt_unit.proofs.ProgramRanges.{ArePartsOf, rows_before, lists_in_range, lists_have_rows}
use Rattle.lt_unit.proofs.program.program.Goals as goal

pub invariant_of-result : goal.invariant_of-result
invariant_of-result c =
    let parts : ArePartsOf c.args.walker c.in_ok-types.field-0.structs.items c.into_list-objects.result.items c.into_list-declared.result.items c.into_list.result.items c.into_list-2.result.items = record {
      structs_are = c.in_ok-types.ensures.structs;
      objects_are = c.into_list-objects.ensures;
      declared_are = c.into_list-declared.ensures;
      functions_are = c.into_list.ensures;
      labels_are = c.into_list-2.ensures;
    } in
    let at = types_of_rows c.in_ok-types.field-0.types.rows.items in
    let listed : map (type_in at) c.in_ok-listed.listed.items ≡ with_new [] (types_in_all at c.in_ok-types.field-0.structs.items c.into_list-objects.result.items c.into_list-declared.result.items c.args.walker.facts.items) =
    c.in_ok-listed.ensures.listed
    ∙ ap (λ l. with_new [] (types_in_all at l c.deref-2.result.now c.deref-3.result.now c.deref-4.result.now)) c.deref.ensures.value
    ∙ ap (λ l. with_new [] (types_in_all at c.in_ok-types.field-0.structs.items l c.deref-3.result.now c.deref-4.result.now)) c.deref-2.ensures.value
    ∙ ap (λ l. with_new [] (types_in_all at c.in_ok-types.field-0.structs.items c.into_list-objects.result.items l c.deref-4.result.now)) c.deref-3.ensures.value
    ∙ ap (λ l. with_new [] (types_in_all at c.in_ok-types.field-0.structs.items c.into_list-objects.result.items c.into_list-declared.result.items l)) c.deref-4.ensures.value in
    record {
      in_range = lists_in_range c.args.walker c.args.unit.now c.in_ok-file.file c.in_ok-listed.listed.items c.in_ok-types.field-0.types.rows.items _ _ _ _ _ c.requires c.in_ok-types.ensures.grows parts c.in_ok-file.ensures listed c.in_ok-listed.ensures.rows;
      has_rows = lists_have_rows c.args.walker c.args.unit.now c.in_ok-file.file c.in_ok-listed.listed.items c.in_ok-types.field-0.types.rows.items _ _ _ _ _ c.requires c.in_ok-types.ensures.grows parts c.in_ok-file.ensures listed c.in_ok-listed.ensures.rows;
      rows_before = rows_before c.in_ok-types.field-0.types.rows.items c.in_ok-types.ensures.known.once;
    }

pub returns-in_err-file : goal.returns-in_err-file
returns-in_err-file c = rw (stopped c.from_residual.ensures) refl

pub returns-in_err-types : goal.returns-in_err-types
returns-in_err-types c = rw (stopped c.from_residual-in_err-types.ensures) refl

pub returns-in_err-listed : goal.returns-in_err-listed
returns-in_err-listed c = rw (stopped c.from_residual-in_err-listed.ensures) refl
