use Rattle.std.proofs.Common.{◌++◌, ap, ◌∙◌}
use Rattle.std.specs.List.{filter}
use Rattle.lt_tree.specs.declared.typed.entity.Object.{Object}
use Rattle.lt_spec_reader.specs.declared.objects.Lookups.{Lookups}
use Rattle.lt_spec_reader.specs.Objects.{is_first_life}
use Rattle.lt_spec_reader.proofs.FreedLaws.{all_are, hidden_is}
use Rattle.lt_spec_reader.proofs.Loops.{on_ok_map}
use Rattle.lt_spec_reader.proofs.objects.put_freed_cells.Goals as goal

pub returns : goal.returns
returns c = λ scope lines same are said.
    let program = c.args.tables.now.program.now in
    let lookups : Lookups = record { hidden = c.in_ok-own_names.field-0; firsts = c.in_ok-firsts_of.field-0; wants = c.args.wants } in
    let firsts = c.in_ok-firsts_of.ensures ∙ ap (filter (λ (it : Object). is_first_life it.life)) c.deref.ensures.value in
    on_ok_map c.put_objects.result
    (λ put. put ∙ ap (λ l. c.args.cells.now.items ++ l)
    (all_are lookups program scope lines same (λ name. c.in_ok-own_names.ensures name ∙ hidden_is program c.args.parameters.now scope.parameters name are) said firsts c.deref-2.result.now (c.deref-2.ensures.value ∙ c.in_ok-all.ensures)))
    c.put_objects.ensures
