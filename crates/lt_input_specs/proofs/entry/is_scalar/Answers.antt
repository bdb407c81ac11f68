use Rattle.std.proofs.Common.{◌≡◌, None, Some, sym, ap, ◌∙◌}
use Rattle.std.specs.Prelude.{option_map}
use Rattle.std.specs.List.{list_all}
use Rattle.lt_tree.specs.Typing.Types.{is_scalar}
use Rattle.lt_entry.specs.Naming.{Root}
use Rattle.lt_input_specs.proofs.Lists.{and_true}
use Rattle.lt_input_specs.proofs.EntryLaws.{root_one}
use Rattle.lt_input_specs.proofs.entry.is_scalar.Goals as goal

pub returns-in-None : goal.returns-in-None
returns-in-None c =
    sym
    (ap (list_all (λ (parameter : Root). is_scalar parameter.type))
    (root_one c.args.kinds.now.program.now c.args.number None (sym (ap (option_map (λ object. object.now)) c.in-None.is) ∙ c.object_at.ensures)))

pub returns-in-Some : goal.returns-in-Some
returns-in-Some c =
    c.is_scalar.ensures ∙ sym (and_true _)
    ∙ sym
    (ap (list_all (λ (parameter : Root). is_scalar parameter.type))
    (root_one c.args.kinds.now.program.now c.args.number (Some c.in-Some.object.now) (sym (ap (option_map (λ object. object.now)) c.in-Some.is) ∙ c.object_at.ensures)))
