use Rattle.std.proofs.Common.{◌++◌, ◌∷◌, [], None, Some, map, sym, ap, ◌∙◌}
use Rattle.std.specs.Prelude.{option_map}
use Rattle.std.proofs.lemmas.List.{append-nil, map-append}
use Rattle.lt_input_specs.specs.Defaults.{root_of}
use Rattle.lt_input_specs.proofs.EntryLaws.{root_one}
use Rattle.lt_input_specs.proofs.parameters.put_object.Goals as goal

pub returns-in-None : goal.returns-in-None
returns-in-None c =
    sym (append-nil _)
    ∙ ap (λ l. map (λ object. root_of c.args.kinds.now.program.now object.now) c.args.objects.now.items ++ l)
    (sym (root_one c.args.kinds.now.program.now c.args.number None (sym (ap (option_map (λ object. object.now)) c.in-None.is) ∙ c.object_at.ensures)))
