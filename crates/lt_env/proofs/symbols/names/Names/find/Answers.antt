use Rattle.std.proofs.Common.{◌∙◌, sym, ap}
use Rattle.std.specs.Prelude.{option_map}
use Rattle.lt_tree.specs.Typing.EntityView.{entity_of, tagged_of}
use Rattle.lt_tree.specs.Typing.Entities.{bound_in}
use Rattle.lt_env.specs.NamesValue.{frames_at}
use Rattle.lt_env.proofs.ScopeFrames.{name_in}
use Rattle.lt_env.proofs.symbols.names.Names.find.Goals as goal

pub returns : goal.returns
returns c = λ types.
    ap (option_map (entity_of types)) c.find.ensures
    ∙ sym (name_in (entity_of types) tagged_of c.args.name.now c.self.inside.names c.self.inside.tags)
    ∙ ap (λ value. bound_in c.args.name.now (frames_at types value)) c.self.view_is
