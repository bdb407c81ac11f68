use Rattle.std.proofs.Common.{◌∙◌, sym, ap}
use Rattle.std.specs.Prelude.{option_map}
use Rattle.lt_tree.specs.Typing.EntityView.{entity_of, tagged_of}
use Rattle.lt_tree.specs.Typing.Entities.{bound_among, innermost}
use Rattle.lt_env.specs.NamesValue.{frames_at}
use Rattle.lt_env.proofs.ScopeFrames.{name_here}
use Rattle.lt_env.proofs.symbols.names.Names.find_here.Goals as goal

pub returns : goal.returns
returns c = λ types.
    ap (option_map (entity_of types)) c.find_here.ensures
    ∙ sym (name_here (entity_of types) tagged_of c.args.name.now c.self.inside.names c.self.inside.tags)
    ∙ ap (λ value. bound_among c.args.name.now (innermost (frames_at types value)).names) c.self.view_is
