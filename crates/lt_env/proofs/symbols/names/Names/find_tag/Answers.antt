use Rattle.std.proofs.Common.{◌∙◌, sym, ap}
use Rattle.std.specs.Prelude.{option_map}
use Rattle.lt_tree.specs.Typing.EntityView.{entity_of, tagged_of}
use Rattle.lt_tree.specs.Typing.Entities.{tagged_in}
use Rattle.lt_env.specs.NamesValue.{frames_at}
use Rattle.lt_env.proofs.ScopeFrames.{tag_in}
use Rattle.lt_env.proofs.symbols.names.Names.find_tag.Goals as goal

pub returns : goal.returns
returns c = λ types.
    ap (option_map tagged_of) c.find.ensures
    ∙ sym (tag_in (entity_of types) tagged_of c.args.tag.now c.self.inside.names c.self.inside.tags c.self.invariant)
    ∙ ap (λ value. tagged_in c.args.tag.now (frames_at types value)) c.self.view_is
