use Rattle.std.proofs.Common.{◌∙◌, sym, ap}
use Rattle.std.specs.Prelude.{option_map}
use Rattle.lt_tree.specs.Typing.EntityView.{entity_of, tagged_of}
use Rattle.lt_tree.specs.Typing.Entities.{tagged_among, innermost}
use Rattle.lt_env.specs.NamesValue.{frames_at}
use Rattle.lt_env.proofs.ScopeFrames.{tag_here}
use Rattle.lt_env.proofs.symbols.names.Names.find_tag_here.Goals as goal

pub returns : goal.returns
returns c = λ types.
    ap (option_map tagged_of) c.find_here.ensures
    ∙ sym (tag_here (entity_of types) tagged_of c.args.tag.now c.self.inside.names c.self.inside.tags c.self.invariant)
    ∙ ap (λ value. tagged_among c.args.tag.now (innermost (frames_at types value)).tags) c.self.view_is
