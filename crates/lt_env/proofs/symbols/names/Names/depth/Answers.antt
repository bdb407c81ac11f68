use Rattle.std.proofs.Common.{◌∙◌, sym, ap, length}
use Rattle.lt_tree.specs.Typing.EntityView.{entity_of, tagged_of}
use Rattle.lt_env.specs.NamesValue.{frames_at}
use Rattle.lt_env.proofs.ScopeFrames.{frames_length}
use Rattle.lt_env.proofs.symbols.names.Names.depth.Goals as goal

pub returns : goal.returns
returns c = λ types.
    c.depth.ensures ∙ sym (frames_length (entity_of types) tagged_of c.self.inside.names c.self.inside.tags) ∙ ap (λ value. length (frames_at types value)) c.self.view_is
