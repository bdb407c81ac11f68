use Rattle.std.proofs.Common.{ap, ◌∙◌}
use Rattle.std.specs.List.{list_any}
use Rattle.std.specs.Option.{is_some}
use Rattle.std.specs.Str.{bytes_eq}
use Rattle.lt_copies.specs.Blocks.{BlocksValue, tags_of}
use Rattle.lt_copies.proofs.Known.{in_scope}
use Rattle.lt_copies.proofs.blocks.Blocks.knows.Goals as goal

pub returns : goal.returns
returns c = c.is_some.ensures ∙ ap is_some c.find.ensures ∙ in_scope c.args.tag.now c.self.inside.scopes ∙ ap (λ (b : BlocksValue). list_any (bytes_eq c.args.tag.now) (tags_of b.frames)) c.self.view_is
