use Rattle.std.proofs.Common.{◌≡◌, ◌++◌, map, length}
use Rattle.lt_tree.specs.Typing.EntityView as view
use Rattle.lt_tree.specs.Typing.EntityView.{tagged_of}
use Rattle.lt_env.specs.ScopeFrames.{tags_of}
use Rattle.lt_env.proofs.symbols.names.tags.Given as goal

abbrev pub invariant-tags : goal.invariant-tags
invariant-tags l = map view.tag_of l.list.items ++ tags_of tagged_of l.tags ≡ tags_of tagged_of l.fn.tags

abbrev pub decreases-tags : goal.decreases-tags
decreases-tags l = length l.tags
