use Rattle.std.proofs.Common.{◌≡◌, ◌++◌, List, map, length}
use Rattle.lt_tree.specs.Typing.Types.{CType}
use Rattle.lt_tree.specs.Typing.EntityView as view
use Rattle.lt_tree.specs.Typing.EntityView.{entity_of}
use Rattle.lt_env.specs.ScopeFrames.{names_of}
use Rattle.lt_env.proofs.symbols.names.bounds.Given as goal

abbrev pub invariant-names : goal.invariant-names
invariant-names l = (types : List CType) → map (view.bound_of types) l.list.items ++ names_of (entity_of types) l.names ≡ names_of (entity_of types) l.fn.names

abbrev pub decreases-names : goal.decreases-names
decreases-names l = length l.names
