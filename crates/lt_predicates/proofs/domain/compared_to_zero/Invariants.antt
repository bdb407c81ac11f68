use Rattle.std.proofs.Common.{◌≡◌, take}
use Rattle.lt_tree.specs.Tree as t
use Rattle.lt_predicates.specs.Expressions.{expressions}
use Rattle.lt_predicates.specs.Domains.{relations_to_zero}
use Rattle.lt_predicates.proofs.domain.compared_to_zero.Given as goal

abbrev pub invariant-loop-relation : goal.invariant-loop-relation
invariant-loop-relation l = expressions l.list ≡ relations_to_zero (take l.relation-index l.relations) (t.Name l.variable)
