use Rattle.std.proofs.Common.{◌≡◌, take}
use Rattle.lt_tree.specs.View.{expression_of}
use Rattle.lt_predicates.specs.Expressions.{expressions}
use Rattle.lt_predicates.specs.Differences.{copied_others}
use Rattle.lt_predicates.proofs.differences.differences_but.Given as goal

abbrev pub invariant-loop-other : goal.invariant-loop-other
invariant-loop-other l = expressions l.list ≡ copied_others (take l.other-index l.ops) l.op (expression_of l.e)
