use Rattle.std.proofs.Common.{◌≡◌, take}
use Rattle.lt_tree.specs.View.{expression_of}
use Rattle.lt_predicates.specs.Expressions.{expressions}
use Rattle.lt_predicates.specs.Conjunctions.{all_extensions}
use Rattle.lt_predicates.proofs.combinations.extended.Given as goal

abbrev pub invariant-loop-e : goal.invariant-loop-e
invariant-loop-e l = expressions l.list ≡ all_extensions (take l.e-index l.made) (expression_of l.clause)
