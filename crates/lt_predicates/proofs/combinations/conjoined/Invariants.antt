use Rattle.std.proofs.Common.{◌≡◌, drop}
use Rattle.lt_tree.specs.View.{expression_of}
use Rattle.lt_objectives.specs.Decisions.{conjunctions}
use Rattle.lt_predicates.specs.Expressions.{expressions, pointed}
use Rattle.lt_predicates.proofs.Conjoined.{joined}
use Rattle.lt_predicates.proofs.combinations.conjoined.Given as goal

abbrev pub invariant-loop-clause : goal.invariant-loop-clause
invariant-loop-clause l = joined (λ e. expression_of e.now) (expressions l.made) (drop l.clause-index l.rest) ≡ conjunctions (pointed l.clauses)
