use Rattle.std.proofs.Common.{◌≡◌, length}
use Rattle.lt_tree.specs.View.{qualifiers_of}
use Rattle.lt_expr.specs.Front as front
use Rattle.lt_expr.specs.Parsing.{rest_of, GoesOn}
use Rattle.lt_expr.proofs.Qualifiers.{before}
use Rattle.lt_expr.proofs.parser.Parser.qualifiers.Given as goal

abbrev pub decreases-more : goal.decreases-more
decreases-more l = length (rest_of l.self).0

abbrev pub invariant-more : goal.invariant-more
invariant-more l = record {
  read : before (qualifiers_of l.quals) (front.qualifiers (rest_of l.self).0) ≡ front.qualifiers (rest_of l.fn.self).0;
  ends : (rest_of l.self).1 ≡ (rest_of l.fn.self).1;
  on : GoesOn l.fn.self l.self;
}
