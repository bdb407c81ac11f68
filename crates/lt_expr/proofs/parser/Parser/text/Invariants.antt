use Rattle.std.proofs.Common.{◌≡◌, length}
use Rattle.lt_expr.specs.Literals.{text_of}
use Rattle.lt_expr.specs.Parsing.{rest_of, GoesOn}
use Rattle.lt_expr.proofs.Texts.{text_behind}
use Rattle.lt_expr.proofs.parser.Parser.text.Given as goal

abbrev pub decreases-more : goal.decreases-more
decreases-more l = length (rest_of l.self).0

abbrev pub invariant-more : goal.invariant-more
invariant-more l = record {
  read : text_behind l.bytes.items (text_of (rest_of l.self).0) ≡ text_of (rest_of l.fn.self).0;
  ends : (rest_of l.self).1 ≡ (rest_of l.fn.self).1;
  on : GoesOn l.fn.self l.self;
}
