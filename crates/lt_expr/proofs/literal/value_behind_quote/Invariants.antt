use Rattle.std.proofs.Common.{◌≡◌, ◌-◌, length}
use Rattle.lt_expr.specs.Literals.{value_within}
use Rattle.lt_expr.proofs.Texts.{spelled}
use Rattle.lt_expr.proofs.literal.value_behind_quote.Given as goal

abbrev pub invariant-bytes : goal.invariant-bytes
invariant-bytes l = spelled l.value.items (value_within (length l.bytes - l._turn) l.rest) ≡ value_within (length l.bytes) l.bytes
