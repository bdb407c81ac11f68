use Rattle.std.proofs.Common.{take}
use Rattle.std.specs.Prelude.{All, neg_ℤ}
use Rattle.lt_lin.specs.Terms.{Fits}
use Rattle.lt_lin.proofs.derive.can_negate.Given as goal

abbrev pub invariant-terms : goal.invariant-terms
invariant-terms l = All (λ t. Fits (neg_ℤ t.1)) (take l.c-index l.terms)
