use Rattle.std.proofs.Common.{refl, inl, inr, ◌⊎◌, ◌≢◌, pos}
use Rattle.lt_value.proofs.Cuts.{if_some_as, if_none_as}
use Rattle.lt_value.proofs.Operands.{divisors_taken, no_divisors_but, only_zero, lo_zero, hi_zero, zero_to_code}
use Rattle.lt_value.proofs.operators.operand.divisors.Goals as goal
use Rattle.lt_value.proofs.operators.operand.divisors.Goals.{else-values-eq0-via-then-values-eq0+else-values-eq0-2, else-values-eq0-via-else-values-eq0}

pub returns-then-values-eq0-2-clause-none : goal.returns-then-values-eq0-2-clause-none
returns-then-values-eq0-2-clause-none c =
    let v = c.in_ok-values.values in
    only_zero c.args.model c.args.ty c.args.n.now v c.in_ok-values.ensures.some (lo_zero v c.if-values-eq0.true) (hi_zero v c.if-values-eq0-2.true)

pub returns-else-values-eq0-clause-some : goal.returns-else-values-eq0-clause-some
returns-else-values-eq0-clause-some c =
    let v = c.in_ok-values.values in
    let ne : (v.lo ≢ pos 0) ⊎ (v.hi ≢ pos 0) = elim c.else-values-eq0.branch [
      | else-values-eq0-via-then-values-eq0+else-values-eq0-2 w ↦ inr (λ e. w.if-values-eq0-2.false (zero_to_code v.hi e))
      | else-values-eq0-via-else-values-eq0 w ↦ inl (λ e. w.if-values-eq0.false (zero_to_code v.lo e))
    ] in
    if_some_as _ _ (λ p. divisors_taken c.args.model c.args.ty c.args.n.now v p _ refl c.in_ok-values.ensures.some ne) c.without.result c.without.ensures.some

pub returns-else-values-eq0-clause-none : goal.returns-else-values-eq0-clause-none
returns-else-values-eq0-clause-none c =
    let v = c.in_ok-values.values in
    if_none_as _ _ (no_divisors_but c.args.model c.args.ty c.args.n.now v _ refl c.in_ok-values.ensures.some) c.without.result c.without.ensures.none
