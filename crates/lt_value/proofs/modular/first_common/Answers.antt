use Rattle.std.proofs.Common.{◌<◌, ◌≤◌, ◌/◌, subst, ℕ}
use Rattle.std.proofs.Math.Nat.{pos_of_ne-zero, dvd_of_mod-eq-zero, mod-eq-zero_of_dvd}
use Rattle.lt_value.proofs.Common.{zero_is_first, common_by_zero, gcd_pos, quotient_pos, need_is, common_at, none_at, none_by_gcd}
use Rattle.lt_value.proofs.modular.first_common.Goals as goal

pub returns-then-divides-clause-some : goal.returns-then-divides-clause-some
returns-then-divides-clause-some c = zero_is_first _ _ _ _ (c.divides.ensures.0 c.if-divides.true)

pub returns-else-divides-clause-none : goal.returns-else-divides-clause-none
returns-else-divides-clause-none c = λ y h. cc (c.divides.ensures.1 (common_by_zero _ _ _ _ y c.then-s-eq0.either h), c.if-divides.false)

pub nonzero_rem-need-3 : goal.nonzero_rem-need-3
nonzero_rem-need-3 c = gcd_pos _ _ _ _ (pos_of_ne-zero c.if-t-eq0.false) c.inverse_of-inverse.ensures

pub nonzero_div-need : goal.nonzero_div-need
nonzero_div-need c = gcd_pos _ _ _ _ (pos_of_ne-zero c.if-t-eq0.false) c.inverse_of-inverse.ensures

pub nonzero_div-t : goal.nonzero_div-t
nonzero_div-t c = gcd_pos _ _ _ _ (pos_of_ne-zero c.if-t-eq0.false) c.inverse_of-inverse.ensures

pub returns-then-need-inverse-ne0-clause-none : goal.returns-then-need-inverse-ne0-clause-none
returns-then-need-inverse-ne0-clause-none c =
    let some = pos_of_ne-zero c.if-t-eq0.false in
    none_by_gcd _ _ _ _ _ _ _ some c.inverse_of-inverse.ensures (λ d. c.if-need-inverse-ne0.true (mod-eq-zero_of_dvd _ d)) (need_is _ _ some)

pub mul_mod-steps-requires-clause-m_above : goal.mul_mod-steps-requires-clause-m_above
mul_mod-steps-requires-clause-m_above c = quotient_pos _ _ (pos_of_ne-zero c.if-t-eq0.false) c.inverse_of-inverse.ensures.gcd.1

pub returns-then-steps-room-clause-none : goal.returns-then-steps-room-clause-none
returns-then-steps-room-clause-none c =
    let some = pos_of_ne-zero c.if-t-eq0.false in
    none_at _ _ _ _ _ _ _ (pos_of_ne-zero c.if-s-eq0.false) some c.inverse_of-inverse.ensures (dvd_of_mod-eq-zero _ c.if-need-inverse-ne0.false) (need_is _ _ some) (subst (λ (k : ℕ). c.args.room / c.args.s < k) c.mul_mod-steps.ensures.value c.if-steps-room.true)

pub returns-else-steps-room-clause-some : goal.returns-else-steps-room-clause-some
returns-else-steps-room-clause-some c =
    let some = pos_of_ne-zero c.if-t-eq0.false in
    let le = subst (λ (k : ℕ). k ≤ c.args.room / c.args.s) c.mul_mod-steps.ensures.value c.if-steps-room.false in
    rw c.mul_mod-steps.ensures.value (common_at _ _ _ _ _ _ _ (pos_of_ne-zero c.if-s-eq0.false) some c.inverse_of-inverse.ensures (dvd_of_mod-eq-zero _ c.if-need-inverse-ne0.false) (need_is _ _ some) le)
