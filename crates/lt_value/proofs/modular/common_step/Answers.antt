use Rattle.std.proofs.Common.{inl, inr}
use Rattle.std.proofs.Math.Nat.{pos_of_ne-zero}
use Rattle.lt_value.proofs.Common.{no_step_by_zero, no_step_at, step_at, gcd_pos}
use Rattle.lt_value.proofs.modular.common_step.Goals as goal

pub returns-then-s-eq0 : goal.returns-then-s-eq0
returns-then-s-eq0 c =
    no_step_by_zero c.args.s c.args.t c.args.room (elim c.then-s-eq0.either [ inl e ↦ inl e | inr p ↦ inr p.1 ])

pub nonzero_div-turns : goal.nonzero_div-turns
nonzero_div-turns c = gcd_pos _ _ _ _ (pos_of_ne-zero c.if-t-eq0.false) c.inverse_of.ensures

pub returns-then-turns-room : goal.returns-then-turns-room
returns-then-turns-room c = no_step_at _ _ _ _ _ (pos_of_ne-zero c.if-s-eq0.false) (pos_of_ne-zero c.if-t-eq0.false) c.inverse_of.ensures c.if-turns-room.true

pub returns-else-turns-room : goal.returns-else-turns-room
returns-else-turns-room c = step_at _ _ _ _ _ (pos_of_ne-zero c.if-s-eq0.false) (pos_of_ne-zero c.if-t-eq0.false) c.inverse_of.ensures c.if-turns-room.false
