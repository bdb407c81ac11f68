use Rattle.std.proofs.Common.{◌∙◌, ◌-◌, true, false, sym, arith}
use Rattle.lt_mach_parts.proofs.Scoped.{last_before}
use Rattle.lt_mach_parts.proofs.bounds.last_of.Goals as goal

pub returns-then-is_same : goal.returns-then-is_same
returns-then-is_same c = sym (c.loop-place.invariant.1 ∙ last_before c.args.list.now c.args.v (c.loop-place.place - 1) c.loop-place.place _ true (omega arith) c.loop-place.invariant.0 (sym c.is_same.ensures ∙ c.if-is_same.true))

pub loop-place-preserved : goal.loop-place-preserved
loop-place-preserved c = (omega arith, c.loop-place.invariant.1 ∙ last_before c.args.list.now c.args.v (c.loop-place.place - 1) c.loop-place.place _ false (omega arith) c.loop-place.invariant.0 (sym c.is_same.ensures ∙ c.if-is_same.false))
