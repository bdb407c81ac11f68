use Rattle.std.proofs.Common.{arith, sym, ap, None}
use Rattle.lt_mem.proofs.Blocks.{change_from, changed}
use Rattle.lt_mem.proofs.Keeping.{cells_below, kept_after_end}
use Rattle.lt_mem.proofs.memory.Memory.end.Goals as goal

pub overflow_sub-self : goal.overflow_sub-self
overflow_sub-self c = omega (arith, c.len.ensures, cells_below c.self.inside.living _ _ _ c.self.invariant c.args.block c.in-Some.object (sym c.in-Some.ensures.value))

pub invariant_of-self : goal.invariant_of-self
invariant_of-self c =
    let change = change_from c.self.inside.living c.remove.new.self c.args.block None c.in-Some.ensures.updates in
    rw c.len.ensures (kept_after_end c.self.inside.living _ _ _ c.self.invariant c.remove.new.self c.args.block c.in-Some.object (sym c.in-Some.ensures.value) change)

pub returns-in-Some : goal.returns-in-Some
returns-in-Some c =
    let change = change_from c.self.inside.living c.remove.new.self c.args.block None c.in-Some.ensures.updates in
    rw (← c.self.view_is) (ap (λ blocks. record { model = c.self.inside.model; blocks = blocks }) (changed c.self.inside.living c.remove.new.self c.args.block None change c.self.inside.made))

pub returns-in_default : goal.returns-in_default
returns-in_default c =
    let change = change_from c.self.inside.living c.remove.new.self c.args.block None c.in_default.ensures.updates in
    rw (← c.self.view_is) (ap (λ blocks. record { model = c.self.inside.model; blocks = blocks }) (changed c.self.inside.living c.remove.new.self c.args.block None change c.self.inside.made))
