use Rattle.std.proofs.Common.{sym, ap, refl}
use Rattle.lt_mem.proofs.Blocks.{change_through}
use Rattle.lt_mem.proofs.Keeping.{given, kept_after_change, sealed_is, not_sealed}
use Rattle.lt_mem.proofs.memory.Memory.seal.Goals as goal
use Rattle.lt_mem.proofs.memory.Memory.seal.Goals.{in-Some, in_default}

pub invariant_of-self : goal.invariant_of-self
invariant_of-self c = elim c.match-get_mut.branch [
  | in-Some w ↦
      let at = sym w.in-Some.ensures.value in
      let change = change_through c.self.inside.living (c.get_mut.follows.lender w.seal.new.self) c.args.block w.in-Some.object.now w.seal.new.self (c.get_mut.follows.holds w.seal.new.self) at in
      rw w.self-inside-is (kept_after_change c.self.inside.living _ _ _ c.self.invariant (c.get_mut.follows.lender w.seal.new.self) c.args.block w.in-Some.object.now w.seal.new.self at change (rw w.seal.ensures refl))
  | in_default w ↦ rw (w.self-inside-is, c.get_mut.follows.holds-at-none) c.self.invariant
]

pub returns : goal.returns
returns c = elim c.match-get_mut.branch [
  | in-Some w ↦
      let at = sym w.in-Some.ensures.value in
      let change = change_through c.self.inside.living (c.get_mut.follows.lender w.seal.new.self) c.args.block w.in-Some.object.now w.seal.new.self (c.get_mut.follows.holds w.seal.new.self) at in
      let below = given c.self.inside.living c.self.inside.made _ _ c.self.invariant c.args.block w.in-Some.object.now at in
      rw (w.self-inside-is, ← c.self.view_is) (ap (λ blocks. record { model = c.self.inside.model; blocks = blocks }) (sealed_is c.self.inside.living (c.get_mut.follows.lender w.seal.new.self) c.self.inside.made c.args.block w.in-Some.object.now w.seal.new.self below at change w.seal.ensures))
  | in_default w ↦ rw (w.self-inside-is, c.get_mut.follows.holds-at-none, ← c.self.view_is) (ap (λ blocks. record { model = c.self.inside.model; blocks = blocks }) (not_sealed c.self.inside.living c.self.inside.made c.args.block (sym w.in_default.ensures.value)))
]
