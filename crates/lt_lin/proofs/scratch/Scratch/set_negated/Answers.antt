use Rattle.std.proofs.Common.{arith, sym, subst}
use Rattle.lt_lin.specs.Terms.{IsOrdered}
use Rattle.lt_lin.proofs.Scaling.{negated_ordered}
use Rattle.lt_lin.proofs.scratch.Scratch.set_negated.Goals as goal

pub invariant_of-self : goal.invariant_of-self
invariant_of-self c =
    (subst IsOrdered (sym c.push_negated.ensures.items) (negated_ordered 0 c.args.terms.now c.requires.ordered), omega (arith, c.self.invariant, c.clear.ensures.capacity, c.push_negated.ensures.capacity), omega (arith, c.self.invariant))
