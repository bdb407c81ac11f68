use Rattle.std.proofs.Common.{arith, rules, ap, sym, subst}
use Rattle.std.specs.Vec.{vec_capacity}
use Rattle.lt_lin.specs.Terms.{IsOrdered}
use Rattle.std.proofs.lemmas.Int.{to_z-of_z}
use Rattle.lt_lin.proofs.Scaling.{scaled_ordered}
use Rattle.lt_lin.proofs.scratch.Scratch.set_quotients.Goals as goal

pub invariant_of-self : goal.invariant_of-self
invariant_of-self c =
    let fd = c.ranges.divisor in
    let e = simp to_z-of_z at (c.if-divides.ensures.items (search rules)) in (
      subst IsOrdered (sym (ap (λ v. v.items) c.swap.ensures.x_after)) (scaled_ordered 0 c.args.divisor _ (subst IsOrdered e c.requires.ordered)),
      omega (arith, ap vec_capacity c.swap.ensures.x_after, c.push_quotients-divides.ensures.capacity, c.clear.ensures.capacity, c.self.invariant),
      omega (arith, ap vec_capacity c.swap.ensures.y_after, c.self.invariant),
    )
