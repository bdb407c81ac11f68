use Rattle.std.proofs.Common.{arith, rules, sym}
use mir.Val.{SFits}
use mir.Syntax.{w128}
use Rattle.std.proofs.lemmas.Int.{to_z-of_z, ints}
use Rattle.lt_lin.proofs.Sums.{adds, adds_none}
use Rattle.lt_lin.proofs.derive.add_row.Goals as goal

pub returns-then-add-clause-sum : goal.returns-then-add-clause-sum
returns-then-add-clause-sum c =
    let fc = c.ranges.constant in
    let fb = c.ranges.by in
    let fk : SFits w128 c.in-Some.found.1 = search rules in
    let fn : SFits w128 c.in-Some-add_product.next = search rules in
    let s = simp to_z-of_z at (c.in-Some-add_product.ensures {u = tt}) in
    let a = simp to_z-of_z at (c.if-add.ensures.added (search rules)) in
    simp to_z-of_z (adds c.args.known.now.rows _ _ _ (c.args.row, c.args.by) c.in-Some.ensures.row (omega (arith, ints, c.if-by-lt0.false)) a s.0 (sym s.1))

pub returns-else-add-clause-sum : goal.returns-else-add-clause-sum
returns-else-add-clause-sum c =
    let fc = c.ranges.constant in
    let fb = c.ranges.by in
    let u = simp to_z-of_z at (c.if-add.ensures.unfit (search rules)) in
    adds_none c.args.known.now.rows _ _ (c.args.row, c.args.by) c.in-Some.ensures.row (λ p f g can. u can)
