use Rattle.std.proofs.Common.{arith, rules, ◌∙◌, sym}
use mir.Val.{SFits}
use mir.Syntax.{w128}
use Rattle.std.proofs.lemmas.Int.{to_z-of_z, ints}
use Rattle.lt_lin.proofs.Whole.{exact_is, exact_gives}
use Rattle.lt_lin.proofs.adding.exact_quotient.Goals as goal

pub returns-then-rem_euclid-eq0 : goal.returns-then-rem_euclid-eq0
returns-then-rem_euclid-eq0 c =
    let fc = c.ranges.c in
    let fd = c.ranges.divisor in
    let fq : SFits w128 c.div_euclid.result = search rules in
    let fr : SFits w128 c.rem_euclid.result = search rules in
    let d = simp to_z-of_z at c.div_euclid.ensures in
    let r = simp to_z-of_z at c.rem_euclid.ensures.value in
    simp to_z-of_z (rw d (exact_is c.args.c c.args.divisor c.requires (sym r ∙ omega (arith, ints))))

pub returns-else-rem_euclid-eq0 : goal.returns-else-rem_euclid-eq0
returns-else-rem_euclid-eq0 c =
    λ q e.
    let fc = c.ranges.c in
    let fd = c.ranges.divisor in
    let r = simp to_z-of_z at c.rem_euclid.ensures.value in
    let z = r ∙ exact_gives c.args.c c.args.divisor q c.requires e in
    omega (arith, ints)
