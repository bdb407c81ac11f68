use Rattle.std.proofs.Common.{rules}
use Rattle.std.proofs.lemmas.Int.{to_z-of_z}
use mir.Val.{SFits}
use mir.Syntax.{w128}
use Rattle.lt_elim.specs.Fraction.{fraction}
use Rattle.lt_elim.specs.Reckoning.{fractions_of}
use Rattle.lt_elim.proofs.Reckoning.{term_unfit, other_variable}
use Rattle.lt_elim.proofs.point.term_added.Goals as goal

pub returns-clause-unfit : goal.returns-clause-unfit
returns-clause-unfit c =
    let k : SFits w128 c.args.term.now.1 = search rules in
    let product = simp to_z-of_z at c.in-Some.ensures.value in
    λ none no_limit. term_unfit c.args.limited c.args.variable (fractions_of c.args.values.now) c.args.term.now (fraction c.args.before.over c.args.before.under) (fraction c.value_at.result.over c.value_at.result.under) (fraction c.in-Some.product.over c.in-Some.product.under)
    (other_variable c.args.term.now.0 c.args.variable c.if-x-variable.false) c.value_at.ensures product (c.plus.ensures.unfit none no_limit) no_limit
