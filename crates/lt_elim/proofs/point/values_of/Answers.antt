use Rattle.std.proofs.Common.{refl, ap, ◌∙◌, sym, List}
use Rattle.lt_elim.specs.declared.fraction.Fraction as code
use Rattle.lt_elim.specs.Decision.{point}
use Rattle.lt_elim.specs.Reckoning.{fractions_of}
use Rattle.lt_elim.proofs.Reckoned.{stage_at, stage_bounds, value_passes}
use Rattle.lt_elim.proofs.point.values_of.Goals as goal

pub value-requires-clause-raising : goal.value-requires-clause-raising
value-requires-clause-raising c =
    let i = stage_at c.args.variables c.variables.variable c.args.stages.now c.index-stages-variables.result c.requires.count c.variables-test.true c.index-stages-variables.is in
    (stage_bounds c.args.variables c.variables.variable c.args.stages.now c.index-stages-variables.result i c.requires.bounding).0

pub value-requires-clause-lowering : goal.value-requires-clause-lowering
value-requires-clause-lowering c =
    let i = stage_at c.args.variables c.variables.variable c.args.stages.now c.index-stages-variables.result c.requires.count c.variables-test.true c.index-stages-variables.is in
    (stage_bounds c.args.variables c.variables.variable c.args.stages.now c.index-stages-variables.result i c.requires.bounding).1

pub returns-in_default : goal.returns-in_default
returns-in_default c =
    let i = stage_at c.args.variables c.variables.variable c.args.stages.now c.index-stages-variables.result c.requires.count c.variables-test.true c.index-stages-variables.is in
    value_passes c.args.limited c.args.variables c.variables.variable c.args.stages.now c.index-stages-variables.result (fractions_of c.as_slice.result.now) i c.requires.can
    (c.variables.invariant.value ∙ ap (λ (vs : List code.Fraction). point (fractions_of vs)) (sym c.as_slice.ensures.value)) c.in_default.ensures.value (c.in_default.ensures.unfit refl)
