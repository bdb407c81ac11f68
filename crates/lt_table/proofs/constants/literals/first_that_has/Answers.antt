use Rattle.std.proofs.Common.{pos, sym, ◌∙◌}
use Rattle.lt_model.specs.declared.scalar.Scalar.TheVariants as S
use Rattle.lt_table.proofs.ConstantTypes.{passed_over, taken_here, none_left}
use Rattle.lt_table.proofs.constants.literals.first_that_has.Goals as goal

pub returns-then-may_have : goal.returns-then-may_have
returns-then-may_have c =
    sym (taken_here c.args.model c.args.decimal c.args.suffix.now (pos c.args.value) c.args.types.now c.loop-ty.ty-index S.Bool c.loop-ty-test.true (sym c.may_have.ensures ∙ c.if-may_have.true)) ∙ c.loop-ty.invariant

pub loop-ty-preserved : goal.loop-ty-preserved
loop-ty-preserved c =
    sym (passed_over c.args.model c.args.decimal c.args.suffix.now (pos c.args.value) c.args.types.now c.loop-ty.ty-index S.Bool c.loop-ty-test.true (sym c.may_have.ensures ∙ c.if-may_have.false)) ∙ c.loop-ty.invariant

pub returns : goal.returns
returns c = sym (none_left c.args.model c.args.decimal c.args.suffix.now (pos c.args.value) c.args.types.now c.loop-ty.ty-index c.loop-ty-test.false) ∙ c.loop-ty.invariant
