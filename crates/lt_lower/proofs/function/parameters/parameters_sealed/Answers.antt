use Rattle.std.proofs.Common.{◌-◌, get_or, length, ap, arith}
use Rattle.lt_emit.proofs.Spent.{as_given}
use Rattle.lt_lower.proofs.Parameters.{seals_none, seals_more, seals_all}
use Rattle.lt_lower.proofs.function.parameters.parameters_sealed.Goals as goal

pub parameters-init : goal.parameters-init
parameters-init c = record {
  code = seals_none c.args.to _ (omega (arith, ap length c.as_slice-parameters.ensures.value)) c.requires;
  opens = λ sound behind. behind;
}

pub parameter_sealed-requires-clause-point : goal.parameter_sealed-requires-clause-point
parameter_sealed-requires-clause-point c = c.parameters.invariant.code.emits.within

pub parameter_sealed-requires-clause-parameter : goal.parameter_sealed-requires-clause-parameter
parameter_sealed-requires-clause-parameter c =
    omega (
      arith,
      c.parameters-test.true,
      c.parameters.auto.at,
      ap length c.as_slice-parameters.ensures.value,
      ap (λ h. length h.function.parameters) c.parameters.invariant.code.emits.adds.grows.same,
    )

pub parameters-preserved : goal.parameters-preserved
parameters-preserved c =
    let k = c.parameters.at in
    record {
      code = seals_more c.args.to c.parameters.from k c.in_ok-from.from (get_or c.as_slice-parameters.result.now (k - 1) 0) c.parameters-test.true
          (omega (arith, c.parameters.auto.at, ap length c.as_slice-parameters.ensures.value))
          (ap (λ row. get_or row (k - 1) 0) c.as_slice-parameters.ensures.value)
          c.parameters.invariant.code c.in_ok-from.ensures.code;
      opens = λ sound behind.
          c.in_ok-from.ensures.enters (c.parameters.invariant.code.emits.adds.grows.sound sound) (c.parameters.invariant.opens sound behind);
    }

pub returns-clause-enters : goal.returns-clause-enters
returns-clause-enters c = c.parameters.invariant.opens

pub returns-clause-code : goal.returns-clause-code
returns-clause-code c = as_given (seals_all c.args.to c.parameters.from c.parameters.at (omega arith) c.parameters.invariant.code)
