use Rattle.lt_value.proofs.Operands.{right_by_values, none_right_by_values, right_by_counts, right_by_divisors, none_right_by_divisors}
use Rattle.lt_value.proofs.operators.operand.right_operand.Goals as goal

pub returns-in-Div-clause-some : goal.returns-in-Div-clause-some
returns-in-Div-clause-some c = right_by_divisors c.args.model c.args.op c.args.ty c.args.n.now c.divisors.result c.in-Div.is c.divisors.ensures.some

pub returns-in-Div-clause-none : goal.returns-in-Div-clause-none
returns-in-Div-clause-none c = none_right_by_divisors c.args.model c.args.op c.args.ty c.args.n.now c.divisors.result c.in-Div.is c.divisors.ensures.none

pub returns-in-Shl-clause-some : goal.returns-in-Shl-clause-some
returns-in-Shl-clause-some c = right_by_counts c.args.model c.args.op c.args.ty c.args.n.now c.counts.result c.in-Shl.is c.counts.ensures.some

pub returns-in_default : goal.returns-in_default
returns-in_default c =
    let d = c.in_default in
    record {
      some = right_by_values c.args.model c.args.op c.args.ty c.args.n.now c.values.result (d.not-Div, d.not-Rem, d.not-Shl, d.not-Shr) c.values.ensures.some;
      none = none_right_by_values c.args.model c.args.op c.args.ty c.args.n.now c.values.result (d.not-Div, d.not-Rem, d.not-Shl, d.not-Shr) c.values.ensures.none;
    }
