use Rattle.std.specs.Prelude.{int_div}
use Rattle.lt_value.proofs.Made.{least_is, greatest_is}
use Rattle.lt_value.proofs.operators.division.span_by.Goals as goal

pub returns-clause-lo : goal.returns-clause-lo
returns-clause-lo c =
    least_is int_div c.args.a.now c.args.divisors.now c.quotient-first.result c.quotient-second.result c.quotient-third.result c.quotient-fourth.result c.span_of.result.lo
    (record {
      first = c.quotient-first.ensures;
      second = c.quotient-second.ensures;
      third = c.quotient-third.ensures;
      fourth = c.quotient-fourth.ensures;
      first_fits = record { sfits = c.quotient-first.type_inv };
      second_fits = record { sfits = c.quotient-second.type_inv };
      third_fits = record { sfits = c.quotient-third.type_inv };
      fourth_fits = record { sfits = c.quotient-fourth.type_inv };
    }) c.span_of.ensures.lo

pub returns-clause-hi : goal.returns-clause-hi
returns-clause-hi c =
    greatest_is int_div c.args.a.now c.args.divisors.now c.quotient-first.result c.quotient-second.result c.quotient-third.result c.quotient-fourth.result c.span_of.result.hi
    (record {
      first = c.quotient-first.ensures;
      second = c.quotient-second.ensures;
      third = c.quotient-third.ensures;
      fourth = c.quotient-fourth.ensures;
      first_fits = record { sfits = c.quotient-first.type_inv };
      second_fits = record { sfits = c.quotient-second.type_inv };
      third_fits = record { sfits = c.quotient-third.type_inv };
      fourth_fits = record { sfits = c.quotient-fourth.type_inv };
    }) c.span_of.ensures.hi
