use Rattle.lt_value.proofs.MadeQuotients.{span_positive, span_negative, span_both, positive_ends, negative_ends}
use Rattle.lt_value.proofs.operators.division.quotient_span.Goals as goal

pub span_by-requires-in-Some-up_to-2-clause-lo : goal.span_by-requires-in-Some-up_to-2-clause-lo
span_by-requires-in-Some-up_to-2-clause-lo c = (positive_ends c.args.b.now c.in-Some.positive c.in-Some.ensures.some).0

pub span_by-requires-in-Some-up_to-2-clause-hi : goal.span_by-requires-in-Some-up_to-2-clause-hi
span_by-requires-in-Some-up_to-2-clause-hi c = (positive_ends c.args.b.now c.in-Some.positive c.in-Some.ensures.some).1

pub span_by-requires-in-Some-up_to-2-2-clause-lo : goal.span_by-requires-in-Some-up_to-2-2-clause-lo
span_by-requires-in-Some-up_to-2-2-clause-lo c = (negative_ends c.args.b.now c.in-Some-up_to-2.negative c.in-Some-up_to-2.ensures.some).0

pub span_by-requires-in-Some-up_to-2-2-clause-hi : goal.span_by-requires-in-Some-up_to-2-2-clause-hi
span_by-requires-in-Some-up_to-2-2-clause-hi c = (negative_ends c.args.b.now c.in-Some-up_to-2.negative c.in-Some-up_to-2.ensures.some).1

pub returns-in-Some-up_to-clause-some : goal.returns-in-Some-up_to-clause-some
returns-in-Some-up_to-clause-some c =
    span_negative c.args.a.now c.args.b.now c.in-Some-up_to.negative c.span_by.result.lo c.span_by.result.hi c.in-None.ensures.none c.in-Some-up_to.ensures.some c.span_by.ensures.lo c.span_by.ensures.hi

pub returns-in-None-up_to-2-clause-some : goal.returns-in-None-up_to-2-clause-some
returns-in-None-up_to-2-clause-some c =
    let s = c.span_by-in-None-up_to-2 in
    span_positive c.args.a.now c.args.b.now c.in-Some.positive s.result.lo s.result.hi c.in-Some.ensures.some c.in-None-up_to-2.ensures.none s.ensures.lo s.ensures.hi

pub returns-in-Some-up_to-2-clause-some : goal.returns-in-Some-up_to-2-clause-some
returns-in-Some-up_to-2-clause-some c =
    let s = c.span_by-in-Some-up_to-2 in
    let t = c.span_by-in-Some-up_to-2-2 in
    span_both c.args.a.now c.args.b.now c.in-Some.positive c.in-Some-up_to-2.negative s.result.lo s.result.hi t.result.lo t.result.hi c.joined.result.lo c.joined.result.hi c.in-Some.ensures.some c.in-Some-up_to-2.ensures.some s.ensures.lo s.ensures.hi t.ensures.lo t.ensures.hi c.joined.ensures.lo c.joined.ensures.hi
