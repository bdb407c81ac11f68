use Rattle.lt_value.proofs.Made.{min_code, max_code}
use Rattle.lt_value.proofs.operators.span.span_of.Goals as goal

pub returns-clause-lo : goal.returns-clause-lo
returns-clause-lo c = min_code c.args.a c.args.b c.args.c c.args.d c.min.result c.min-2.result c.min-3.result c.ranges.a c.ranges.b c.ranges.c c.ranges.d c.min.ensures.value c.min-2.ensures.value c.min-3.ensures.value

pub returns-clause-hi : goal.returns-clause-hi
returns-clause-hi c = max_code c.args.a c.args.b c.args.c c.args.d c.max.result c.max-2.result c.max-3.result c.ranges.a c.ranges.b c.ranges.c c.ranges.d c.max.ensures.value c.max-2.ensures.value c.max-3.ensures.value
