use Rattle.std.proofs.Common.{sym, arith}
use Rattle.lt_command.proofs.Steps.{starts_else, steps_read, no_steps_read}
use Rattle.lt_command.proofs.values.steps_of.Goals as goal

pub returns-then-not-starts_well : goal.returns-then-not-starts_well
returns-then-not-starts_well c = sym (starts_else c.args.word.now (cc))

pub returns-then-steps-le-MOST_STEPS : goal.returns-then-steps-le-MOST_STEPS
returns-then-steps-le-MOST_STEPS c =
    sym (steps_read c.args.word.now c.parse.result c.in-Ok.steps c.parse.ensures.value.0 c.in-Ok.is (cc) (omega arith))

pub returns-in-Err : goal.returns-in-Err
returns-in-Err c = sym (no_steps_read c.args.word.now c.parse.result c.parse.ensures.value.0 (λ n is small. cc))
