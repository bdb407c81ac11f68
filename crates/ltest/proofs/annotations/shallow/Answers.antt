use Rattle.std.proofs.Common.{arith}
use Rattle.ltest.specs.Labels.{deep_text}
use Rattle.ltest.proofs.Annotating.{shallow_text, no_nest_text}
use Rattle.ltest.proofs.annotations.shallow.Goals as goal

pub returns-then-nest-le-DEEPEST : goal.returns-then-nest-le-DEEPEST
returns-then-nest-le-DEEPEST c =
    let given = rw c.in-Some.is at c.in_ok-nest.ensures in
    let nests = rw c.as_slice.ensures.value at given in
    shallow_text c.at_most_one_reading.ensures c.args.text c.in-Some.nest nests (omega arith)

pub returns-else-nest-le-DEEPEST : goal.returns-else-nest-le-DEEPEST
returns-else-nest-le-DEEPEST c =
    let given = rw c.in-Some.is at c.in_ok-nest.ensures in
    let nests = rw c.as_slice.ensures.value at given in
    deep_text nests (omega arith)

pub returns-in-None : goal.returns-in-None
returns-in-None c =
    let given = rw c.in-None.is at c.in_ok-nest.ensures in
    let none = rw c.as_slice.ensures.value at given in
    no_nest_text c.args.text none
