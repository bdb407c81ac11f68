use Rattle.std.proofs.Common.{[]}
use Rattle.lt_tree.specs.Typing.TypedTree as e
use Rattle.lt_tree.specs.Typing.Steps.{gives}
use Rattle.lt_tree.specs.Typing.Expressions.{value_in}
use Rattle.lt_type.proofs.Sequences.{gives_then, gives_stops, stopped}
use Rattle.lt_unit.proofs.declaration.first.Goals as goal

pub returns-in_err-it : goal.returns-in_err-it
returns-in_err-it c = gives_stops (λ types x. gives (record { start = e.First (value_in x); faults = [] })) c.in_err-it.ensures (stopped c.from_residual.ensures)

pub returns : goal.returns
returns c = gives_then (λ types x. gives (record { start = e.First (value_in x); faults = [] })) c.in_ok-it.ensures c.first_end.ensures
