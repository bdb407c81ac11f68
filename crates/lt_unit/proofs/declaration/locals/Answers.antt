use Rattle.lt_tree.specs.Typing.TypedTree as e
use Rattle.lt_tree.specs.Typing.Steps.{gives}
use Rattle.lt_type.proofs.Sequences.{gives_then, gives_stops, gives_itself, stopped}
use Rattle.lt_unit.proofs.declaration.locals.Goals as goal

pub returns-in_err-it : goal.returns-in_err-it
returns-in_err-it c = gives_stops (λ types it. gives (record { start = e.Locals it.locals; faults = it.faults })) c.in_err-it.ensures (stopped c.from_residual.ensures)

pub returns : goal.returns
returns c = gives_then (λ types it. gives (record { start = e.Locals it.locals; faults = it.faults })) c.in_ok-it.ensures gives_itself
