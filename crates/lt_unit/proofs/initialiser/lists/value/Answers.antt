use Rattle.lt_type.proofs.Sequences.{gives_then, gives_stops, stopped}
use Rattle.lt_unit.specs.Fillings.{filling_in, value_in_front}
use Rattle.lt_unit.proofs.initialiser.lists.value.Goals as goal

pub returns-in_err-x : goal.returns-in_err-x
returns-in_err-x c = gives_stops (λ types x. value_in_front c.args.node c.args.is_static (filling_in types c.args.filling) x) c.in_err-x.ensures (stopped c.from_residual.ensures)

pub returns : goal.returns
returns c = gives_then (λ types x. value_in_front c.args.node c.args.is_static (filling_in types c.args.filling) x) c.in_ok-x.ensures c.value_or_surplus.ensures
