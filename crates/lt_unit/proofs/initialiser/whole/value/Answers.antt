use Rattle.lt_tree.specs.Typing.TypeRows.{type_in}
use Rattle.lt_type.proofs.Sequences.{gives_then, gives_stops, stopped}
use Rattle.lt_unit.specs.Fillings.{whole_value_end}
use Rattle.lt_unit.proofs.initialiser.whole.value.Goals as goal

pub returns-in_err-x : goal.returns-in_err-x
returns-in_err-x c = gives_stops (λ types x. whole_value_end c.args.node c.args.is_static (type_in types c.args.t) x) c.in_err-x.ensures (stopped c.from_residual.ensures)

pub returns : goal.returns
returns c = gives_then (λ types x. whole_value_end c.args.node c.args.is_static (type_in types c.args.t) x) c.in_ok-x.ensures c.end_of_value.ensures
