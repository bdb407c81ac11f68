use Rattle.lt_tree.specs.Typing.TypeRows.{type_in}
use Rattle.lt_type.proofs.Sequences.{gives_then, gives_stops, stopped}
use Rattle.lt_unit.specs.Fillings.{whole_text_end}
use Rattle.lt_unit.proofs.initialiser.whole.text.Goals as goal

pub returns-in_err-literal_alone : goal.returns-in_err-literal_alone
returns-in_err-literal_alone c = gives_stops (λ types u. whole_text_end c.args.node (type_in types c.args.t) c.args.bytes.now) c.in_err-literal_alone.ensures (stopped c.from_residual.ensures)

pub returns : goal.returns
returns c = gives_then (λ types u. whole_text_end c.args.node (type_in types c.args.t) c.args.bytes.now) c.in_ok-literal_alone.ensures c.end_of_text.ensures
