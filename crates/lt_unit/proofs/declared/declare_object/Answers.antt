use Rattle.lt_tree.specs.Typing.Entities.{an_object}
use Rattle.lt_tree.specs.Typing.Steps.{◌>>◌, binds, gives}
use Rattle.lt_type.proofs.Sequences.{gives_then, gives_stops, gives_itself, stopped}
use Rattle.lt_unit.proofs.declared.declare_object.Goals as goal

pub returns-in_err-number : goal.returns-in_err-number
returns-in_err-number c =
    gives_stops (λ types n. binds c.args.name.now (an_object n c.args.is_register) >> gives n) c.in_err-number.ensures (stopped c.from_residual.ensures)

pub returns-in_err-bind : goal.returns-in_err-bind
returns-in_err-bind c =
    gives_then (λ types n. binds c.args.name.now (an_object n c.args.is_register) >> gives n) c.in_ok-number.ensures (
    gives_stops (λ types u. gives c.in_ok-number.number) c.in_err-bind.ensures.gives (stopped c.from_residual-in_err-bind.ensures))

pub returns : goal.returns
returns c =
    gives_then (λ types n. binds c.args.name.now (an_object n c.args.is_register) >> gives n) c.in_ok-number.ensures (
    gives_then (λ types u. gives c.in_ok-number.number) c.in_ok-bind.ensures.gives gives_itself)
