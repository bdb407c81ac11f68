use Rattle.std.proofs.Common.{ap, ◌∙◌}
use Rattle.lt_tree.specs.Typing.TypedTree as e
use Rattle.lt_tree.specs.Typing.ValueView.{value_of}
use Rattle.lt_tree.specs.Typing.StatementView as view
use Rattle.lt_tree.specs.Typing.Steps.{gives}
use Rattle.lt_env.proofs.Goings.{as_long}
use Rattle.lt_type.proofs.Sequences.{gives_then, gives_stops, stopped}
use Rattle.lt_type.proofs.Turns.{lacks_memory}
use Rattle.lt_unit.proofs.Lasting.{gives_it}
use Rattle.lt_unit.proofs.statement.ends.switch_end.Goals as goal

pub returns-in_err-settle : goal.returns-in_err-settle
returns-in_err-settle c =
    gives_stops (λ types u. gives (e.Switch (value_of types c.args.operand.value) (view.cases_in types c.args.list.items))) c.in_err-settle.ensures.gives (stopped c.from_residual.ensures)

pub returns-in_err-all : goal.returns-in_err-all
returns-in_err-all c =
    gives_then (λ types u. gives (e.Switch (value_of types c.args.operand.value) (view.cases_in types c.args.list.items))) c.in_ok-settle.ensures.gives
    (lacks_memory (as_long _) (stopped c.from_residual-in_err-all.ensures))

pub returns : goal.returns
returns c =
    gives_then (λ types u. gives (e.Switch (value_of types c.args.operand.value) (view.cases_in types c.args.list.items))) c.in_ok-settle.ensures.gives
    (gives_it (λ types. e.Switch (value_of types c.args.operand.value) (view.cases_in types c.args.list.items)) (λ types. ap (view.statement_of types) c.in_ok-all.ensures ∙ c.switch.ensures types))
