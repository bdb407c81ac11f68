use Rattle.std.proofs.Common.{◌++◌, option_map}
use Rattle.lt_tree.specs.Typing.TypedTree as e
use Rattle.lt_tree.specs.Typing.StatementView as view
use Rattle.lt_tree.specs.Typing.Steps.{gives}
use Rattle.lt_tree.specs.Typing.StatementTyping as typing
use Rattle.lt_env.specs.Views.{typed_in}
use Rattle.lt_env.proofs.Goings.{as_long}
use Rattle.lt_type.proofs.Sequences.{gives_then, gives_stops, gives_made, stopped}
use Rattle.lt_type.proofs.Turns.{lacks_memory}
use Rattle.lt_unit.specs.UnitViews.{statement_in}
use Rattle.lt_unit.proofs.Lasting.{settled}
use Rattle.lt_unit.proofs.statement.ends.for_end.Goals as goal

pub returns-in_err-faults : goal.returns-in_err-faults
returns-in_err-faults c =
    lacks_memory (as_long _) (stopped c.from_residual.ensures)

pub returns-in_err-settle : goal.returns-in_err-settle
returns-in_err-settle c =
    gives_stops (λ types u. gives (e.For (view.for_start_of types c.args.start.start) (typing.optional_value (option_map (typed_in types) c.args.test)) (typing.optional_value (option_map (typed_in types) c.args.step)) (statement_in types c.args.body))) (settled c.args.node (λ types. c.args.start.faults ++ typing.optional_test_faults (option_map (typed_in types) c.args.test)) (c.in_ok-faults.ensures) c.in_err-settle.ensures.gives)
    (stopped c.from_residual-in_err-settle.ensures)

pub returns-in_err-all : goal.returns-in_err-all
returns-in_err-all c =
    gives_then (λ types u. gives (e.For (view.for_start_of types c.args.start.start) (typing.optional_value (option_map (typed_in types) c.args.test)) (typing.optional_value (option_map (typed_in types) c.args.step)) (statement_in types c.args.body))) (settled c.args.node (λ types. c.args.start.faults ++ typing.optional_test_faults (option_map (typed_in types) c.args.test)) (c.in_ok-faults.ensures) c.in_ok-settle.ensures.gives)
    (lacks_memory c.for_loop.ensures.widens.grows (stopped c.from_residual-in_err-all.ensures))

pub returns : goal.returns
returns c =
    gives_then (λ types u. gives (e.For (view.for_start_of types c.args.start.start) (typing.optional_value (option_map (typed_in types) c.args.test)) (typing.optional_value (option_map (typed_in types) c.args.step)) (statement_in types c.args.body))) (settled c.args.node (λ types. c.args.start.faults ++ typing.optional_test_faults (option_map (typed_in types) c.args.test)) (c.in_ok-faults.ensures) c.in_ok-settle.ensures.gives)
    (gives_made (λ types known. e.For (view.for_start_of types c.args.start.start) (typing.optional_value (option_map (typed_in types) c.args.test)) (typing.optional_value (option_map (typed_in types) c.args.step)) (statement_in types c.args.body)) c.for_loop.ensures.widens c.in_ok-all.ensures.made)
