use Rattle.std.proofs.Common.{ap, ◌∙◌}
use Rattle.lt_tree.specs.Typing.TypedTree as e
use Rattle.lt_tree.specs.Typing.Steps.{gives}
use Rattle.lt_tree.specs.Typing.Expressions.{value_in}
use Rattle.lt_tree.specs.Typing.StatementTyping as typing
use Rattle.lt_env.specs.Views.{typed_in, typed_of}
use Rattle.lt_env.proofs.Goings.{as_long}
use Rattle.lt_type.proofs.Sequences.{gives_then, gives_stops, gives_made, stopped}
use Rattle.lt_type.proofs.Turns.{lacks_memory}
use Rattle.lt_unit.specs.UnitViews.{statement_in}
use Rattle.lt_unit.proofs.Lasting.{settled}
use Rattle.lt_unit.proofs.statement.ends.do_end.Goals as goal

pub returns-in_err-faults : goal.returns-in_err-faults
returns-in_err-faults c =
    lacks_memory (as_long _) (stopped c.from_residual.ensures)

pub returns-in_err-settle : goal.returns-in_err-settle
returns-in_err-settle c =
    gives_stops (λ types u. gives (e.Do (statement_in types c.args.body) (value_in (typed_in types c.args.test)))) (settled c.args.node (λ types. typing.test_faults (typed_in types c.args.test)) (λ types h. c.in_ok-faults.ensures types h ∙ ap (λ x. typing.test_faults (typed_of types x)) c.deref.ensures) c.in_err-settle.ensures.gives)
    (stopped c.from_residual-in_err-settle.ensures)

pub returns-in_err-all : goal.returns-in_err-all
returns-in_err-all c =
    gives_then (λ types u. gives (e.Do (statement_in types c.args.body) (value_in (typed_in types c.args.test)))) (settled c.args.node (λ types. typing.test_faults (typed_in types c.args.test)) (λ types h. c.in_ok-faults.ensures types h ∙ ap (λ x. typing.test_faults (typed_of types x)) c.deref.ensures) c.in_ok-settle.ensures.gives)
    (lacks_memory c.do_loop.ensures.widens.grows (stopped c.from_residual-in_err-all.ensures))

pub returns : goal.returns
returns c =
    gives_then (λ types u. gives (e.Do (statement_in types c.args.body) (value_in (typed_in types c.args.test)))) (settled c.args.node (λ types. typing.test_faults (typed_in types c.args.test)) (λ types h. c.in_ok-faults.ensures types h ∙ ap (λ x. typing.test_faults (typed_of types x)) c.deref.ensures) c.in_ok-settle.ensures.gives)
    (gives_made (λ types known. e.Do (statement_in types c.args.body) (value_in (typed_in types c.args.test))) c.do_loop.ensures.widens c.in_ok-all.ensures.made)
