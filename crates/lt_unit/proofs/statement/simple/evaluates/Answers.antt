use Rattle.lt_tree.specs.View.{expression_of}
use Rattle.lt_tree.specs.Typing.TypedTree as e
use Rattle.lt_tree.specs.Typing.Steps.{◌>>=◌, gives}
use Rattle.lt_tree.specs.Typing.Expressions.{as_value, value_in}
use Rattle.lt_tree.specs.Typing.ExpressionTyping.{expression}
use Rattle.lt_env.specs.Views.{typed_in}
use Rattle.lt_type.proofs.Sequences.{gives_entered, gives_then, gives_stops, gives_made, stopped}
use Rattle.lt_type.proofs.Turns.{lacks_memory}
use Rattle.lt_unit.proofs.statement.simple.evaluates.Goals as goal

pub returns-in_err-x : goal.returns-in_err-x
returns-in_err-x c = λ around.
    gives_entered (λ types node. expression (expression_of c.args.e.now) as_value >>= (λ x. gives (e.Evaluates (value_in x))))
    c.in_ok-_node.ensures.entered c.in_ok-_node.ensures.node (
    gives_stops _ c.in_err-x.ensures (stopped c.from_residual-in_err-x.ensures))

pub returns-in_err-all : goal.returns-in_err-all
returns-in_err-all c = λ around.
    gives_entered (λ types node. expression (expression_of c.args.e.now) as_value >>= (λ x. gives (e.Evaluates (value_in x))))
    c.in_ok-_node.ensures.entered c.in_ok-_node.ensures.node (
    gives_then _ c.in_ok-x.ensures
    (lacks_memory c.evaluates.ensures.widens.grows (stopped c.from_residual-in_err-all.ensures)))

pub returns : goal.returns
returns c = λ around.
    gives_entered (λ types node. expression (expression_of c.args.e.now) as_value >>= (λ x. gives (e.Evaluates (value_in x))))
    c.in_ok-_node.ensures.entered c.in_ok-_node.ensures.node (
    gives_then _ c.in_ok-x.ensures
    (gives_made (λ types known. e.Evaluates (value_in (typed_in types c.in_ok-x.x))) c.evaluates.ensures.widens c.in_ok-all.ensures.made))
