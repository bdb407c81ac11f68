use Rattle.std.proofs.Common.{ap, ◌∙◌}
use Rattle.lt_tree.specs.Typing.TypedTree as e
use Rattle.lt_tree.specs.Typing.StatementView as view
use Rattle.lt_tree.specs.Typing.Steps.{gives}
use Rattle.lt_env.proofs.Goings.{as_long}
use Rattle.lt_type.proofs.Sequences.{gives_entered, stopped}
use Rattle.lt_type.proofs.Turns.{lacks_memory}
use Rattle.lt_unit.proofs.Lasting.{gives_it}
use Rattle.lt_unit.proofs.statement.simple.null.Goals as goal

pub returns-in_err-all : goal.returns-in_err-all
returns-in_err-all c = λ around.
    lacks_memory (rw c.in_ok-_node.ensures.entered (as_long _)) (stopped c.from_residual-in_err-all.ensures)

pub returns : goal.returns
returns c = λ around.
    gives_entered (λ types node. gives e.Null)
    c.in_ok-_node.ensures.entered c.in_ok-_node.ensures.node (
    gives_it (λ types. e.Null) (λ types. ap (view.statement_of types) c.in_ok-all.ensures ∙ c.null.ensures types))
