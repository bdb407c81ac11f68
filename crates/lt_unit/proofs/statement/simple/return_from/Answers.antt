use Rattle.std.proofs.Common.{option_map}
use Rattle.lt_tree.specs.View.{expression_of}
use Rattle.lt_tree.specs.Typing.TypedTree as e
use Rattle.lt_tree.specs.Typing.Steps.{◌>>=◌, ◌>>◌, gives, settle}
use Rattle.lt_tree.specs.Typing.StatementTyping as typing
use Rattle.lt_type.proofs.Sequences.{gives_entered, gives_then, gives_stops, gives_so, stopped}
use Rattle.lt_unit.specs.UnitViews.{around_of}
use Rattle.lt_unit.proofs.LeftOut.{value_walk}
use Rattle.lt_unit.proofs.statement.simple.return_from.Goals as goal

pub returns-in_err-x : goal.returns-in_err-x
returns-in_err-x c =
    gives_entered (λ types node. typing.optional_expression (option_map expression_of c.args.value.now) >>= (λ x. settle node (typing.return_faults (around_of types c.args.around).result x) >> gives (e.Return (typing.returned (around_of types c.args.around).result x))))
    c.in_ok-node.ensures.entered c.in_ok-node.ensures.node (
    gives_stops _ (gives_so (λ types k. value_walk (option_map expression_of c.args.value.now) k) c.in_err-x.ensures) (stopped c.from_residual-in_err-x.ensures))

pub returns : goal.returns
returns c =
    gives_entered (λ types node. typing.optional_expression (option_map expression_of c.args.value.now) >>= (λ x. settle node (typing.return_faults (around_of types c.args.around).result x) >> gives (e.Return (typing.returned (around_of types c.args.around).result x))))
    c.in_ok-node.ensures.entered c.in_ok-node.ensures.node (
    gives_then _ (gives_so (λ types k. value_walk (option_map expression_of c.args.value.now) k) c.in_ok-x.ensures)
    c.return_end.ensures)
