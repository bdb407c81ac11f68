use Rattle.std.proofs.Common.{[], ◌∷◌}
use Rattle.lt_tree.specs.View.{expression_of}
use Rattle.lt_tree.specs.Typing.Expressions.{as_value}
use Rattle.lt_tree.specs.Typing.ExpressionTyping.{expression}
use Rattle.lt_tree.specs.Typing.Rules.{bad_initialiser}
use Rattle.lt_tree.specs.Typing.Steps.{◌>>=◌, settle}
use Rattle.lt_env.proofs.Goings.{as_long}
use Rattle.lt_type.proofs.Sequences.{gives_entered, gives_then, gives_stops, stopped}
use Rattle.lt_type.proofs.Turns.{lacks_memory}
use Rattle.lt_unit.proofs.Lasting.{settled}
use Rattle.lt_unit.proofs.initialiser.value_of_no_object.Goals as goal

pub returns-in_err-_x : goal.returns-in_err-_x
returns-in_err-_x c =
    gives_entered (λ types node. expression (expression_of c.args.e.now) as_value >>= (λ it. settle node (bad_initialiser ∷ []))) c.in_ok-node.ensures.entered c.in_ok-node.ensures.node
    (gives_stops (λ types it. settle c.in_ok-node.node (bad_initialiser ∷ [])) c.in_err-_x.ensures (stopped c.from_residual-in_err-_x.ensures))

pub returns-in_err-faults : goal.returns-in_err-faults
returns-in_err-faults c =
    gives_entered (λ types node. expression (expression_of c.args.e.now) as_value >>= (λ it. settle node (bad_initialiser ∷ []))) c.in_ok-node.ensures.entered c.in_ok-node.ensures.node
    (gives_then (λ types it. settle c.in_ok-node.node (bad_initialiser ∷ [])) c.in_ok-_x.ensures (lacks_memory (as_long _) (stopped c.from_residual-in_err-faults.ensures)))

pub returns : goal.returns
returns c =
    gives_entered (λ types node. expression (expression_of c.args.e.now) as_value >>= (λ it. settle node (bad_initialiser ∷ []))) c.in_ok-node.ensures.entered c.in_ok-node.ensures.node
    (gives_then (λ types it. settle c.in_ok-node.node (bad_initialiser ∷ [])) c.in_ok-_x.ensures (settled c.in_ok-node.node (λ types. bad_initialiser ∷ []) (λ types h. c.in_ok-faults.ensures) c.settle.ensures.gives))
