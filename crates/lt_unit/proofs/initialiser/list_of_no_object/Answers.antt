use Rattle.std.proofs.Common.{false, [], ◌∷◌, ap}
use Rattle.lt_tree.specs.UnitView.{initialisers_in}
use Rattle.lt_tree.specs.Typing.Filling.{nothing_to_fill}
use Rattle.lt_tree.specs.Typing.InitialiserTyping.{initialisers}
use Rattle.lt_tree.specs.Typing.Rules.{bad_initialiser}
use Rattle.lt_tree.specs.Typing.Steps.{◌>>=◌, goes_on, settle}
use Rattle.lt_env.proofs.Goings.{as_long}
use Rattle.lt_type.proofs.Sequences.{gives_entered, gives_then, gives_stops, gives_so, stopped}
use Rattle.lt_type.proofs.Turns.{lacks_memory}
use Rattle.lt_unit.proofs.Lasting.{settled}
use Rattle.lt_unit.proofs.initialiser.list_of_no_object.Goals as goal

pub returns-in_err-_filled : goal.returns-in_err-_filled
returns-in_err-_filled c =
    gives_entered (λ types node. initialisers (initialisers_in c.args.list.now) false nothing_to_fill >>= (λ it. settle node (bad_initialiser ∷ []))) c.in_ok-node.ensures.entered c.in_ok-node.ensures.node
    (gives_so (λ types k. ap (λ f. goes_on (initialisers (initialisers_in c.args.list.now) false f k) (λ it. settle c.in_ok-node.node (bad_initialiser ∷ []))) (c.nothing_to_fill-nothing.ensures types)) (gives_stops (λ types it. settle c.in_ok-node.node (bad_initialiser ∷ [])) c.in_err-_filled.ensures (stopped c.from_residual-in_err-_filled.ensures)))

pub returns-in_err-faults : goal.returns-in_err-faults
returns-in_err-faults c =
    gives_entered (λ types node. initialisers (initialisers_in c.args.list.now) false nothing_to_fill >>= (λ it. settle node (bad_initialiser ∷ []))) c.in_ok-node.ensures.entered c.in_ok-node.ensures.node
    (gives_so (λ types k. ap (λ f. goes_on (initialisers (initialisers_in c.args.list.now) false f k) (λ it. settle c.in_ok-node.node (bad_initialiser ∷ []))) (c.nothing_to_fill-nothing.ensures types)) (gives_then (λ types it. settle c.in_ok-node.node (bad_initialiser ∷ [])) c.in_ok-_filled.ensures (lacks_memory (as_long _) (stopped c.from_residual-in_err-faults.ensures))))

pub returns : goal.returns
returns c =
    gives_entered (λ types node. initialisers (initialisers_in c.args.list.now) false nothing_to_fill >>= (λ it. settle node (bad_initialiser ∷ []))) c.in_ok-node.ensures.entered c.in_ok-node.ensures.node
    (gives_so (λ types k. ap (λ f. goes_on (initialisers (initialisers_in c.args.list.now) false f k) (λ it. settle c.in_ok-node.node (bad_initialiser ∷ []))) (c.nothing_to_fill-nothing.ensures types)) (gives_then (λ types it. settle c.in_ok-node.node (bad_initialiser ∷ [])) c.in_ok-_filled.ensures (settled c.in_ok-node.node (λ types. bad_initialiser ∷ []) (λ types h. c.in_ok-faults.ensures) c.settle.ensures.gives)))
