use Rattle.std.proofs.Common.{◌∷◌, []}
use Rattle.lt_tree.specs.Typing.Steps as steps
use Rattle.lt_env.specs.Going.{answering}
use Rattle.lt_env.proofs.Judgements.{judged, widens_none}
use Rattle.lt_declare.proofs.Steps.{gives_then}
use Rattle.lt_tree.specs.Typing.Entities.{an_object}
use Rattle.lt_declare.proofs.parameter_lists.binds_object.Goals as goal

pub returns : goal.returns
returns c =
    let n = c.in_ok-number.number in
    let name = c.args.name.now in
    let bound = gives_then (λ types _. answering (λ known. n ∷ [])) c.in_ok-bind.ensures.gives (judged widens_none (λ types h. c.in_ok-objects.ensures)) in
    gives_then (λ types m. steps.◌>>◌ (steps.binds name (an_object m c.args.is_register)) (steps.gives (m ∷ []))) c.in_ok-number.ensures.gives bound
