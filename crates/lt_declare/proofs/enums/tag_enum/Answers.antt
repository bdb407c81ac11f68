use Rattle.std.proofs.Common.{false, refl, ap}
use Rattle.lt_tree.specs.Typing.Entities.{an_enum, bind_tag}
use Rattle.lt_tree.specs.Typing.Steps as steps
use Rattle.lt_env.specs.Going.{answering, known_of}
use Rattle.lt_env.proofs.Judgements.{judged, widens_none}
use Rattle.lt_declare.proofs.Steps.{gives_as, gives_then}
use Rattle.lt_declare.proofs.enums.tag_enum.Goals as goal

pub returns : goal.returns
returns c =
    gives_as (gives_then (λ types _. answering (λ known. c.in_ok-faults.faults)) c.in_ok-bind_tag.ensures.gives (judged widens_none (λ types h. refl)))
    (λ types. ap (λ f. steps.Goes f (bind_tag c.args.tag.now (an_enum false) (known_of types c.args.walker.now))) (c.in_ok-faults.ensures types))
