use Rattle.std.proofs.Common.{ap, ◌∙◌}
use Rattle.lt_env.proofs.Judgements.{judged, widens_none}
use Rattle.lt_tree.specs.Typing.Declarators as declarators
use Rattle.lt_declare.proofs.parameter_lists.without_parameters.Goals as goal

pub returns : goal.returns
returns c =
    judged widens_none (λ types h. c.in_ok-parameters.ensures types ∙ ap declarators.no_parameters_yet (c.in_ok-frame.ensures types))
