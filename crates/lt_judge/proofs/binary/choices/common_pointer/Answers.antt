use Rattle.std.proofs.Common.{ap, ◌∙◌}
use Rattle.lt_tree.specs.Typing.Types.{Pointer, qualified}
use Rattle.lt_tree.specs.Typing.TypeRows.{type_in}
use Rattle.lt_env.proofs.Judgements.{stays_on, widens_on}
use Rattle.lt_judge.proofs.binary.choices.common_pointer.Goals as goal

pub returns-clause-made : goal.returns-clause-made
returns-clause-made c = λ longer more.
    let w1 = c.qualified.ensures.widens in
    let w2 = c.pointer.ensures.widens in
    c.in_ok-pointer.ensures.made longer more
    ∙ ap Pointer (stays_on w2 c.in_ok-target.ensures.made longer more ∙ ap (λ q. qualified q (type_in longer c.args.target)) (stays_on (widens_on w1 w2) c.in_ok-quals.ensures longer more))
