use Rattle.std.proofs.Common.{sym, ◌∙◌}
use Rattle.lt_env.proofs.Judgements.{stays_on}
use Rattle.lt_judge.proofs.JudgedBinary.{choose_first, choose_second}
use Rattle.lt_judge.proofs.binary.choices.chosen_type.Goals as goal

pub returns-in_ok-ty-clause-made : goal.returns-in_ok-ty-clause-made
returns-in_ok-ty-clause-made c = λ longer more.
    choose_first _ _ _ _ (sym (stays_on c.usual_type.ensures.widens c.in_ok-are_integers.ensures longer more) ∙ c.if-branch.true) (c.in_ok-ty.ensures.made longer more)

pub returns-in_ok-ty-2-clause-made : goal.returns-in_ok-ty-2-clause-made
returns-in_ok-ty-2-clause-made c = λ longer more.
    let w = c.chosen_pointer.ensures.widens in
    choose_second _ _ _ _ (sym (stays_on w c.in_ok-are_integers.ensures longer more) ∙ c.if-branch.false)
    (choose_first _ _ _ _ (sym (stays_on w c.in_ok-is_one_pointer.ensures longer more) ∙ c.if-branch-2.true) (c.in_ok-ty-2.ensures.made longer more))
