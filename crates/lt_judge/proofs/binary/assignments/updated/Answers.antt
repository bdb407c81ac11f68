use Rattle.std.proofs.Common.{sym, ap, ◌∙◌}
use Rattle.lt_tree.specs.Typing.Types.{is_pointer}
use Rattle.lt_tree.specs.Typing.Expressions.{own_type, varies}
use Rattle.lt_env.specs.Views.{typed_of}
use Rattle.lt_env.proofs.Judgements.{stays_on}
use Rattle.lt_judge.proofs.JudgedBinary.{choose_first, choose_second}
use Rattle.lt_judge.proofs.binary.assignments.updated.Goals as goal

pub returns-in_ok-all-clause-made : goal.returns-in_ok-all-clause-made
returns-in_ok-all-clause-made c = λ longer more.
    c.in_ok-all.ensures longer
    ∙ ap varies (choose_first _ _ _ _ (ap (λ t. is_pointer (own_type (typed_of longer t))) (sym c.deref.ensures)
    ∙ sym (stays_on c.updated_pointer.ensures.widens c.in_ok-pointer.ensures longer more) ∙ c.if-pointer.true) (c.in_ok-value.ensures.made longer more))

pub returns-in_ok-all-2-clause-made : goal.returns-in_ok-all-2-clause-made
returns-in_ok-all-2-clause-made c = λ longer more.
    c.in_ok-all-2.ensures longer
    ∙ ap varies (choose_second _ _ _ _ (ap (λ t. is_pointer (own_type (typed_of longer t))) (sym c.deref.ensures)
    ∙ sym (stays_on c.updated_integer.ensures.widens c.in_ok-pointer.ensures longer more) ∙ c.if-pointer.false) (c.in_ok-value-2.ensures.made longer more))
