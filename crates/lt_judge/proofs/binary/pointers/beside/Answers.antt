use Rattle.std.proofs.Common.{sym, ap, ◌∙◌}
use Rattle.lt_tree.specs.Typing.TypeRows.{type_in}
use Rattle.lt_tree.specs.Typing.Types.{is_integer}
use Rattle.lt_tree.specs.Typing.Expressions.{own_type, converted_to}
use Rattle.lt_env.specs.Views.{typed_of}
use Rattle.lt_env.proofs.Judgements.{stays_on, widens_on}
use Rattle.lt_judge.proofs.JudgedBinary.{choose_first, choose_second}
use Rattle.lt_judge.proofs.binary.pointers.beside.Goals as goal

pub returns-in_ok-value-2-clause-made : goal.returns-in_ok-value-2-clause-made
returns-in_ok-value-2-clause-made c = λ longer more.
    let w1 = c.value_in.ensures.widens in
    let w2 = c.converted_to.ensures.widens in
    choose_first _ _ _ _ (ap (λ t. is_integer (own_type (typed_of longer t))) (sym c.deref.ensures) ∙ sym (stays_on (widens_on w1 w2) c.in_ok-integer.ensures longer more) ∙ c.if-integer.true)
    (c.in_ok-value-2.ensures.made longer more ∙ ap (converted_to (type_in longer c.args.t)) (stays_on w2 c.in_ok-value.ensures.made longer more))

pub returns-else-integer-clause-made : goal.returns-else-integer-clause-made
returns-else-integer-clause-made c = λ longer more.
    choose_second _ _ _ _ (ap (λ t. is_integer (own_type (typed_of longer t))) (sym c.deref.ensures) ∙ sym (stays_on c.value_in.ensures.widens c.in_ok-integer.ensures longer more) ∙ c.if-integer.false) (c.in_ok-value.ensures.made longer more)
