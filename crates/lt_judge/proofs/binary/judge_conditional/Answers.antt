use Rattle.std.proofs.Common.{◌++◌, ap, ◌∙◌}
use Rattle.lt_tree.specs.Typing.Types.{is_scalar}
use Rattle.lt_tree.specs.Typing.Rules.{unless, not_scalar, bad_choice}
use Rattle.lt_tree.specs.Typing.Operands.{can_be_chosen_from}
use Rattle.lt_tree.specs.Typing.Expressions.{Typed, own_type}
use Rattle.lt_tree.specs.Typing.BinaryOperations.{judge_conditional}
use Rattle.lt_env.specs.Views.{typed_of, typed_in}
use Rattle.lt_env.proofs.Judgements.{judged, stays_on}
use Rattle.lt_judge.proofs.JudgedChoices.{judged_of}
use Rattle.lt_judge.proofs.binary.judge_conditional.Goals as goal

pub returns : goal.returns
unfolding judge_conditional
returns c = judged c.conditional.ensures.widens (λ longer more.
    let test = λ (p : Typed). unless (is_scalar (own_type p)) not_scalar in
    let choice = λ (x : Typed) (y : Typed). unless (can_be_chosen_from (own_type x) x.constancy (own_type y) y.constancy) bad_choice in
    let x1 = typed_of longer c.deref-2.result.now in
    let y1 = typed_of longer c.deref-3.result.now in
    judged_of (λ x y. test (typed_in longer c.args.p) ++ choice x y) (typed_in longer c.args.x) (typed_in longer c.args.y) x1 y1 _ _ _ _
    (ap (typed_of longer) c.deref-2.ensures) (ap (typed_of longer) c.deref-3.ensures)
    (stays_on c.conditional.ensures.widens c.in_ok-faults.ensures longer more ∙ ap (λ p. test (typed_of longer p) ++ choice x1 y1) c.deref.ensures)
    (c.in_ok-typed.ensures.made longer more) (c.in_ok-judged.ensures longer))
