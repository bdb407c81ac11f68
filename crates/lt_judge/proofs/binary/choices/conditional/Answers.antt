use Rattle.std.proofs.Common.{[], ap, ◌∙◌}
use Rattle.lt_tree.specs.Typing.TypeRows.{type_in}
use Rattle.lt_tree.specs.Typing.BinaryOperations.{chosen_type, judge_conditional}
use Rattle.lt_env.specs.Views.{typed_of, typed_in}
use Rattle.lt_judge.specs.Knowing.{known_with}
use Rattle.lt_env.proofs.Judgements.{stays_on}
use Rattle.lt_judge.proofs.JudgedChoices.{conditional_at}
use Rattle.lt_judge.proofs.binary.choices.conditional.Goals as goal

pub returns-clause-made : goal.returns-clause-made
unfolding judge_conditional
returns-clause-made c = λ longer more.
    let p = typed_in longer c.args.p in
    let x = typed_in longer c.args.x in
    let y = typed_in longer c.args.y in
    let known = known_with longer c.args.types.now [] in
    let t = stays_on c.conditional_of.ensures.widens c.in_ok-t.ensures.made longer more
    ∙ ap (λ x. chosen_type known (typed_of longer x) (typed_of longer c.deref-2.result.now)) c.deref.ensures ∙ ap (λ y. chosen_type known x (typed_of longer y)) c.deref-2.ensures in
    c.in_ok-all.ensures.made longer more ∙ ap (λ m. conditional_at m (type_in longer c.in_ok-t.t) p x y) c.chosen_type.ensures.widens.model ∙ ap (λ t. conditional_at c.args.types.now.model t p x y) t
