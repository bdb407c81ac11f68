use Rattle.std.proofs.Common.{[], ap}
use Rattle.lt_env.specs.Views.{typed_of, typed_in}
use Rattle.lt_judge.specs.Knowing.{known_with}
use Rattle.lt_env.proofs.Judgements.{stays_on, widens_on}
use Rattle.lt_judge.proofs.JudgedChoices.{updated_integer_is}
use Rattle.lt_judge.proofs.binary.assignments.updated_integer.Goals as goal

pub returns-clause-made : goal.returns-clause-made
returns-clause-made c = λ longer more.
    let w4 = c.operand.ensures.widens in
    let w34 = widens_on c.place_in.ensures.widens w4 in
    let w234 = widens_on c.unqualified.ensures.widens w34 in
    let at = typed_of longer in
    updated_integer_is (known_with longer c.args.types.now []) c.args.op (typed_in longer c.args.x) (typed_in longer c.args.y) _ _ _ _ _ _ _ _ _ _
    (ap at c.deref.ensures) (ap at c.deref-2.ensures) (ap at c.deref-3.ensures) (stays_on w234 c.in_ok-s.ensures.operation longer more) (stays_on w234 c.in_ok-s.ensures.right longer more)
    (c.own_type.ensures longer) (stays_on w34 c.in_ok-t.ensures.made longer more) (stays_on w4 c.in_ok-place.ensures.made longer more) (c.in_ok-value.ensures.made longer more)
    (c.in_ok-all.ensures longer)
