use Rattle.std.proofs.Common.{ap}
use Rattle.lt_tree.specs.Typing.TypeRows.{type_in}
use Rattle.lt_env.specs.Views.{typed_of, typed_in}
use Rattle.lt_env.proofs.Judgements.{stays_on, widens_on}
use Rattle.lt_judge.proofs.JudgedChoices.{conditional_is}
use Rattle.lt_judge.proofs.binary.choices.conditional_of.Goals as goal

pub returns-clause-made : goal.returns-clause-made
returns-clause-made c = λ longer more.
    let w5 = c.converted_value-2.ensures.widens in
    let w45 = widens_on c.converted_value.ensures.widens w5 in
    let w345 = widens_on c.value_in.ensures.widens w45 in
    let w2345 = widens_on c.constancy_to-2.ensures.widens w345 in
    let at = typed_of longer in
    conditional_is c.args.types.now.model c.constancy_to.new.types.model (type_in longer c.args.t) (typed_in longer c.args.p) (typed_in longer c.args.x) (typed_in longer c.args.y)
    _ _ _ _ _ _ _ _ _ _ _ _ _ _ _
    c.constancy_to.ensures.widens.model (ap at c.deref.ensures) (ap at c.deref-2.ensures) (ap at c.deref-3.ensures) (ap at c.deref-4.ensures) (ap at c.deref-5.ensures) (ap at c.deref-6.ensures)
    c.chosen-constancy.ensures c.chosen-erased.ensures (stays_on w2345 c.in_ok-constancy.ensures.made longer more) (stays_on w345 c.in_ok-erased.ensures.made longer more)
    (stays_on w45 c.in_ok-test.ensures.made longer more) (stays_on w5 c.in_ok-left.ensures.made longer more) (c.in_ok-right.ensures.made longer more)
    (c.in_ok-value.ensures longer) (c.in_ok-all.ensures longer)
