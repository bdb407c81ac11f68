use Rattle.std.proofs.Common.{ap}
use Rattle.lt_env.specs.Views.{typed_of, typed_in}
use Rattle.lt_env.proofs.Judgements.{stays_on}
use Rattle.lt_judge.proofs.JudgedBinary.{choose_first, choose_second}
use Rattle.lt_judge.proofs.JudgedChoices.{both_integers}
use Rattle.lt_judge.proofs.binary.on_operands.Goals as goal

pub returns-in_ok-all-clause-made : goal.returns-in_ok-all-clause-made
returns-in_ok-all-clause-made c = λ longer more.
    choose_first _ _ _ _
    (both_integers (typed_in longer c.args.x) (typed_in longer c.args.y) _ _ _ _ (ap (typed_of longer) c.deref.ensures) (ap (typed_of longer) c.deref-2.ensures)
    (stays_on c.on_integers.ensures.widens c.in_ok-integers.ensures longer more) c.if-integers.true) (c.in_ok-all.ensures.made longer more)

pub returns-in_ok-all-2-clause-made : goal.returns-in_ok-all-2-clause-made
returns-in_ok-all-2-clause-made c = λ longer more.
    choose_second _ _ _ _
    (both_integers (typed_in longer c.args.x) (typed_in longer c.args.y) _ _ _ _ (ap (typed_of longer) c.deref.ensures) (ap (typed_of longer) c.deref-2.ensures)
    (stays_on c.on_pointers.ensures.widens c.in_ok-integers.ensures longer more) c.if-integers.false) (c.in_ok-all-2.ensures.made longer more)
