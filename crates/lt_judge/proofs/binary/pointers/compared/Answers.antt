use Rattle.std.proofs.Common.{ap}
use Rattle.lt_env.specs.Views.{typed_of, typed_in}
use Rattle.lt_env.proofs.Judgements.{stays_on, widens_on}
use Rattle.lt_judge.proofs.JudgedBinary.{compared_is}
use Rattle.lt_judge.proofs.binary.pointers.compared.Goals as goal

pub returns-clause-made : goal.returns-clause-made
returns-clause-made c = λ longer more.
    let w1 = c.beside.ensures.widens in
    let w2 = c.beside-2.ensures.widens in
    let w3 = c.num.ensures.widens in
    let at = typed_of longer in
    compared_is c.args.op (typed_in longer c.args.x) (typed_in longer c.args.y) _ _ _ _ _ _ _ _ _ (ap at c.deref.ensures) (ap at c.deref-2.ensures)
    (c.own_type-t.ensures longer) (c.own_type-u.ensures longer) (c.in_ok-int.ensures.made longer more)
    (stays_on (widens_on w2 w3) c.in_ok-left.ensures.made longer more) (stays_on w3 c.in_ok-right.ensures.made longer more) (c.in_ok-value.ensures longer) (c.in_ok-all.ensures longer)
