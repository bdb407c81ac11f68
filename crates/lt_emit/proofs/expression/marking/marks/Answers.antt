use Rattle.std.proofs.Common.{arith, refl}
use Rattle.lt_emit.specs.Marking.{MarksStand, marks_cost}
use Rattle.lt_emit.proofs.Spent.{none_within, one_more_within, all_within, as_given, fitting}
use Rattle.lt_emit.proofs.expression.marking.marks.Goals as goal

pub marks-init : goal.marks-init
marks-init c =
    none_within (λ row k. marks_cost row) (λ row k. MarksStand row c.args.to) c.args.all.now _ c.args.to (omega arith) c.requires
    (λ here it known. refl)

pub mark-requires : goal.mark-requires
mark-requires c = c.marks.invariant.emits.within

pub marks-preserved : goal.marks-preserved
marks-preserved c =
    one_more_within (λ row k. marks_cost row) (λ row k. MarksStand row c.args.to) c.args.all.now c.marks.at c.marks.from c.index-all-at.result c.in_ok-from.from
    c.marks-test.true (omega (arith, c.marks.auto.at)) c.index-all-at.is c.marks.invariant c.in_ok-from.ensures.code
    (λ here it p q known. (_, q known.0, p known.1)) (λ here. grind fitting)

pub returns : goal.returns
returns c =
    as_given (all_within (λ row k. marks_cost row) (λ row k. MarksStand row c.args.to) c.args.all.now c.marks.at c.marks.from (omega arith)
    c.marks.invariant)
