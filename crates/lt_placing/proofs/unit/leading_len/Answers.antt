use Rattle.std.proofs.Common.{refl, sym, subst, arith}
use Rattle.lt_placing.specs.Parts.{BeginsWithMarks}
use Rattle.lt_placing.proofs.Bodies.{one_leading, declaration_ends, statement_ends, all_lead}
use Rattle.lt_placing.proofs.unit.leading_len.Goals as goal

pub items-init : goal.items-init
items-init c = record { counted = refl; leading = λ marks. refl }

pub items-preserved : goal.items-preserved
items-preserved c =
    record { counted = omega arith; leading = one_leading _ _ _ _ c.items-test.true c.item-item.is c.in-Mark.is c.items.invariant.leading }

pub returns-in-Declaration-clause-leading : goal.returns-in-Declaration-clause-leading
returns-in-Declaration-clause-leading c =
    subst (BeginsWithMarks c.args.list.now) (sym c.items.invariant.counted) (declaration_ends _ _ _ _ c.items-test.true c.item-item.is c.in-Declaration.is c.items.invariant.leading)

pub returns-in-Statement-clause-leading : goal.returns-in-Statement-clause-leading
returns-in-Statement-clause-leading c =
    subst (BeginsWithMarks c.args.list.now) (sym c.items.invariant.counted) (statement_ends _ _ _ _ c.items-test.true c.item-item.is c.in-Statement.is c.items.invariant.leading)

pub returns-clause-leading : goal.returns-clause-leading
returns-clause-leading c =
    subst (BeginsWithMarks c.args.list.now) (sym c.items.invariant.counted) (all_lead _ _ c.items-test.false c.items.invariant.leading)
