use Rattle.std.proofs.Common.{sym}
use Rattle.lt_entry.proofs.LinesRead.{sum_no_relation, sum_no_constant}
use Rattle.lt_entry.proofs.specification_line.requirement_of.Goals as goal

pub returns-in_default-relation_of : goal.returns-in_default-relation_of
returns-in_default-relation_of c =
    sym (sum_no_relation c.args.sum.now c.in-Some.others.now c.in-Some.first.now c.args.relation.now c.args.constant.now c.in-Some.ensures.cases.0 (sym c.in_default-relation_of.ensures))

pub returns-in_default-numeral_of : goal.returns-in_default-numeral_of
returns-in_default-numeral_of c =
    sym (sum_no_constant c.args.sum.now c.in-Some.others.now c.in-Some.first.now c.args.relation.now c.args.constant.now c.in-Some.ensures.cases.0 (sym c.in_default-numeral_of.ensures))
