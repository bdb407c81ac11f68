use Rattle.lt_entry.proofs.LinesRead.{require_is}
use Rattle.lt_entry.proofs.specification_line.require_line.Goals as goal

pub returns-in-Some-split_last : goal.returns-in-Some-split_last
returns-in-Some-split_last c =
    rw (require_is c.args.words.now c.in-Some.before.now c.in-Some-split_last.sum.now c.in-Some-split_last.relation.now c.in-Some.constant.now c.in-Some.ensures.cases.0 c.in-Some-split_last.ensures.cases.0)
    c.requirement_of.ensures
