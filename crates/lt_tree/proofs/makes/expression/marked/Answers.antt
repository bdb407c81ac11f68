use Rattle.lt_tree.proofs.Rows.{marks_are}
use Rattle.lt_tree.proofs.makes.expression.marked.Goals as goal

pub returns : goal.returns
returns c = cc (marks_are c.args.marks, c.in_ok-new.ensures.ok)
