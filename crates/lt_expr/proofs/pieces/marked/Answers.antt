use Rattle.std.proofs.Common.{ap}
use Rattle.lt_tree.specs.Tree as t
use Rattle.lt_expr.specs.Boxes.{boxed}
use Rattle.lt_expr.proofs.Rows.{marks_are}
use Rattle.lt_expr.proofs.pieces.marked.Goals as goal

pub returns : goal.returns
returns c = ap (λ marks. t.Marked marks (boxed c.args.value)) (marks_are c.args.marks)
