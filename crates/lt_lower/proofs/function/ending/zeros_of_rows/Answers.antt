use Rattle.std.proofs.Common.{List, take, ◌∙◌}
use Rattle.lt_tree.specs.Typing.TypeRows.{types_of_rows}
use Rattle.lt_lower.specs.declared.function.ending.Zeros.{Zeros}
use Rattle.lt_lower.proofs.ZeroRows.{zeros_more}
use Rattle.lt_lower.proofs.function.ending.zeros_of_rows.Goals as goal

pub rows-preserved : goal.rows-preserved
rows-preserved c =
    let k = c.rows.row-index in
    let front = types_of_rows (take k c.args.rows.now) in
    let known : List Zeros = c.rows.all.items in
    zeros_more c.args.rows.now k c.row-item.result known c.push.new.self.items c.zeros_of_row-zeros.result c.rows-test.true c.row-item.is
    c.rows.invariant (c.zeros_of_row-zeros.ensures front (c.deref.ensures.value ∙ c.rows.invariant)) c.in_ok-push.ensures.items
