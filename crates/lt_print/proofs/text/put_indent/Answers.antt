use Rattle.lt_print.proofs.Texts.{indent_more}
use Rattle.lt_print.proofs.text.put_indent.Goals as goal

pub loop-done-preserved : goal.loop-done-preserved
loop-done-preserved c = indent_more c.loop-done.done _ _ _ c.loop-done.invariant c.in_ok-put.ensures
