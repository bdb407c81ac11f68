use Rattle.lt_decl.proofs.WalkRows.{ok_then, case_walked}
use Rattle.lt_decl.proofs.walk.statement.label_value.Goals as goal

pub returns-in-Case : goal.returns-in-Case
returns-in-Case c = ok_then _ _ c.expression.ensures (case_walked c.args.label.now c.in-Case.value c.args.walker.now c.in-Case.is)
