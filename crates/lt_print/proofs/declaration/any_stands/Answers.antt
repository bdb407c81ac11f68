use Rattle.std.proofs.Common.{not, ap, ◌∙◌}
use Rattle.lt_print.proofs.Units.{one_declared, several_declared}
use Rattle.lt_print.proofs.declaration.any_stands.Goals as goal

pub returns-then-declarators-eq1 : goal.returns-then-declarators-eq1
returns-then-declarators-eq1 c = c.has_text.ensures ∙ one_declared c.args.declarators.now c.index-declarators-0.result c.if-declarators-eq1.true c.index-declarators-0.is

pub returns-else-declarators-eq1 : goal.returns-else-declarators-eq1
returns-else-declarators-eq1 c = ap not c.is_empty.ensures ∙ several_declared c.args.declarators.now c.if-declarators-eq1.false
