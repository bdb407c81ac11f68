use Rattle.std.proofs.Common.{ap, ◌∙◌, not}
use Rattle.lt_print.proofs.Types.{one_stands, several_stand}
use Rattle.lt_print.proofs.member.any_stands.Goals as goal

pub returns-then-declarators-eq1 : goal.returns-then-declarators-eq1
returns-then-declarators-eq1 c = c.has_text.ensures ∙ one_stands c.args.declarators.now c.index-declarators-0.result c.if-declarators-eq1.true c.index-declarators-0.is

pub returns-else-declarators-eq1 : goal.returns-else-declarators-eq1
returns-else-declarators-eq1 c = ap not c.is_empty.ensures ∙ several_stand c.args.declarators.now c.if-declarators-eq1.false
