use Rattle.ltest.proofs.Spelling.{underived}
use Rattle.ltest.proofs.units.unit_of_text.Goals as goal

pub returns-in-Err-Syntax : goal.returns-in-Err-Syntax
returns-in-Err-Syntax c = underived _ c.in_ok-tokens.tokens _ c.in_ok-tokens.ensures (rw c.in-Err-Syntax.field-0-is at c.in-Err-Syntax.ensures)
