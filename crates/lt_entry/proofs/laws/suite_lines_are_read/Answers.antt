use Rattle.lt_entry.proofs.SuiteLaws.{suite_lines}
use Rattle.lt_entry.proofs.laws.suite_lines_are_read.Goals as goal

pub returns : goal.returns
returns c = suite_lines
