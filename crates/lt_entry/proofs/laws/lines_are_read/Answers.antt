use Rattle.lt_entry.proofs.LineLaws.{lines}
use Rattle.lt_entry.proofs.laws.lines_are_read.Goals as goal

pub returns : goal.returns
returns c = lines
