use Rattle.lt_answers.specs.Entries.{no_entry}
use Rattle.ltest.proofs.specifications.default_specification.Goals as goal

pub returns-in-Err-NoEntry : goal.returns-in-Err-NoEntry
returns-in-Err-NoEntry c = no_entry (rw c.in-Err-NoEntry.field-0-is at c.in-Err-NoEntry.ensures)
