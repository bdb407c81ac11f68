use Rattle.lt_answers.specs.Entries.{bad_row}
use Rattle.ltest.proofs.coverages.coverage_of_text.Goals as goal

pub returns-in-Err-Row : goal.returns-in-Err-Row
returns-in-Err-Row c = bad_row (rw c.in-Err-Row.field-0-is at c.in-Err-Row.ensures)
