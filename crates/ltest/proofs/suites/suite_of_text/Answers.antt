use Rattle.ltest.proofs.Reading.{bad_suite_line_there}
use Rattle.ltest.proofs.suites.suite_of_text.Goals as goal

pub returns-in-Err-Line : goal.returns-in-Err-Line
returns-in-Err-Line c = bad_suite_line_there _ _ _ _ (rw c.in-Err-Line.field-0-is at c.in-Err-Line.ensures)
