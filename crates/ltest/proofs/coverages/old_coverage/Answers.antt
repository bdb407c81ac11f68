use Rattle.ltest.proofs.coverages.old_coverage.Goals as goal

pub returns-in_ok-coverage_of_text-in-Some : goal.returns-in_ok-coverage_of_text-in-Some
returns-in_ok-coverage_of_text-in-Some c = rw c.in-Some.is (rw c.as_slice.ensures.value at c.in_ok-coverage_of_text-in-Some.ensures)
