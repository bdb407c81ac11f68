use Rattle.lt_input_suites.proofs.Differ.{tests_differ}
use Rattle.lt_input_suites.proofs.laws.tests_of_a_suite_differ.Goals as goal

pub returns : goal.returns
returns c = tests_differ
