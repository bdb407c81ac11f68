use Rattle.lt_entry.proofs.OneSuite.{suites}
use Rattle.lt_entry.proofs.laws.a_text_says_one_suite.Goals as goal

pub returns : goal.returns
returns c = suites
