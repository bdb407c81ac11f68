use Rattle.lt_mark_laws.proofs.Differences.{exact}
use Rattle.lt_mark_laws.proofs.laws.differences_are_exact.Goals as goal

pub returns : goal.returns
returns c = exact
