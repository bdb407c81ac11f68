use Rattle.lt_sizes.proofs.PaidUnits.{frugal_graphs_are_bounded}
use Rattle.lt_sizes.proofs.laws.frugal_graphs_are_bounded.Goals as goal

pub returns : goal.returns
returns c = frugal_graphs_are_bounded
