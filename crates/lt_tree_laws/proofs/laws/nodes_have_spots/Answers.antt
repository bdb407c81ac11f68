use Rattle.lt_tree_laws.proofs.SpotsOfUnits.{one_for_each}
use Rattle.lt_tree_laws.proofs.laws.nodes_have_spots.Goals as goal

pub returns : goal.returns
returns c = one_for_each
