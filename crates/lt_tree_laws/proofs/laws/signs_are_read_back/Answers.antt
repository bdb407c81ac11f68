use Rattle.lt_tree_laws.proofs.SignsBack.{read_back}
use Rattle.lt_tree_laws.proofs.laws.signs_are_read_back.Goals as goal

pub returns : goal.returns
returns c = read_back
