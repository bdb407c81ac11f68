use Rattle.lt_objective_places.proofs.Runs.{top}
use Rattle.lt_objective_places.proofs.Going.{piece_stands, all_stand}
use Rattle.lt_objective_places.proofs.laws.pieces_stand.Goals as goal

pub returns : goal.returns
returns c = (top, piece_stands, all_stand)
