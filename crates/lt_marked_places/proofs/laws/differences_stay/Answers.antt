use Rattle.lt_marked_places.proofs.Differences.{differences}
use Rattle.lt_marked_places.proofs.laws.differences_stay.Goals as goal

pub returns : goal.returns
returns c = differences c.others_are_typed_alike.ensures
