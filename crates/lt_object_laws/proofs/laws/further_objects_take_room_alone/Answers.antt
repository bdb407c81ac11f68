use Rattle.lt_object_laws.proofs.Runs.{room_alone}
use Rattle.lt_object_laws.proofs.laws.further_objects_take_room_alone.Goals as goal

pub returns : goal.returns
returns c = room_alone
