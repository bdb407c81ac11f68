use Rattle.lt_input_wants.proofs.PlaceMaps.{has_place_more}
use Rattle.lt_input_wants.proofs.marked.MarkedPlaces.mark.Goals as goal

pub returns : goal.returns
returns c = record {
  added = c.in_ok-insert.ensures.added;
  places = has_place_more c.args.self.now.places c.insert.new.self c.args.root c.args.offset c.in_ok-insert.ensures.updates.0;
}
