use Rattle.lt_typed_nodes.proofs.NotedUnits.{parts_note_their_nodes}
use Rattle.lt_typed_nodes.proofs.laws.parts_note_their_nodes.Goals as goal

pub returns : goal.returns
returns c = parts_note_their_nodes
