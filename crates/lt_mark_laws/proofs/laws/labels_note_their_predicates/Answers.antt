use Rattle.lt_mark_laws.proofs.Truths.{notes}
use Rattle.lt_mark_laws.proofs.laws.labels_note_their_predicates.Goals as goal

pub returns : goal.returns
returns c = notes
