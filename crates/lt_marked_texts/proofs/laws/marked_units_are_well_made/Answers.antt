use Rattle.lt_marked_texts.proofs.Marked.{marked_well_made}
use Rattle.lt_marked_texts.proofs.laws.marked_units_are_well_made.Goals as goal

pub returns : goal.returns
returns c = marked_well_made (λ x known. c.nodes_are_numbered.ensures.parts.5 x known)
