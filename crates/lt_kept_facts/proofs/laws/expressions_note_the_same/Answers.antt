use Rattle.lt_kept_facts.proofs.KeptLaws.{expressions_note}
use Rattle.lt_kept_facts.proofs.laws.expressions_note_the_same.Goals as goal

pub returns : goal.returns
returns c = expressions_note c.nodes_are_numbered.ensures.parts.1 c.parts_note_their_nodes.ensures.1 c.expressions_are_typed_again.ensures
