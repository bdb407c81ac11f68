use Rattle.lt_simple_copies.proofs.SimpleWhereReached.{copies_are_simple}
use Rattle.lt_simple_copies.proofs.laws.copies_are_simple.Goals as goal

pub returns : goal.returns
returns c = copies_are_simple (record { expressions = c.expressions_keep_tags.ensures; items = c.items_keep_tags.ensures; numbers = c.nodes_are_numbered.ensures.parts })
