use Rattle.lt_made_types.proofs.ReadValues.{no_test_is_a_pointer_to_a_function}
use Rattle.lt_made_types.proofs.laws.no_test_is_a_pointer_to_a_function.Goals as goal

pub returns : goal.returns
returns c = no_test_is_a_pointer_to_a_function c.parts_are_come_to.ensures.known
