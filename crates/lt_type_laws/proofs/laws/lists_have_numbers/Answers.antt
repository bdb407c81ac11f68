use Rattle.lt_type_laws.proofs.Places.{lists_numbered}
use Rattle.lt_type_laws.proofs.laws.lists_have_numbers.Goals as goal

pub returns : goal.returns
returns c = lists_numbered
