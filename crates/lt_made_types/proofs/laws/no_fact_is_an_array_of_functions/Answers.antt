use Rattle.lt_made_types.proofs.MadeUnits.{no_fact_is_an_array_of_functions}
use Rattle.lt_made_types.proofs.laws.no_fact_is_an_array_of_functions.Goals as goal

pub returns : goal.returns
returns c = no_fact_is_an_array_of_functions
