use Rattle.lt_kept_facts.proofs.Found.{objectives_are_found}
use Rattle.lt_kept_facts.proofs.laws.objectives_are_found_by_either.Goals as goal

pub returns : goal.returns
returns c = objectives_are_found c.facts_are_found_by_either.ensures
