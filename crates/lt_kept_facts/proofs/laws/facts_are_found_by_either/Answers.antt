use Rattle.lt_kept_facts.proofs.KeptLaws.{found_by_either}
use Rattle.lt_kept_facts.proofs.laws.facts_are_found_by_either.Goals as goal

pub returns : goal.returns
returns c = found_by_either
