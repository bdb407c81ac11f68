use Rattle.lt_facts.proofs.TypeFamilies.{kinds}
use Rattle.lt_facts.proofs.types.families_are_kinds.Goals as goal

pub returns : goal.returns
returns c = kinds
