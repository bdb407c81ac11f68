use Rattle.lt_type_laws.proofs.Accessed.{accessed_change_nothing}
use Rattle.lt_type_laws.proofs.laws.accessed_types_change_nothing.Goals as goal

pub returns : goal.returns
returns c = accessed_change_nothing
