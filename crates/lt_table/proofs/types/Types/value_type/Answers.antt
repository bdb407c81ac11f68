use Rattle.lt_table.proofs.TypesSuit.{suits_grow}
use Rattle.lt_table.proofs.types.Types.value_type.Goals as goal

pub invariant_of-self : goal.invariant_of-self
invariant_of-self c = (suits_grow c.self.inside.table c.value_type.new.self c.self.inside.structs c.value_type.ensures.grows c.self.invariant.0, c.self.invariant.1)
