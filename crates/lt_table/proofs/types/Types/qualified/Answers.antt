use Rattle.lt_table.proofs.TypesSuit.{suits_grow}
use Rattle.lt_table.proofs.types.Types.qualified.Goals as goal

pub invariant_of-self : goal.invariant_of-self
invariant_of-self c = (suits_grow c.self.inside.table c.qualified.new.self c.self.inside.structs c.qualified.ensures.grows c.self.invariant.0, c.self.invariant.1)
