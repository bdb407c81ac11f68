use Rattle.lt_table.proofs.types.Types.add_struct.Goals as goal

pub invariant_of-self : goal.invariant_of-self
invariant_of-self c = (c.add.ensures.suits c.self.inside.table c.self.invariant.0, c.add.ensures.shared c.self.invariant.1)
