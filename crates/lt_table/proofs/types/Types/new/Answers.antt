use Rattle.lt_table.proofs.types.Types.new.Goals as goal

pub invariant_of-result : goal.invariant_of-result
invariant_of-result c = (c.new-2.ensures.suits c.new.result, c.new-2.ensures.shared)
