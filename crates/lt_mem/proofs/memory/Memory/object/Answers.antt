use Rattle.std.proofs.Common.{sym, ◌∙◌, ap}
use Rattle.lt_mem.proofs.Blocks.{used, if_living}
use Rattle.lt_mem.proofs.memory.Memory.object.Goals as goal

pub returns-in-Some-get : goal.returns-in-Some-get
returns-in-Some-get c = rw (c.in-Some.is, ← c.self.view_is) (used c.self.inside.living c.self.inside.made c.self.invariant.unmade c.in-Some.at.block ∙ ap if_living (sym c.in-Some-get.ensures.value))

pub returns-in-None : goal.returns-in-None
returns-in-None c = rw (c.in-Some.is, ← c.self.view_is) (used c.self.inside.living c.self.inside.made c.self.invariant.unmade c.in-Some.at.block ∙ ap if_living (sym c.in-None.ensures.value))
