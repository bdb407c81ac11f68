use Rattle.std.proofs.Common.{sym, ◌∙◌, ap, Ok}
use Rattle.lt_mem.proofs.Finding.{no_cell}
use Rattle.lt_mem.proofs.Meeting.{held_none, held_some}
use Rattle.lt_mem.proofs.object.Object.held.Goals as goal

pub returns-in-Some-clause-is : goal.returns-in-Some-clause-is
returns-in-Some-clause-is c = ap Ok (c.content.ensures.is no_cell) ∙ sym (held_some _ _ _ _ c.in-Some.ensures)

pub returns-in-None-clause-is : goal.returns-in-None-clause-is
returns-in-None-clause-is c = sym (held_none c.args.offset c.args.ty c.args.self.now.cells c.in-None.ensures)
