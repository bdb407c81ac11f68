use Rattle.lt_mach.proofs.Rooted.{found_at, nowhere_at}
use Rattle.lt_mach.proofs.roots.find.Goals as goal

pub returns-in-Some : goal.returns-in-Some
returns-in-Some c = found_at c.args.cells.now c.args.offset c.in-Some.place _ c.requires c.in-Some.ensures

pub returns-in-None : goal.returns-in-None
returns-in-None c = nowhere_at c.args.cells.now c.args.offset c.in-None.ensures
