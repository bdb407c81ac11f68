use Rattle.lt_mach_parts.proofs.Placed.{found_after}
use Rattle.lt_mach_parts.proofs.stubs.put.Goals as goal

pub returns : goal.returns
returns c q = found_after c.args.places.now c.insert.new.self c.args.name c.args.place c.in_ok-insert.ensures.updates q
