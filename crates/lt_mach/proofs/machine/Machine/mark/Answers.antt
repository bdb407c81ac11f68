use Rattle.std.proofs.Common.{sym}
use Rattle.lt_mach.proofs.Showing.{seen}
use Rattle.lt_mach.proofs.machine.Machine.mark.Goals as goal

pub returns-in_ok-see-in-Some : goal.returns-in_ok-see-in-Some
returns-in_ok-see-in-Some g c = λ o next.
    let h = rw (c.requires.model) at c.in_ok-mark-in-Some.ensures in
    seen g.W.Watch.saw c.args.graph.now o c.args.self.now c.args.label next _ c.args.predicate.now c.args.bound.now c.in_ok-mark-in-Some.mark c.args.watch.now c.see.new.self (sym c.in-Some.ensures) h c.in_ok-see-in-Some.ensures
