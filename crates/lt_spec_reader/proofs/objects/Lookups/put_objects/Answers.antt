use Rattle.std.proofs.Common.{◌++◌, ap, ◌∙◌}
use Rattle.std.proofs.lemmas.Iterator.{YieldsList-from_slice, YieldsList-from_zip}
use Rattle.std.proofs.lemmas.Iterator.Consumers.{YieldsList-end}
use Rattle.lt_spec_reader.specs.Objects.{freed_by}
use Rattle.lt_spec_reader.proofs.FreedLaws.{joined_of}
use Rattle.lt_spec_reader.proofs.objects.Lookups.put_objects.Goals as goal

pub returns : goal.returns
returns c =
    let end = YieldsList-end (YieldsList-from_zip (YieldsList-from_slice c.args.self.now.firsts.items cc) (YieldsList-from_slice c.args.all.now cc)) c.object.yielded _ c.object.yielded_by _ c.next.new.self
    c.in-None.is c.next.ensures.steps in
    c.object.invariant ∙ ap (λ l. c.args.cells.now.items ++ l) (joined_of (λ p. freed_by c.args.self.now p.0.now p.1) (λ p. (p.0.now, p.1.now)) c.object.yielded _ end.0)
