use Rattle.std.proofs.Common.{◌∙◌}
use Rattle.std.proofs.lemmas.Iterator.{YieldsList-from_slice, YieldsList-from_zip}
use Rattle.std.proofs.lemmas.Iterator.Consumers.{YieldsList-end}
use Rattle.lt_judge.proofs.JudgedMarks.{all_names}
use Rattle.lt_judge.proofs.marks.bindings.names_of.Goals as goal

pub returns : goal.returns
returns c = λ types.
    let end = YieldsList-end (YieldsList-from_zip (YieldsList-from_slice c.args.bound.now cc) (YieldsList-from_slice c.args.values.now cc)) c.bound.yielded _ c.bound.yielded_by _ c.next.new.self
    c.in-None.is c.next.ensures.steps in
    c.bound.invariant ∙ all_names types (λ p. (p.0.now, p.1.now)) c.bound.yielded c.args.bound.now c.args.values.now end.0
