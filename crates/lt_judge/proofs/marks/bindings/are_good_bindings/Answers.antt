use Rattle.std.proofs.Common.{ap, ◌∙◌}
use Rattle.std.specs.List.{list_all}
use Rattle.std.proofs.lemmas.Iterator.{YieldsList-from_slice, YieldsList-from_zip}
use Rattle.std.proofs.lemmas.Iterator.Consumers.{YieldsList-end}
use Rattle.lt_tree.specs.Typing.MarkRules.{is_good_binding}
use Rattle.lt_judge.proofs.JudgedMarks.{all_bound}
use Rattle.lt_judge.proofs.marks.bindings.are_good_bindings.Goals as goal

pub returns : goal.returns
returns c = λ longer more.
    let end = YieldsList-end (YieldsList-from_zip (YieldsList-from_slice c.args.bound.now cc) (YieldsList-from_slice c.args.values.now cc)) c.bound.yielded _ c.bound.yielded_by _ c.next.new.self
    c.in-None.is c.next.ensures.steps in
    c.bound.invariant longer more ∙ ap (list_all is_good_binding) (all_bound longer (λ p. (p.0.now, p.1.now)) c.bound.yielded c.args.bound.now c.args.values.now end.0)
