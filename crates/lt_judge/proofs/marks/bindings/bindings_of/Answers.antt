use Rattle.std.proofs.Common.{ap, ◌∙◌}
use Rattle.std.proofs.lemmas.Iterator.{YieldsList-from_slice, YieldsList-from_zip}
use Rattle.std.proofs.lemmas.Iterator.Adapters.{YieldsList-from_vec}
use Rattle.std.proofs.lemmas.Iterator.Consumers.{YieldsList-end}
use Rattle.lt_tree.specs.Typing.ValueView.{bindings_in}
use Rattle.lt_tree.specs.Typing.MarkRules.{bindings_of}
use Rattle.lt_env.proofs.Judgements.{stays_on, widens_on}
use Rattle.lt_judge.proofs.JudgedMarks.{bound_with, one_more_bound, all_bound}
use Rattle.lt_judge.proofs.marks.bindings.bindings_of.Goals as goal

pub bound-preserved : goal.bound-preserved
bound-preserved c = record {
  widens = widens_on c.bound.invariant.widens c.value_in.ensures.widens;
  made = λ longer more.
      ap (bindings_in longer) c.in_ok-push.ensures.items
      ∙ one_more_bound longer (λ p. bound_with longer (p.0.now, p.1)) c.bound.made.items _ c.bound.yielded (c.in-Some.binding, c.in-Some.value)
      (stays_on c.value_in.ensures.widens c.bound.invariant.made longer more) (c.in_ok-name.ensures ∙ c.as_slice.ensures) (c.in_ok-value.ensures.made longer more);
}

pub returns-clause-made : goal.returns-clause-made
returns-clause-made c = λ longer more.
    let end = YieldsList-end (YieldsList-from_zip (YieldsList-from_slice c.args.bound.now cc) (YieldsList-from_vec c.args.values.items (cc) (cc))) c.bound.yielded _ c.bound.yielded_by _ c.next.new.self
    c.in-None.is c.next.ensures.steps in
    c.bound.invariant.made longer more ∙ ap bindings_of (all_bound longer (λ p. (p.0.now, p.1)) c.bound.yielded c.args.bound.now c.args.values.items end.0)
