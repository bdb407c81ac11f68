use Rattle.std.proofs.Common.{[], ◌∷◌, ◌++◌, ap, ◌∙◌}
use Rattle.lt_tree.specs.Typing.ValueView.{values_in}
use Rattle.lt_tree.specs.Typing.Expressions.{own_type}
use Rattle.lt_env.specs.Views.{typed_of}
use Rattle.lt_env.proofs.Judgements.{widens_on, stays_on}
use Rattle.lt_judge.proofs.JudgedCommas.{one_more, last_is}
use Rattle.lt_judge.proofs.binary.commas.comma_of.Goals as goal

pub loop-x-preserved : goal.loop-x-preserved
loop-x-preserved c = record {
  widens = widens_on c.loop-x.invariant.widens c.value_in.ensures.widens;
  last = λ longer. c.own_type-last.ensures longer ∙ ap (λ x. own_type (typed_of longer x)) c.deref.ensures ∙ last_is longer _ c.loop-x.yielded c.in-Some.x;
  values = λ longer more.
      ap (values_in longer) (c.in_ok-push.ensures.items ∙ ap (λ v. c.loop-x.values.items ++ v ∷ []) c.into_inner.ensures)
      ∙ one_more longer c.loop-x.values.items c.in_ok-value.value.value c.loop-x.yielded c.in-Some.x (stays_on c.value_in.ensures.widens c.loop-x.invariant.values longer more)
      (c.in_ok-value.ensures.made longer more);
}
