use Rattle.std.proofs.Common.{◌≡◌, ◌∷◌, ◌++◌, [], length, slice_get, ap, ◌∙◌, arith}
use Rattle.lt_tree.specs.Typing.ValueView.{values_in}
use Rattle.lt_env.proofs.Judgements.{widens_on, stays_on}
use Rattle.lt_judge.proofs.PassedArguments.{one_passed, one_fits, one_longer}
use Rattle.lt_judge.proofs.calls.all_passed.Goals as goal

pub loop-x-preserved : goal.loop-x-preserved
loop-x-preserved c =
    let pushed = c.in_ok-push.ensures.items ∙ ap (λ v. c.loop-x.values.items ++ v ∷ []) c.into_inner.ensures in
    let n : c.len.result ≡ length c.loop-x.yielded = omega (arith, c.loop-x.values.ok.0) in
    let at = c.parameter_at-parameter.ensures ∙ ap (slice_get c.args.parameters.now) n in
    record {
      widens = widens_on c.loop-x.invariant.widens c.passed_at.ensures.widens;
      number = ap length pushed ∙ one_longer c.loop-x.values.items c.loop-x.yielded c.in_ok-value.value.value c.in-Some.x c.loop-x.invariant.number;
      values = λ longer more.
          ap (values_in longer) pushed
          ∙ one_passed c.args.types.now.model longer c.args.parameters.now c.loop-x.values.items c.in_ok-value.value.value c.loop-x.yielded c.in-Some.x c.parameter_at-parameter.result at
          (stays_on c.passed_at.ensures.widens c.loop-x.invariant.values longer more)
          (rw c.loop-x.invariant.widens.model at (c.in_ok-value.ensures.made longer more));
      fit = λ longer more.
          one_fits longer c.args.parameters.now c.loop-x.fit c.in_ok-fit.fit c.loop-x.yielded c.in-Some.x c.parameter_at-parameter.result at
          (stays_on c.passed_at.ensures.widens c.loop-x.invariant.fit longer more)
          (rw c.deref.ensures at (stays_on c.passed_at.ensures.widens c.in_ok-fit.ensures longer more));
    }
