use Rattle.std.proofs.Common.{arith, sym, ap, ◌+◌, ◌-◌, ◌/◌, ◌%◌}
use Rattle.std.proofs.lemmas.Nat.Gcd.{IsGcd-from_zero, IsGcd-from_mod}
use Rattle.std.proofs.Math.Nat.{div-add-mod', mod-lt, pos_of_ne-zero}
use Rattle.lt_value.proofs.Residues.{inverse_step}
use Rattle.lt_value.proofs.modular.inverse_of.Goals as goal

pub steps-preserved : goal.steps-preserved
steps-preserved c =
    let i = c.steps.invariant in
    let e = div-add-mod' c.steps.x c.steps.y in
    record {
      gcd = λ g h. i.gcd g (IsGcd-from_mod c.steps.x c.steps.y g h);
      first = i.second;
      second = inverse_step c.args.a c.args.m c.steps.u c.steps.v (c.steps.x / c.steps.y) c.steps.x c.steps.y (c.steps.x % c.steps.y) _ c.requires.m_above i.v_below (sym e) i.first i.second (ap (λ k. (c.steps.u + c.args.m - k) % c.args.m) c.mul_mod.ensures.value);
      u_below = i.v_below;
      v_below = mod-lt _ c.requires.m_above;
      x_below = i.y_below;
      y_below = omega (arith, mod-lt c.steps.x (pos_of_ne-zero c.steps-test.true));
    }

pub returns : goal.returns
returns c =
    let i = c.steps.invariant in
    record {
      gcd = i.gcd c.steps.x (IsGcd-from_zero c.steps.x c.steps.y c.steps-test.false);
      same = i.first;
      below = i.u_below;
    }
