use Rattle.std.proofs.Common.{◌≡◌, ℕ, ◌*◌, ◌%◌, ◌<◌, ◌^◌}
use Rattle.std.specs.Int.{IsGcd}
use Rattle.lt_value.proofs.modular.inverse_of.Given as goal

abbrev pub invariant-steps : goal.invariant-steps
invariant-steps l = record {
  gcd : (g : ℕ) → IsGcd l.x l.y g → IsGcd l.fn.a l.fn.m g;
  first : (l.fn.a * l.u) % l.fn.m ≡ l.x % l.fn.m;
  second : (l.fn.a * l.v) % l.fn.m ≡ l.y % l.fn.m;
  u_below : l.u < l.fn.m;
  v_below : l.v < l.fn.m;
  x_below : l.x < 2 ^ 66;
  y_below : l.y < 2 ^ 66;
}

abbrev pub decreases-steps : goal.decreases-steps
decreases-steps l = l.y
