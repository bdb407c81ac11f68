use Rattle.std.proofs.Common.{rules, arith, ◌≡◌, sym, ◌∙◌, ap, subst, ℕ, ℤ, pos, ◌<◌, ◌≤◌, ◌/◌, ◌^◌}
use Rattle.std.proofs.Math.Nat.{div-le_self}
use Rattle.std.proofs.lemmas.Int.{to_z-of_z}
use mir.Val.{SFits, to_z}
use mir.Syntax.{w128}
use Rattle.lt_elim.specs.Combination.{Multipliers}
use Rattle.lt_elim.proofs.Combining.{divisor_of}
use Rattle.lt_elim.proofs.combination.multipliers_of.Goals as goal

quotient_fits : (n g : ℕ) → n < 2 ^ 127 → SFits w128 (pos (n / g))
quotient_fits n g h = let l : n / g ≤ n = div-le_self n g in by_bound (n / g) (omega arith)
  where
    by_bound : (q : ℕ) → q < 2 ^ 127 → SFits w128 (pos q)
    by_bound q h = search rules

pub nonzero_div-of_raising : goal.nonzero_div-of_raising
nonzero_div-of_raising c = subst (λ (g : ℕ). 0 < g) (sym c.gcd-divisor.ensures) (divisor_of c.args.up c.args.down c.requires.positive)

pub nonzero_div-of_lowering : goal.nonzero_div-of_lowering
nonzero_div-of_lowering c = subst (λ (g : ℕ). 0 < g) (sym c.gcd-divisor.ensures) (divisor_of c.args.up c.args.down c.requires.positive)

pub overflow_cast-of_raising : goal.overflow_cast-of_raising
overflow_cast-of_raising c = quotient_fits c.args.down c.gcd-divisor.result c.requires.down

pub overflow_cast-of_lowering : goal.overflow_cast-of_lowering
overflow_cast-of_lowering c = quotient_fits c.args.up c.gcd-divisor.result c.requires.up

pub returns : goal.returns
returns c =
    let a = quotient_fits c.args.down c.gcd-divisor.result c.requires.down in
    let b = quotient_fits c.args.up c.gcd-divisor.result c.requires.up in
    let e : to_z w128 (c.args.down / c.gcd-divisor.result) ≡ pos (c.args.down / c.gcd-divisor.result) = to_z-of_z w128 (pos (c.args.down / c.gcd-divisor.result)) a in
    let f : to_z w128 (c.args.up / c.gcd-divisor.result) ≡ pos (c.args.up / c.gcd-divisor.result) = to_z-of_z w128 (pos (c.args.up / c.gcd-divisor.result)) b in
    ap (λ (z : ℤ). let m : Multipliers = record { of_raising = z; of_lowering = to_z w128 (c.args.up / c.gcd-divisor.result) } in m) e
    ∙ ap (λ (z : ℤ). let m : Multipliers = record { of_raising = pos (c.args.down / c.gcd-divisor.result); of_lowering = z } in m) f
    ∙ ap (λ (g : ℕ). let m : Multipliers = record { of_raising = pos (c.args.down / g); of_lowering = pos (c.args.up / g) } in m) c.gcd-divisor.ensures
