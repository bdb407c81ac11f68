-- Numbers of lines, as 128-bit integers.
use Rattle.std.proofs.Common.{◌≡◌, ℕ, pos, ◌-ℤ◌, arith}
use Rattle.std.specs.Prelude.{neg_ℤ}
use Rattle.std.proofs.lemmas.Int.{ints}
use mir.Syntax.{w128}
use mir.Val.{SFits}

pub opposite_fits : (n : ℕ) → SFits w128 (pos n) → SFits w128 (pos 0 -ℤ pos n)
opposite_fits n h = omega (arith, ints, h)

pub opposite_is : (n : ℕ) → (pos 0 -ℤ pos n) ≡ neg_ℤ (pos n)
opposite_is n = omega (arith, ints)
