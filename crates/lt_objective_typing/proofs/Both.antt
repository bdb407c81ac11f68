-- Truths of `&&`.
use Rattle.std.proofs.Common.{◌≡◌, Bool, true, false, refl}
use Rattle.std.proofs.lemmas.Bool.{false≢true}
use Rattle.std.specs.Prelude.{◌&&◌}

pub and_first : (a b : Bool) → a && b ≡ true → a ≡ true
and_first true b h = refl
and_first false b h = absurd (false≢true h)

pub and_second : (a b : Bool) → a && b ≡ true → b ≡ true
and_second true b h = h
and_second false b h = absurd (false≢true h)

pub both_true : (a b : Bool) → a ≡ true → b ≡ true → a && b ≡ true
both_true true b h g = g
both_true false b h g = absurd (false≢true h)
