-- Tests of the order of whole numbers.
use Rattle.std.proofs.Common.{arith, ◌≡◌, ℤ, ◌≤ℤ◌, ◌<ℤ◌, true, false}
use Rattle.std.specs.Prelude.{int_le, int_lt}
use Rattle.std.proofs.lemmas.Int.{ints}

pub le_true : (a b : ℤ) → int_le a b ≡ true → a ≤ℤ b
le_true a b e = grind (arith, ints)

pub le_false : (a b : ℤ) → int_le a b ≡ false → b <ℤ a
le_false a b e = grind (arith, ints)

pub le_test : (a b : ℤ) → a ≤ℤ b → int_le a b ≡ true
le_test a b h = grind (arith, ints)

pub lt_true : (a b : ℤ) → int_lt a b ≡ true → a <ℤ b
lt_true a b e = grind (arith, ints)

pub lt_false : (a b : ℤ) → int_lt a b ≡ false → b ≤ℤ a
lt_false a b e = grind (arith, ints)

pub lt_test : {a b : ℤ} → a <ℤ b → int_lt a b ≡ true
lt_test {a} {b} h = grind (arith, ints)

pub lt_fails : {a b : ℤ} → b ≤ℤ a → int_lt a b ≡ false
lt_fails {a} {b} h = grind (arith, ints)
