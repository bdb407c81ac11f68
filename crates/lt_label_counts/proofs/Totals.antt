-- Totals over lists.
use Rattle.std.proofs.Common.{◌≡◌, ◌≤◌, ℕ, ◌+◌, ◌*◌, List, [], ◌∷◌, ◌++◌, Bool, true, false, refl, arith}
use Rattle.std.proofs.Math.Nat.{mul-add}
use Rattle.std.specs.List.{flat_map}

abbrev pub count : Bool → ℕ
count true = 1
count false = 0

pub at_most_one : (b : Bool) → count b ≤ 1
at_most_one true = omega arith
at_most_one false = omega arith

abbrev pub total : {X : Type 0} → (X → ℕ) → List X → ℕ
total f [] = 0
total f (x ∷ xs) = f x + total f xs

pub total_both : {X : Type 0} (f : X → ℕ) (xs ys : List X) → total f (xs ++ ys) ≡ total f xs + total f ys
total_both f [] ys = omega arith
total_both f (x ∷ xs) ys = let more = total_both f xs ys in omega (arith, more)

pub total_flat : {X Y : Type 0} (f : Y → ℕ) (g : X → List Y) (xs : List X) → total f (flat_map g xs) ≡ total (λ x. total f (g x)) xs
total_flat f g [] = refl
total_flat f g (x ∷ xs) = let both = total_both f (g x) (flat_map g xs) in let more = total_flat f g xs in omega (arith, both, more)

-- where each is no more
pub total_at_most : {X : Type 0} (f g : X → ℕ) → ((x : X) → f x ≤ g x) → (xs : List X) → total f xs ≤ total g xs
total_at_most f g h [] = omega arith
total_at_most f g h (x ∷ xs) = let more = total_at_most f g h xs in let here = h x in omega (arith, more, here)

pub total_times : {X : Type 0} (n : ℕ) (f : X → ℕ) (xs : List X) → total (λ x. n * f x) xs ≡ n * total f xs
total_times n f [] = omega arith
total_times n f (x ∷ xs) = let more = total_times n f xs in let two = mul-add n (f x) (total f xs) in omega (arith, more, two)

pub total_plus : {X : Type 0} (f g : X → ℕ) (xs : List X) → total (λ x. f x + g x) xs ≡ total f xs + total g xs
total_plus f g [] = omega arith
total_plus f g (x ∷ xs) = let more = total_plus f g xs in omega (arith, more)
