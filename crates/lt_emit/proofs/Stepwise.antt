-- Lists whose elements are turned one by one, from the first on.
use Rattle.std.proofs.Common.{◌≡◌, ℕ, zero, suc, ◌<◌, List, [], ◌∷◌, ◌++◌, length, map, take, drop, slice_set, slice_index_or, refl, ap, arith}

-- one element more
pub turn_step :
    {A : Type 0} (f : A → A) (xs : List A) (i : ℕ) (d : A) → i < length xs
    → slice_set (map f (take i xs) ++ drop i xs) i (f (slice_index_or (map f (take i xs) ++ drop i xs) i d))
    ≡ map f (take (suc i) xs) ++ drop (suc i) xs
turn_step f [] i d there = absurd (omega (arith, there))
turn_step f (x ∷ xs) zero d there = refl
turn_step f (x ∷ xs) (suc i) d there = ap (λ ys. f x ∷ ys) (turn_step f xs i d (omega (arith, there)))
