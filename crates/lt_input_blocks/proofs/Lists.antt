-- Steps of loops over lists.
use Rattle.std.proofs.Common.{◌≡◌, ℕ, zero, ◌+◌, ◌<◌, suc, arith, List, [], ◌∷◌, length, drop, get_or, refl, sym, ap, ◌∙◌, drop-cons}

pub drop_first : {A : Type 0} (xs : List A) (i : ℕ) (x : A) → i < length xs → x ≡ get_or xs i x → drop i xs ≡ x ∷ drop (i + 1) xs
drop_first xs i x within is =
    drop-cons xs i x within ∙ ap (λ y. y ∷ drop (suc i) xs) (sym is) ∙ (let next : suc i ≡ i + 1 = omega arith in ap (λ n. x ∷ drop n xs) next)

-- the item of a list, by whatever stands past its end
pub item_is : {A : Type 0} (xs : List A) (i : ℕ) (d : A) → i < length xs → get_or xs i d ≡ get_or xs i (get_or xs i d)
item_is [] i d h = absurd (omega (arith, h))
item_is (x ∷ xs) zero d h = refl
item_is (x ∷ xs) (suc i) d h = item_is xs i d (omega (arith, h))
