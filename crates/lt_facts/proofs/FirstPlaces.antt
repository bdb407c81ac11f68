-- Where numbers stand first, in maps and in lists.
use Rattle.std.proofs.Common.{◌≡◌, ℕ, ◌+◌, ◌<◌, suc, Bool, true, false, cond, eqb, List, [], ◌∷◌, ◌++◌, length, map, take, get_or, Option, Some, None, refl, sym, ap, ◌∙◌, arith}
use Rattle.std.specs.Prelude.{IfSome, is_some, nat_eq, option_map, option_and_then}
use Rattle.std.specs.HashMap.{HashMap, get}
use Rattle.std.proofs.lemmas.Bool.Decides.{nat_tests}
use Rattle.std.proofs.lemmas.List.{take_more, length-take-le}
use Rattle.std.proofs.lemmas.List.Elements.{All-map}
use Rattle.lt_tree.specs.Typing.Entities.{or_else}
use Rattle.lt_facts.specs.Indices.{first_place, place_among, AreIndicesBelow}

-- ---- in a map

put : (v : ℕ) (b : Bool) (o : Option ℕ) → (b ≡ true → is_some o ≡ false) → cond b (Some v) o ≡ or_else o (cond b (Some v) None)
put v true None h = refl
put v true (Some u) h = absurd (let e : true ≡ false = h refl in cc)
put v false None h = refl
put v false (Some u) h = refl

kept : (v : ℕ) (b : Bool) (o : Option ℕ) → (b ≡ true → is_some o ≡ true) → o ≡ or_else o (cond b (Some v) None)
kept v true None h = absurd (let e : false ≡ true = h refl in cc)
kept v true (Some u) h = refl
kept v false None h = refl
kept v false (Some u) h = refl

same : (k n : ℕ) → eqb k n ≡ true → k ≡ n
same k n h = grind (arith, nat_tests)

pub place_put : {S : Type 0} (old new : HashMap ℕ ℕ S) (k v : ℕ) → is_some (get nat_eq old k) ≡ false → ((n : ℕ) → get nat_eq new n ≡ cond (eqb k n) (Some v) (get nat_eq old n)) → (n : ℕ)
    → get nat_eq new n ≡ or_else (get nat_eq old n) (cond (eqb k n) (Some v) None)
place_put old new k v absent updates n = updates n ∙ put v (eqb k n) (get nat_eq old n) (λ h. ap (λ m. is_some (get nat_eq old m)) (sym (same k n h)) ∙ absent)

pub place_kept : {S : Type 0} (old : HashMap ℕ ℕ S) (k v : ℕ) → is_some (get nat_eq old k) ≡ true → (n : ℕ) → get nat_eq old n ≡ or_else (get nat_eq old n) (cond (eqb k n) (Some v) None)
place_kept old k v there n = kept v (eqb k n) (get nat_eq old n) (λ h. ap (λ m. is_some (get nat_eq old m)) (sym (same k n h)) ∙ there)

-- ---- in a list

one_later : (b : Bool) (o : Option ℕ) (v : ℕ) → option_map suc (or_else o (cond b (Some v) None)) ≡ or_else (option_map suc o) (cond b (Some (suc v)) None)
one_later true None v = refl
one_later false None v = refl
one_later b (Some u) v = refl

behind : (a : Bool) (o p q : Option ℕ) → option_map suc o ≡ or_else (option_map suc p) q → cond a (Some 0) (option_map suc o) ≡ or_else (cond a (Some 0) (option_map suc p)) q
behind true o p q is = refl
behind false o p q is = is

place_push : (n : ℕ) (xs : List ℕ) (x : ℕ) → first_place n (xs ++ x ∷ []) ≡ or_else (first_place n xs) (cond (eqb x n) (Some (length xs)) None)
place_push n [] x = refl
place_push n (y ∷ xs) x =
    behind (eqb y n) (first_place n (xs ++ x ∷ [])) (first_place n xs) (cond (eqb x n) (Some (suc (length xs))) None)
    (ap (option_map suc) (place_push n xs x) ∙ one_later (eqb x n) (first_place n xs) (length xs))

-- one number more
pub place_more : (n : ℕ) (xs : List ℕ) (k : ℕ) → k < length xs → first_place n (take (k + 1) xs) ≡ or_else (first_place n (take k xs)) (cond (eqb (get_or xs k 0) n) (Some k) None)
place_more n xs k within =
    ap (first_place n) (take_more xs k 0 within)
    ∙ place_push n (take k xs) (get_or xs k 0)
    ∙ ap (λ v. or_else (first_place n (take k xs)) (cond (eqb (get_or xs k 0) n) (Some v) None)) (length-take-le k xs (omega (arith, within)))

-- ---- of a number that may be absent

pub place_found : {S : Type 0} (places : HashMap ℕ ℕ S) (others : List ℕ) (number : Option ℕ) → ((n : ℕ) → get nat_eq places n ≡ first_place n others)
    → option_and_then (get nat_eq places) number ≡ place_among others number
place_found places others None is = refl
place_found places others (Some n) is = is n

-- ---- within the list

first_within : (b : Bool) (o : Option ℕ) (count : ℕ) → IfSome o (λ i. i < count) → IfSome (cond b (Some 0) (option_map suc o)) (λ i. i < suc count)
first_within true o count is = omega arith
first_within false None count is = tt
first_within false (Some i) count is = omega (arith, is)

first_below : (n : ℕ) (xs : List ℕ) → IfSome (first_place n xs) (λ i. i < length xs)
first_below n [] = tt
first_below n (x ∷ xs) = first_within (eqb x n) (first_place n xs) (length xs) (first_below n xs)

place_below : (others : List ℕ) (number : Option ℕ) → IfSome (place_among others number) (λ i. i < length others)
place_below others None = tt
place_below others (Some n) = first_below n others

pub places_below : (others : List ℕ) (numbers : List (Option ℕ)) → AreIndicesBelow (length others) (map (place_among others) numbers)
places_below others numbers = All-map (λ index. IfSome index (λ i. i < length others)) (place_among others) numbers (λ k d within. place_below others (get_or numbers k d))
