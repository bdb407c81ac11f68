-- Lists each element of which is below those after it.
use Rattle.std.proofs.Common.{◌≡◌, ℕ, suc, zero, ◌+◌, ◌-◌, ◌<◌, ◌≤◌, List, [], ◌∷◌, ◌++◌, length, get_or, refl, sym, ap, subst, ◌∙◌, arith, map, take, Bor, Bool, true, false}
use Rattle.std.specs.Prelude.{All, not, ◌==◌}
use Rattle.std.specs.Ordering.{ordering_index}
use Rattle.std.proofs.lemmas.Bool.{false≢true}
use Rattle.std.proofs.lemmas.List.{map-append}
use Rattle.std.proofs.lemmas.List.{get_or-take, length-take, take_more, take_all, get_or_default, length-map}
use Rattle.std.proofs.Math.ListN.{get_or-map}
use Rattle.std.proofs.lemmas.Cmp.{nat_list_cmp_total}
use Rattle.std.specs.Ordering.{nat_cmp}
use Rattle.std.specs.Cmp.Lexicographic.{slice_cmp}
use Rattle.lt_cover.specs.Coverage.Table.{NamesRise}
use Rattle.std.specs.Cmp.{IsTotalOrder}
use Rattle.std.specs.declared.cmp.Ordering.{Ordering}
use Rattle.std.specs.declared.cmp.Ordering.TheVariants.{Less, Equal, Greater}
use Rattle.std.specs.List.Sorted.{IsStrictlySortedBy}
use Rattle.std.proofs.lemmas.List.Elements.{All-nil, All-cons, All-head, All-tail, All-push, All-from_recursion, recursion_from_All}

module _ {K : Type 0} (R : K → K → Ordering) where
  abbrev IsBelow : K → K → Type 0
  IsBelow y z = R z y ≡ Less

  pub rise_head : (x : K) (xs : List K) → IsStrictlySortedBy R (x ∷ xs) → All (λ y. R x y ≡ Less) xs
  unfolding IsStrictlySortedBy
  rise_head x xs h = All-from_recursion (λ y. R x y ≡ Less) xs h.0

  pub rise_tail : (x : K) (xs : List K) → IsStrictlySortedBy R (x ∷ xs) → IsStrictlySortedBy R xs
  unfolding IsStrictlySortedBy
  rise_tail x xs h = h.1

  pub rise_cons : (x : K) (xs : List K) → All (λ y. R x y ≡ Less) xs → IsStrictlySortedBy R xs → IsStrictlySortedBy R (x ∷ xs)
  unfolding IsStrictlySortedBy
  rise_cons x xs h k = (recursion_from_All (λ y. R x y ≡ Less) xs h, k)

  pub rise_nil : IsStrictlySortedBy R []
  unfolding IsStrictlySortedBy
  rise_nil = tt

  -- one more element at the end
  pub rise_push : (xs : List K) (y : K) → IsStrictlySortedBy R xs → All (IsBelow y) xs → IsStrictlySortedBy R (xs ++ y ∷ [])
  rise_push [] y h k = rise_cons y [] (All-nil (λ z. R y z ≡ Less)) rise_nil
  rise_push (x ∷ xs) y h k =
      rise_cons x (xs ++ y ∷ []) (All-push (λ z. R x z ≡ Less) xs y (rise_head x xs h) (All-head (IsBelow y) x xs k))
      (rise_push xs y (rise_tail x xs h) (All-tail (IsBelow y) x xs k))

  pub rise_front : (xs : List K) (y : K) → IsStrictlySortedBy R (xs ++ y ∷ []) → IsStrictlySortedBy R xs
  rise_front [] y h = rise_nil
  rise_front (x ∷ xs) y h = rise_cons x xs (front_of (λ z. R x z ≡ Less) xs y (rise_head x (xs ++ y ∷ []) h)) (rise_front xs y (rise_tail x (xs ++ y ∷ []) h))
    where
      front_of : (P : K → Type 0) (xs : List K) (y : K) → All P (xs ++ y ∷ []) → All P xs
      front_of P [] y h = All-nil P
      front_of P (x ∷ xs) y h = All-cons P x xs (All-head P x (xs ++ y ∷ []) h) (front_of P xs y (All-tail P x (xs ++ y ∷ []) h))

  pub rise_back : (xs : List K) (y : K) → IsStrictlySortedBy R (xs ++ y ∷ []) → All (IsBelow y) xs
  rise_back [] y h = All-nil (IsBelow y)
  rise_back (x ∷ xs) y h = All-cons (IsBelow y) x xs (last_of (λ z. R x z ≡ Less) xs y (rise_head x (xs ++ y ∷ []) h)) (rise_back xs y (rise_tail x (xs ++ y ∷ []) h))
    where
      last_of : (P : K → Type 0) (xs : List K) (y : K) → All P (xs ++ y ∷ []) → P y
      last_of P [] y h = All-head P y [] h
      last_of P (x ∷ xs) y h = last_of P xs y (All-tail P x (xs ++ y ∷ []) h)

  -- neighbours
  pub rise_at : (xs : List K) (i : ℕ) (d : K) → IsStrictlySortedBy R xs → suc i < length xs → R (get_or xs i d) (get_or xs (suc i) d) ≡ Less
  rise_at [] i d h k = absurd (omega arith)
  rise_at (x ∷ []) i d h k = absurd (omega arith)
  rise_at (x ∷ y ∷ xs) zero d h k = All-head (λ z. R x z ≡ Less) y xs (rise_head x (y ∷ xs) h)
  rise_at (x ∷ y ∷ xs) (suc i) d h k = rise_at (y ∷ xs) i d (rise_tail x (y ∷ xs) h) (omega arith)

module _ {K : Type 0} {R : K → K → Ordering} (o : IsTotalOrder R) where
  -- all are below what the last is below
  pub rise_below : (xs : List K) (y : K) → IsStrictlySortedBy R xs → ((i : ℕ) (d : K) → i + 1 ≡ length xs → R (get_or xs i d) y ≡ Less) → All (λ z. R z y ≡ Less) xs
  rise_below [] y h k = All-nil (λ z. R z y ≡ Less)
  rise_below (x ∷ []) y h k = All-cons (λ z. R z y ≡ Less) x [] (k 0 x refl) (All-nil (λ z. R z y ≡ Less))
  rise_below (x ∷ z ∷ xs) y h k =
      let rest = rise_below (z ∷ xs) y (rise_tail R x (z ∷ xs) h) (λ i d last. k (suc i) d (omega arith)) in
      let first : R x z ≡ Less = All-head (λ v. R x v ≡ Less) z xs (rise_head R x (z ∷ xs) h) in
      let next : R z y ≡ Less = All-head (λ v. R v y ≡ Less) z xs rest in
      All-cons (λ v. R v y ≡ Less) x (z ∷ xs) (o.trans x z y first next) rest

-- a list that rises up to a place, and one element more
pub rise_more : {K : Type 0} {R : K → K → Ordering} (o : IsTotalOrder R) (xs : List K) (i : ℕ) (d : K) → 1 ≤ i → i < length xs → R (get_or xs (i - 1) d) (get_or xs i d) ≡ Less → IsStrictlySortedBy R (take i xs) → IsStrictlySortedBy R (take (i + 1) xs)
rise_more {K} {R} o xs i d low within less h =
    let last : (j : ℕ) (e : K) → j + 1 ≡ length (take i xs) → R (get_or (take i xs) j e) (get_or xs i d) ≡ Less = λ j e k.
    let same : j ≡ i - 1 = omega (arith, k, length-take i xs) in
    let place : get_or (take i xs) j e ≡ get_or xs (i - 1) d = get_or-take i xs j e (omega arith) ∙ (ap (λ n. get_or xs n e) same ∙ get_or_default xs (i - 1) e d (omega arith)) in
    ap (λ z. R z (get_or xs i d)) place ∙ less in
    subst (IsStrictlySortedBy R) (sym (take_more xs i d within)) (rise_push R (take i xs) (get_or xs i d) h (rise_below o (take i xs) (get_or xs i d) h last))

pub rise_before : {K : Type 0} (R : K → K → Ordering) (xs : List K) (i : ℕ) (d : K) → IsStrictlySortedBy R xs → 1 ≤ i → i < length xs → R (get_or xs (i - 1) d) (get_or xs i d) ≡ Less
rise_before R xs zero d h low within = absurd (omega arith)
rise_before R xs (suc i) d h low within = subst (λ (n : ℕ). R (get_or xs n d) (get_or xs (suc i) d) ≡ Less) {x = i} {y = suc i - 1} (omega arith) (rise_at R xs i d h within)

pub rise_start : {K : Type 0} (R : K → K → Ordering) (xs : List K) → IsStrictlySortedBy R (take 1 xs)
rise_start R [] = rise_nil R
rise_start R (x ∷ xs) = rise_cons R x [] (All-nil (λ z. R x z ≡ Less)) (rise_nil R)

-- the same of names behind references
abbrev pub now_of : Bor (List ℕ) → List ℕ
now_of name = name.now

abbrev pub none : Bor (List ℕ)
none = record { ref_ptr = (0, 0); now = [] }

name_at : (names : List (Bor (List ℕ))) (i : ℕ) → get_or (map now_of names) i [] ≡ (get_or names i none).now
name_at names i = get_or-map now_of names i none

pub names_rise_more : (names : List (Bor (List ℕ))) (i : ℕ) → 1 ≤ i → i < length names → slice_cmp nat_cmp (get_or names (i - 1) none).now (get_or names i none).now ≡ Less → NamesRise (take i (map now_of names)) → NamesRise (take (i + 1) (map now_of names))
names_rise_more names i low within less h =
    let less' : slice_cmp nat_cmp (get_or (map now_of names) (i - 1) []) (get_or (map now_of names) i []) ≡ Less = rw (name_at names (i - 1), name_at names i) less in
    rise_more nat_list_cmp_total (map now_of names) i [] low (omega (arith, length-map names now_of)) less' h

pub names_rise_before : (names : List (Bor (List ℕ))) (i : ℕ) → 1 ≤ i → i < length names → NamesRise (map now_of names) → slice_cmp nat_cmp (get_or names (i - 1) none).now (get_or names i none).now ≡ Less
names_rise_before names i low within h =
    let e : slice_cmp nat_cmp (get_or (map now_of names) (i - 1) []) (get_or (map now_of names) i []) ≡ Less = rise_before (slice_cmp nat_cmp) (map now_of names) i [] h low (omega (arith, length-map names now_of)) in
    rw (name_at names (i - 1), name_at names i) at e

pub names_rise_all : (names : List (Bor (List ℕ))) (i : ℕ) → length names ≤ i → NamesRise (take i (map now_of names)) → NamesRise (map now_of names)
names_rise_all names i past h = subst NamesRise (take_all i (map now_of names) (omega (arith, length-map names now_of))) h

pub less_told : (r : Ordering) (b : Bool) → b ≡ not (ordering_index r == 0) → b ≡ false → r ≡ Less
less_told Less b e f = refl
less_told Equal b e f = absurd (false≢true (sym f ∙ e))
less_told Greater b e f = absurd (false≢true (sym f ∙ e))

pub less_missed : (r : Ordering) (b : Bool) → b ≡ not (ordering_index r == 0) → b ≡ true → r ≡ Less → ⊥
less_missed r b e f less = false≢true (sym (ap (λ z. not (ordering_index z == 0)) less) ∙ (sym e ∙ f))

-- what holds of each name, found one by one
module _ (P : List ℕ → Type 0) where
  pub each_more : (names : List (Bor (List ℕ))) (i : ℕ) → i < length names → P (get_or names i none).now → All P (map now_of (take i names)) → All P (map now_of (take (i + 1) names))
  each_more names i within here h =
      subst (All P) (sym (ap (map now_of) (take_more names i none within) ∙ map-append now_of (take i names) (get_or names i none ∷ [])))
      (All-push P (map now_of (take i names)) (get_or names i none).now h here)

  pub each_at : (names : List (Bor (List ℕ))) (i : ℕ) → i < length names → All P (map now_of names) → P (get_or names i none).now
  each_at names i within h = subst P (name_at names i) (h i [] (omega (arith, length-map names now_of)))

  pub each_all : (names : List (Bor (List ℕ))) (i : ℕ) → length names ≤ i → All P (map now_of (take i names)) → All P (map now_of names)
  each_all names i past h = subst (λ (xs : List (Bor (List ℕ))). All P (map now_of xs)) (take_all i names past) h
