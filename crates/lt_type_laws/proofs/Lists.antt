-- Places of types in lists, and facts that hold of all in a list.
use Rattle.std.proofs.Common.{◌≡◌, ◌≤◌, ◌<◌, ℕ, suc, ◌+◌, List, [], ◌∷◌, ◌++◌, length, Bool, true, false, sym, arith}
use Rattle.std.proofs.lemmas.Bool.{false≢true}
use Rattle.std.specs.Prelude.{◌||◌, if◌then◌else◌}
use Rattle.std.specs.List.{AllByRecursion, list_any}
use Rattle.lt_tree.specs.Typing.Types.{CType, same}
use Rattle.lt_tree.specs.Typing.Shapes.{place_among}

-- ---- places in lists

-- a type of the list has its place there
place_within : (types : List CType) (t : CType) (at : ℕ) → list_any (same t) types ≡ true → place_among at t types < at + length types
place_within [] t at h = absurd (false≢true h)
place_within (u ∷ us) t at h = by (same t u) h (place_within us t (suc at))
  where
    by : (b : Bool) → b || list_any (same t) us ≡ true → (list_any (same t) us ≡ true → place_among (suc at) t us < suc at + length us) → (if b then at else place_among (suc at) t us) < at + suc (length us)
    by true h f = omega arith
    by false h f = let less = f h in omega arith

-- another has its place behind
place_behind : (types : List CType) (t : CType) (at : ℕ) → list_any (same t) types ≡ false → at + length types ≤ place_among at t types
place_behind [] t at h = omega arith
place_behind (u ∷ us) t at h = by (same t u) h (place_behind us t (suc at))
  where
    by : (b : Bool) → b || list_any (same t) us ≡ false → (list_any (same t) us ≡ false → suc at + length us ≤ place_among (suc at) t us) → at + suc (length us) ≤ (if b then at else place_among (suc at) t us)
    by true h f = absurd (false≢true (sym h))
    by false h f = let behind = f h in omega arith

pub number_within : (types : List CType) (t : CType) → list_any (same t) types ≡ true → place_among 0 t types < length types
number_within types t h = let less = place_within types t 0 h in omega arith

pub number_behind : (types : List CType) (t : CType) (k : ℕ) → list_any (same t) types ≡ false → k < length types → place_among 0 t types ≡ k → ⊥
number_behind types t k h less e = let behind = place_behind types t 0 h in omega (arith, behind, less, e)

-- ---- lists

pub all_first : {A : Type 0} (P : A → Type 0) (xs ys : List A) → AllByRecursion P (xs ++ ys) → AllByRecursion P xs
all_first P [] ys h = tt
all_first P (x ∷ xs) ys h = (h.0, all_first P xs ys h.1)

pub all_second : {A : Type 0} (P : A → Type 0) (xs ys : List A) → AllByRecursion P (xs ++ ys) → AllByRecursion P ys
all_second P [] ys h = h
all_second P (x ∷ xs) ys h = all_second P xs ys h.1

pub all_both : {A : Type 0} (P : A → Type 0) (xs ys : List A) → AllByRecursion P xs → AllByRecursion P ys → AllByRecursion P (xs ++ ys)
all_both P [] ys h g = g
all_both P (x ∷ xs) ys h g = (h.0, all_both P xs ys h.1 g)
