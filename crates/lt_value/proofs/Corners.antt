-- The least and the greatest of what a function gives at the ends.
use Rattle.std.proofs.Common.{arith, ℤ, ◌≤ℤ◌, ◌⊎◌}
use Rattle.std.specs.Prelude.{int_lt, cond, Bool, true, false}
use Rattle.std.specs.Int.{int_min, int_max}
use Rattle.std.proofs.lemmas.Int.{ints, clamps}
use Rattle.lt_value.specs.Num.{Holds}
use Rattle.lt_value.specs.Entry.{Entry, written}
use Rattle.lt_value.specs.Table.{least_corner, greatest_corner}
use Rattle.lt_value.specs.declared.num.Num.{Num}
use Rattle.lt_value.proofs.Members.{lo_holds, hi_holds}

-- one number lies between two others, whichever is the greater
abbrev pub IsAmid : ℤ → ℤ → ℤ → Type 0
IsAmid l x h = ((l ≤ℤ x) × (x ≤ℤ h)) ⊎ ((h ≤ℤ x) × (x ≤ℤ l))

least_of_four : (xy ly hy a b c d : ℤ) → IsAmid ly xy hy → IsAmid a ly b → IsAmid c hy d → int_min (int_min a b) (int_min c d) ≤ℤ xy
least_of_four xy ly hy a b c d p q r = omega (arith, ints, clamps)

greatest_of_four : (xy ly hy a b c d : ℤ) → IsAmid ly xy hy → IsAmid a ly b → IsAmid c hy d → xy ≤ℤ int_max (int_max a b) (int_max c d)
greatest_of_four xy ly hy a b c d p q r = omega (arith, ints, clamps)

-- what a function gives at x and y, which moves one way with each of the two, lies between what it gives at the ends
pub above_least : (f : ℤ → ℤ → ℤ) (p q : Entry) (x y : ℤ) → IsAmid (f p.lo y) (f x y) (f p.hi y) → IsAmid (f p.lo q.lo) (f p.lo y) (f p.lo q.hi) → IsAmid (f p.hi q.lo) (f p.hi y) (f p.hi q.hi) → least_corner f p q ≤ℤ f x y
above_least f p q x y a b c = least_of_four (f x y) (f p.lo y) (f p.hi y) (f p.lo q.lo) (f p.lo q.hi) (f p.hi q.lo) (f p.hi q.hi) a b c

pub below_greatest : (f : ℤ → ℤ → ℤ) (p q : Entry) (x y : ℤ) → IsAmid (f p.lo y) (f x y) (f p.hi y) → IsAmid (f p.lo q.lo) (f p.lo y) (f p.lo q.hi) → IsAmid (f p.hi q.lo) (f p.hi y) (f p.hi q.hi) → f x y ≤ℤ greatest_corner f p q
below_greatest f p q x y a b c = greatest_of_four (f x y) (f p.lo y) (f p.hi y) (f p.lo q.lo) (f p.lo q.hi) (f p.hi q.lo) (f p.hi q.hi) a b c

-- what each pair of members keeps, the corners of lesser sets keep
four_above : (l a b c d : ℤ) → l ≤ℤ a → l ≤ℤ b → l ≤ℤ c → l ≤ℤ d → l ≤ℤ int_min (int_min a b) (int_min c d)
four_above l a b c d p q r s = omega (arith, ints, clamps)

four_below : (h a b c d : ℤ) → a ≤ℤ h → b ≤ℤ h → c ≤ℤ h → d ≤ℤ h → int_max (int_max a b) (int_max c d) ≤ℤ h
four_below h a b c d p q r s = omega (arith, ints, clamps)

pub least_corner_above : (f : ℤ → ℤ → ℤ) (p q : Num) (l : ℤ) → ((x y : ℤ) → Holds p x → Holds q y → l ≤ℤ f x y) → l ≤ℤ least_corner f (written p) (written q)
least_corner_above f p q l all =
    four_above l (f p.lo q.lo) (f p.lo q.hi) (f p.hi q.lo) (f p.hi q.hi)
    (all p.lo q.lo (lo_holds p) (lo_holds q)) (all p.lo q.hi (lo_holds p) (hi_holds q)) (all p.hi q.lo (hi_holds p) (lo_holds q)) (all p.hi q.hi (hi_holds p) (hi_holds q))

pub greatest_corner_below : (f : ℤ → ℤ → ℤ) (p q : Num) (h : ℤ) → ((x y : ℤ) → Holds p x → Holds q y → f x y ≤ℤ h) → greatest_corner f (written p) (written q) ≤ℤ h
greatest_corner_below f p q h all =
    four_below h (f p.lo q.lo) (f p.lo q.hi) (f p.hi q.lo) (f p.hi q.hi)
    (all p.lo q.lo (lo_holds p) (lo_holds q)) (all p.lo q.hi (lo_holds p) (hi_holds q)) (all p.hi q.lo (hi_holds p) (lo_holds q)) (all p.hi q.hi (hi_holds p) (hi_holds q))

-- the least corner is what the function gives at two ends
pub four_least : (P : ℤ → Type 0) (a b c d : ℤ) → P a → P b → P c → P d → P (int_min (int_min a b) (int_min c d))
four_least P a b c d p q r s = two (int_min a b) (int_min c d) (two a b p q) (two c d r s)
  where
    two : (x y : ℤ) → P x → P y → P (int_min x y)
    two x y p q = by_test (int_lt y x)
      where
        by_test : (t : Bool) → P (cond t y x)
        by_test true = q
        by_test false = p

pub four_greatest : (P : ℤ → Type 0) (a b c d : ℤ) → P a → P b → P c → P d → P (int_max (int_max a b) (int_max c d))
four_greatest P a b c d p q r s = two (int_max a b) (int_max c d) (two a b p q) (two c d r s)
  where
    two : (x y : ℤ) → P x → P y → P (int_max x y)
    two x y p q = by_test (int_lt y x)
      where
        by_test : (t : Bool) → P (cond t x y)
        by_test true = p
        by_test false = q

pub at_least_corner : (f : ℤ → ℤ → ℤ) (p q : Num) (P : ℤ → Type 0) → ((x y : ℤ) → Holds p x → Holds q y → P (f x y)) → P (least_corner f (written p) (written q))
at_least_corner f p q P all =
    four_least P (f p.lo q.lo) (f p.lo q.hi) (f p.hi q.lo) (f p.hi q.hi)
    (all p.lo q.lo (lo_holds p) (lo_holds q)) (all p.lo q.hi (lo_holds p) (hi_holds q)) (all p.hi q.lo (hi_holds p) (lo_holds q)) (all p.hi q.hi (hi_holds p) (hi_holds q))
