-- How a combination is summed up, part by part.
use Rattle.std.specs.Prelude.{◌≡◌, ℕ, ℤ, pos, ◌<◌, ◌^◌, ◌+ℤ◌, ◌*ℤ◌, int_lt, Bool, true, false, ◌&&◌, ◌||◌, unsigned_abs, List, [], ◌∷◌, Option, Some, None}
use Rattle.lt_lin.specs.declared.row.Row.{Row}
use Rattle.lt_lin.specs.Terms.{Term, IsOrdered, factor, Fits}
use Rattle.lt_elim.specs.Divisor.{content, passes}
use Rattle.lt_elim.specs.Combination.{Multipliers, multipliers, sum_of, combination}

-- the constant of a row, or the factor of a variable
abbrev pub part : Option ℕ → Row → ℤ
part None r = r.constant
part (Some x) r = factor x r.terms

-- `by` times r can be added to q: products and sums fit, and no sum passes the limit, where there is one.
abbrev pub CanSum : Bool → Row → ℤ → Row → Type 0
CanSum limited q by r =
    (p : Option ℕ) → Fits (by *ℤ part p r) × Fits (part p q +ℤ by *ℤ part p r) × (limited ≡ true → passes (part p q +ℤ by *ℤ part p r) ≡ false)

-- s is q and `by` times r
pub record IsSum (limited : Bool) (q : Row) (by : ℤ) (r s : Row) : Type 0 where
  pub ordered : IsOrdered s.terms
  pub can : CanSum limited q by r
  pub parts : (p : Option ℕ) → part p s ≡ part p q +ℤ by *ℤ part p r

abbrev pub any_passes : List Term → Bool
any_passes [] = false
any_passes (t ∷ ts) = passes t.1 || any_passes ts

-- There is a limit, and a number passes it.
abbrev pub is_past : Bool → ℤ → List Term → Bool
is_past limited k ts = limited && (passes k || any_passes ts)

-- in one part the products and their sum fit
pub record PartsFit (m : Multipliers) (a b : ℤ) : Type 0 where
  pub raising : Fits (m.of_raising *ℤ a)
  pub lowering : Fits (m.of_lowering *ℤ b)
  pub sum : Fits (sum_of m a b)

-- The rows raise and lower v, the last variable that stands in them, and where there is no limit nothing is too great.
pub record CanCombine (limited : Bool) (v : ℕ) (p n : Row) : Type 0 where
  pub raises : int_lt (pos 0) (factor v p.terms) ≡ true
  pub lowers : int_lt (factor v n.terms) (pos 0) ≡ true
  pub raising_small : unsigned_abs (factor v p.terms) < 2 ^ 127
  pub lowering_small : unsigned_abs (factor v n.terms) < 2 ^ 127
  pub raising_above : (x : ℕ) → v < x → factor x p.terms ≡ pos 0
  pub lowering_above : (x : ℕ) → v < x → factor x n.terms ≡ pos 0
  pub fits : limited ≡ false → (x : Option ℕ) → PartsFit (multipliers v p n) (part x p) (part x n)
  pub small : limited ≡ false → content (combination v p n).terms < 2 ^ 127

abbrev pub CombineWith : Bool → ℕ → Row → List Row → Type 0
CombineWith limited v p [] = Unit {0}
CombineWith limited v p (n ∷ ns) = CanCombine limited v p n × CombineWith limited v p ns

abbrev pub CombineAll : Bool → ℕ → List Row → List Row → Type 0
CombineAll limited v [] ns = Unit {0}
CombineAll limited v (p ∷ ps) ns = CombineWith limited v p ns × CombineAll limited v ps ns
