-- What a system is decided to be: refuted, satisfied by a point, or left at a limit.
use Rattle.std.specs.Prelude.{◌≡◌, ◌<◌, ℕ, zero, suc, ◌+◌, ◌-◌, max, ℤ, pos, ◌+ℤ◌, ◌*ℤ◌, ◌≤ℤ◌, ◌<ℤ◌, Bool, not, ◌==◌, if◌then◌else◌, List, [], ◌∷◌, ◌++◌, slice_index_or, Option, Some, None, All}
use Rattle.lt_lin.specs.declared.row.Row.{Row}
use Rattle.lt_lin.specs.Terms.{Term, factor, sum_at}
use Rattle.lt_elim.specs.Elimination.{Event, coeff, Kept, keeps, ends, keep_all, eliminated, raising, lowering}
use Rattle.lt_elim.specs.Fraction.{Fraction, whole, times, plus, negated_over, greater, lesser}
use Rattle.lt_elim.specs.Difference.{are_differences}

pub data Verdict : Type 0 where
  stops : Event → Verdict
  point : List Fraction → Verdict

-- ---- the value of a variable
abbrev pub if_some : {A B : Type 0} → Option A → (A → Option B) → Option B
if_some None next = None
if_some (Some x) next = next x

-- The terms other than that of v, in ascending order of their variables, are added to a fraction, at the values of the
-- variables below v.
abbrev pub terms_added : Bool → ℕ → List Fraction → List Term → Fraction → Option Fraction
terms_added limited v values [] before = Some before
terms_added limited v values (t ∷ ts) before =
    if t.0 == v then terms_added limited v values ts before
    else if_some (times limited t.1 (slice_index_or values t.0 (whole (pos 0)))) (λ product.
    if_some (plus limited before product) (λ sum. terms_added limited v values ts sum))

-- the bound that a row sets to v: the other terms and the constant, negated and divided by the factor of v
abbrev pub bound : Bool → ℕ → List Fraction → Row → Option Fraction
bound limited v values r =
    if_some (terms_added limited v values r.terms (whole (pos 0))) (λ terms.
    if_some (plus limited terms (whole r.constant)) (λ sum. negated_over limited sum (factor v r.terms)))

-- the greatest or the least of the bounds, or the fraction where there are no rows
abbrev pub best_after : (Fraction → Fraction → Fraction) → Bool → ℕ → List Fraction → Fraction → List Row → Option Fraction
best_after better limited v values best [] = Some best
best_after better limited v values best (r ∷ rs) =
    if_some (bound limited v values r) (λ b. best_after better limited v values (better best b) rs)

abbrev pub best_of : (Fraction → Fraction → Fraction) → Bool → ℕ → List Fraction → Row → List Row → Option Fraction
best_of better limited v values r rs = if_some (bound limited v values r) (λ b. best_after better limited v values b rs)

abbrev pub greatest_allowed : Bool → ℕ → List Fraction → List Row → Option Fraction
greatest_allowed limited v values [] = Some (whole (pos 0))
greatest_allowed limited v values (r ∷ rs) = best_of lesser limited v values r rs

abbrev pub least_allowed : Bool → ℕ → List Fraction → List Row → List Row → Option Fraction
least_allowed limited v values [] upper = greatest_allowed limited v values upper
least_allowed limited v values (r ∷ rs) upper = best_of greater limited v values r rs

-- The least value of v that the rows with a positive factor of v allow; else the greatest that those with a negative one
-- allow; else 0. There is none where a number passes the limit.
unfoldable pub value_of : Bool → ℕ → List Fraction → List Row → Option Fraction
value_of limited v values rows = least_allowed limited v values (raising v rows) (lowering v rows)

-- ---- the whole order of operations
abbrev pub with_value : ℕ → List Fraction → Option Fraction → Verdict
with_value v values None = stops (coeff v)
with_value v values (Some value) = point (values ++ value ∷ [])

abbrev pub and_value : Bool → ℕ → List Row → Verdict → Verdict
and_value limited v rows (stops event) = stops event
and_value limited v rows (point values) = with_value v values (value_of limited v values rows)

abbrev pub unless_ended : Kept → (List Row → Verdict) → Verdict
unless_ended (keeps kept) next = next kept
unless_ended (ends event) next = stops event

-- The variables below n are eliminated, from the last to the first, and get their values from the first to the last.
abbrev pub decided : Bool → ℕ → List Row → Verdict
decided limited zero rows = point []
decided limited (suc v) rows = unless_ended (eliminated limited v rows) (λ next. and_value limited v rows (decided limited v next))

-- how many variables there are: 0 to the greatest that stands in the rows
abbrev pub variables_in : List Term → ℕ
variables_in [] = 0
variables_in (t ∷ ts) = max (t.0 + 1) (variables_in ts)

abbrev pub variables : List Row → ℕ
variables [] = 0
variables (r ∷ rs) = max (variables_in r.terms) (variables rs)

-- The system's own rows are kept first, in their order.
abbrev pub verdict_within : Bool → List Row → Verdict
verdict_within limited rows = unless_ended (keep_all limited (variables rows - 1) [] rows) (λ kept. decided limited (variables rows) kept)

-- There is no limit on a difference system.
unfoldable pub verdict : List Row → Verdict
verdict rows = verdict_within (not (are_differences rows)) rows

-- ---- what a point is
-- Over a common denominator the numerators are whole numbers that make each row true.
pub record IsSolution (values : List Fraction) (rows : List Row) : Type 0 where
  pub denominator : ℤ
  pub numerators : ℕ → ℤ
  pub positive : pos 0 <ℤ denominator
  pub unders_positive : (x : ℕ) → 0 < (slice_index_or values x (whole (pos 0))).under
  pub values_are : (x : ℕ) → numerators x *ℤ pos (slice_index_or values x (whole (pos 0))).under ≡ (slice_index_or values x (whole (pos 0))).over *ℤ denominator
  pub rows_hold : All (λ r. pos 0 ≤ℤ (sum_at numerators r.terms +ℤ r.constant *ℤ denominator)) rows
