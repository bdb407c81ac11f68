-- Which rows are kept as variables are eliminated, and which event comes first.
use Rattle.std.specs.Prelude.{ℕ, pos, int_lt, ◌==◌, nat_lt, Bool, true, false, ◌&&◌, if◌then◌else◌, List, [], ◌∷◌, length}
use Rattle.std.specs.List.{filter}
use Rattle.std.specs.Ordering.{int_eq}
use Rattle.lt_lin.specs.declared.row.Row.{Row}
use Rattle.lt_lin.specs.Terms.{Term, factor}
use Rattle.lt_elim.specs.Combination.{normalised, combination, is_wide}

-- What ends an elimination before it is complete: a number passes 2 ^ 120, a row is a negative constant, or more than
-- 20,000 rows are kept. The number is that of the variable that is being eliminated.
pub data Event : Type 0 where
  coeff : ℕ → Event
  refuted : Event
  many_rows : ℕ → Event

-- the rows that are kept, unless an event came
pub data Kept : Type 0 where
  keeps : List Row → Kept
  ends : Event → Kept

-- what comes next, as long as no event came
abbrev pub and_next : Kept → (List Row → Kept) → Kept
and_next (keeps kept) next = next kept
and_next (ends event) next = ends event

abbrev pub same_terms : List Term → List Term → Bool
same_terms [] [] = true
same_terms [] (t ∷ ts) = false
same_terms (s ∷ ss) [] = false
same_terms (s ∷ ss) (t ∷ ts) = (s.0 == t.0) && int_eq s.1 t.1 && same_terms ss ts

-- a row without variables
abbrev pub is_constant : Row → Bool
is_constant r = same_terms r.terms []

-- a negative constant without variables
abbrev pub is_contradiction : Row → Bool
is_contradiction r = is_constant r && int_lt r.constant (pos 0)

-- the row with the lesser constant
abbrev pub tighter : Row → Row → Row
tighter q r = if int_lt r.constant q.constant then r else q

-- Of rows with equal terms the tighter is kept, in the place of the first; a row with other terms is kept after them.
abbrev pub with_row : List Row → Row → List Row
with_row [] r = r ∷ []
with_row (q ∷ qs) r = if same_terms q.terms r.terms then tighter q r ∷ qs else q ∷ with_row qs r

abbrev pub row_limit : ℕ
row_limit = 20000

abbrev pub within_limit : Bool → ℕ → List Row → Kept
within_limit limited v kept = if limited && nat_lt row_limit (length kept) then ends (many_rows v) else keeps kept

-- One more normalised row is kept, unless it is a constant that is not negative.
abbrev pub keep_normalised : Bool → ℕ → List Row → Row → Kept
keep_normalised limited v kept r =
    if is_contradiction r then ends refuted else (if is_constant r then keeps kept else within_limit limited v (with_row kept r))

abbrev pub keep : Bool → ℕ → List Row → Row → Kept
keep limited v kept r = keep_normalised limited v kept (normalised r)

-- the rows in turn
abbrev pub keep_all : Bool → ℕ → List Row → List Row → Kept
keep_all limited v kept [] = keeps kept
keep_all limited v kept (r ∷ rs) = and_next (keep limited v kept r) (λ more. keep_all limited v more rs)

abbrev pub keep_combination : Bool → ℕ → Row → List Row → Row → Kept
keep_combination limited v raising kept lowering =
    if limited && is_wide v raising lowering then ends (coeff v) else keep limited v kept (combination v raising lowering)

-- one row with a positive factor of v and each with a negative one in turn
abbrev pub combine_with : Bool → ℕ → Row → List Row → List Row → Kept
combine_with limited v raising kept [] = keeps kept
combine_with limited v raising kept (lowering ∷ more) =
    and_next (keep_combination limited v raising kept lowering) (λ next. combine_with limited v raising next more)

-- each row with a positive factor of v in turn
abbrev pub combine_all : Bool → ℕ → List Row → List Row → List Row → Kept
combine_all limited v kept [] lowering = keeps kept
combine_all limited v kept (raising ∷ more) lowering =
    and_next (combine_with limited v raising kept lowering) (λ next. combine_all limited v next more lowering)

abbrev pub without : ℕ → List Row → List Row
without v rows = filter (λ r. int_eq (factor v r.terms) (pos 0)) rows

abbrev pub raising : ℕ → List Row → List Row
raising v rows = filter (λ r. int_lt (pos 0) (factor v r.terms)) rows

abbrev pub lowering : ℕ → List Row → List Row
lowering v rows = filter (λ r. int_lt (factor v r.terms) (pos 0)) rows

-- The rows without v stay in their order; the combinations come after them.
unfoldable pub eliminated : Bool → ℕ → List Row → Kept
eliminated limited v rows = combine_all limited v (without v rows) (raising v rows) (lowering v rows)
