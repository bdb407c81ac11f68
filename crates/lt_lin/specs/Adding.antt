-- A row is added to a sum.
use Rattle.std.specs.Prelude.{◌≡◌, ℕ, ℤ, pos, ◌+ℤ◌, ◌*ℤ◌, List, [], ◌∷◌, ◌==◌, nat_lt, if◌then◌else◌, Option, Some, None, ◌↔◌}
use Rattle.lt_lin.specs.declared.row.Row.{Row}
use Rattle.lt_lin.specs.Terms.{Term, IsOrdered, factor, Fits}
use Rattle.lt_lin.specs.Refutation.{IsSumOnto}

-- `by` times the row can be added to the sum: each product and each sum fits.
abbrev pub CanAdd : List Term → ℤ → List Term → Type 0
CanAdd sum by row = (x : ℕ) → Fits (by *ℤ factor x row) × Fits (factor x sum +ℤ by *ℤ factor x row)

-- next is the sum and `by` times the row
pub record IsAdded (sum : List Term) (by : ℤ) (row : List Term) (next : List Term) : Type 0 where
  pub ordered : IsOrdered next
  pub fits : CanAdd sum by row
  pub factors : (x : ℕ) → factor x next ≡ factor x sum +ℤ by *ℤ factor x row

-- the factor of the first term, where x is its variable
abbrev pub first_factor : ℕ → List Term → ℤ
first_factor x [] = pos 0
first_factor x (t ∷ ts) = if x == t.0 then t.1 else pos 0

-- the terms without the first, where x is its variable
abbrev pub past_variable : ℕ → List Term → List Term
past_variable x [] = []
past_variable x (t ∷ ts) = if x == t.0 then ts else t ∷ ts

-- the lesser of the first variables
abbrev pub first_variable : List Term → List Term → Option ℕ
first_variable [] [] = None
first_variable [] (t ∷ ts) = Some t.0
first_variable (s ∷ ss) [] = Some s.0
first_variable (s ∷ ss) (t ∷ ts) = Some (if nat_lt t.0 s.0 then t.0 else s.0)

-- The pair turns the sum `before` into `after`, whatever pairs follow; with no sum after it, none can follow.
abbrev pub AddsPair : List Row → Row → ℕ × ℤ → Option Row → Type 0
AddsPair known before p None = (ps : List (ℕ × ℤ)) (r : Row) → IsSumOnto known before (p ∷ ps) r → ⊥
AddsPair known before p (Some after) =
    (ps : List (ℕ × ℤ)) (r : Row) → (IsSumOnto known after ps r ↔ IsSumOnto known before (p ∷ ps) r)
