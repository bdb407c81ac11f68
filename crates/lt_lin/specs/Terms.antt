-- Terms: factors of variables.
use Rattle.std.specs.Prelude.{ℕ, ℤ, pos, negsuc, ◌+◌, ◌-◌, ◌^◌, ◌≤◌, ◌≢◌, ◌+ℤ◌, ◌*ℤ◌, ◌≤ℤ◌, List, [], ◌∷◌, ◌==◌, if◌then◌else◌, map, neg_ℤ}

-- a variable and its factor
abbrev pub Term : Type 0
Term = ℕ × ℤ

-- The variables ascend from `least` on, each stands once, and no factor is 0.
abbrev pub IsOrderedFrom : ℕ → List Term → Type 0
IsOrderedFrom least [] = Unit {0}
IsOrderedFrom least (t ∷ ts) = (least ≤ t.0) × (t.1 ≢ pos 0) × IsOrderedFrom (t.0 + 1) ts

abbrev pub IsOrdered : List Term → Type 0
IsOrdered ts = IsOrderedFrom 0 ts

-- the factor of a variable, 0 where the variable does not stand among the terms
abbrev pub factor : ℕ → List Term → ℤ
factor x [] = pos 0
factor x (t ∷ ts) = (if x == t.0 then t.1 else pos 0) +ℤ factor x ts

-- what the terms come to where v gives the variables
abbrev pub sum_at : (ℕ → ℤ) → List Term → ℤ
sum_at v [] = pos 0
sum_at v (t ∷ ts) = t.1 *ℤ v t.0 +ℤ sum_at v ts

-- each factor with the other sign
abbrev pub negated : List Term → List Term
negated ts = map (λ t. (t.0, neg_ℤ t.1)) ts

-- each factor times d
abbrev pub scaled : ℤ → List Term → List Term
scaled d ts = map (λ t. (t.0, d *ℤ t.1)) ts

-- a number of 128 bits, one of which is the sign
abbrev pub Fits : ℤ → Type 0
Fits z = (negsuc (2 ^ 127 - 1) ≤ℤ z) × (z ≤ℤ pos (2 ^ 127 - 1))
