-- Declaring names one after the other, in parts.
use Rattle.std.proofs.Common.{◌≡◌, ℕ, suc, ◌-◌, ◌≤◌, false, List, [], ◌∷◌, ◌++◌, length, drop, Option, Some, None, Result, Ok, Err, refl, sym, ap, subst, ◌∙◌, arith}
use Rattle.std.specs.Result.{IfOk}
use Rattle.lt_tree.specs.Scope.{Scope, Binder, hiding, declaring}
use Rattle.lt_expr.specs.Parsing.{Parsing, Below, Hides, scope_of}
use Rattle.lt_expr.proofs.Scopes.{below_same, below_through}

pub hiding_both : (a b : List (List ℕ)) (s : Scope) → hiding (a ++ b) s ≡ hiding b (hiding a s)
hiding_both [] b s = refl
hiding_both (w ∷ a) b s = hiding_both a b (record { name = w; is_type = false } ∷ s)

-- names that an inner scope hides stand before the outer one
pub hiding_around : (ws : List (List ℕ)) (inner outer : Scope) → hiding ws inner ++ outer ≡ hiding ws (inner ++ outer)
hiding_around [] inner outer = refl
hiding_around (w ∷ ws) inner outer = hiding_around ws (record { name = w; is_type = false } ∷ inner) outer

pub below_first : (x : Binder) (s : Scope) → Below s (x ∷ s)
below_first x s = record {
  longer = omega arith;
  same = (let one : length (x ∷ s) - length s ≡ suc 0 = omega arith in ap (λ k. drop k (x ∷ s)) one);
}

pub below_hiding : (ws : List (List ℕ)) (s : Scope) → Below s (hiding ws s)
below_hiding [] s = below_same s s refl
below_hiding (w ∷ ws) s =
    below_through s (record { name = w; is_type = false } ∷ s) (hiding ws (record { name = w; is_type = false } ∷ s))
    (below_first (record { name = w; is_type = false }) s) (below_hiding ws (record { name = w; is_type = false } ∷ s))

-- ---- names that a parser hides

hides_names : (now p : Parsing) (inner : Scope) (ws : List (List ℕ)) → p ≡ now → inner ≡ hiding ws p.inner → Hides now (record p { inner = inner }) (hiding ws (scope_of now))
hides_names now p inner ws is hides =
    subst (λ (q : Parsing). Hides q (record p { inner = inner }) (hiding ws (scope_of q))) is
    (record {
      rest = refl;
      symbols = refl;
      outer = refl;
      scope = ap (λ s. s ++ p.outer) hides ∙ hiding_around ws p.inner p.outer;
      below = subst (Below p.inner) (sym hides) (below_hiding ws p.inner);
    })

pub specifiers_hidden : {A E : Type 0} (r : Result A E) (now p : Parsing) (inner : Scope) (ws : List (List ℕ)) → p ≡ now → IfOk r (λ _. inner ≡ hiding ws p.inner)
    → IfOk r (λ _. Hides now (record p { inner = inner }) (hiding ws (scope_of now)))
specifiers_hidden (Ok x) now p inner ws is hides = hides_names now p inner ws is hides
specifiers_hidden (Err e) now p inner ws is hides = hides
