-- Rows that are kept in a map from terms to constants.
use Rattle.std.proofs.Common.{◌≡◌, refl, zero, suc, subst, length, ◌<◌, ◌≤◌, ◌⊎◌, inl, inr, sym, ◌∙◌, ap, ℕ, ℤ, pos, List, [], ◌∷◌, ◌+◌, ◌+ℤ◌, Bool, true, false, ◌&&◌, cond, arith, Some}
use Rattle.std.specs.Prelude.{int_lt, nat_lt, slice_get, nat_eq, ◌==◌, map, if◌then◌else◌}
use Rattle.std.specs.Ordering.{int_eq}
use Rattle.std.specs.List.{filter}
use Rattle.std.specs.Map.{lookup}
use Rattle.std.specs.Cmp.Lexicographic.{pointwise}
use Rattle.std.specs.Global.{Vec}
use Rattle.std.proofs.lemmas.Int.{ints}
use Rattle.indexmap.specs.IndexMap.{insert_entry}
use Rattle.lt_lin.specs.declared.row.Row.{Row}
use Rattle.lt_lin.specs.Terms.{Term, IsOrderedFrom, IsOrdered, factor}
use Rattle.lt_lin.proofs.Factors.{factor_below}
use Rattle.lt_elim.specs.Combination.{normalised}
use Rattle.lt_elim.specs.Elimination.{keeps, ends, refuted, many_rows, row_limit, within_limit, keep, keep_normalised, same_terms, tighter, with_row, without}
use Rattle.lt_elim.specs.Progress.{row_of, rows_of, numbered_of, least_of, found_factor, AllInOrder}
use Rattle.lt_elim.specs.Tracing.{IsKnownAs, AreKnown}
use Rattle.lt_elim.specs.declared.kept.Held.{Held}
use Rattle.lt_elim.proofs.Keeping.{same_terms_are}

module _ (eq : Vec Term → Vec Term → Bool) (same : (a b : Vec Term) → eq a b ≡ same_terms b.items a.items) where
  pub with_row_inserted : (es : List (Vec Term × Held)) (k : Vec Term) (h : Held) → rows_of (insert_entry eq es k (least_of h (lookup (eq k) es))) ≡ with_row (rows_of es) (row_of (k, h))
  with_row_inserted [] k h = refl
  with_row_inserted (e ∷ es) k h = by_test (same_terms e.0.items k.items) refl (with_row_inserted es k h)
    where
      chosen : (b : Bool) → e.0.items ≡ k.items → row_of (e.0, if b then h else e.1) ≡ (if b then row_of (k, h) else row_of e)
      chosen true g = ap (λ (ts : List Term). record { terms = ts; constant = h.constant }) g
      chosen false g = refl

      by_test : (b : Bool) → same_terms e.0.items k.items ≡ b → rows_of (insert_entry eq es k (least_of h (lookup (eq k) es))) ≡ with_row (rows_of es) (row_of (k, h)) → rows_of (insert_entry eq (e ∷ es) k (least_of h (lookup (eq k) (e ∷ es)))) ≡ with_row (rows_of (e ∷ es)) (row_of (k, h))
      by_test true g rest =
          ap (λ (t : Bool). rows_of (if t then (e.0, least_of h (cond t (Some e.1) (lookup (eq k) es))) ∷ es else e ∷ insert_entry eq es k (least_of h (cond t (Some e.1) (lookup (eq k) es))))) (same k e.0 ∙ g)
          ∙ ap (λ (r : Row). r ∷ rows_of es) (chosen (int_lt h.constant e.1.constant) (same_terms_are e.0.items k.items g))
          ∙ ap (λ (t : Bool). if t then tighter (row_of e) (row_of (k, h)) ∷ rows_of es else row_of e ∷ with_row (rows_of es) (row_of (k, h))) (sym g)
      by_test false g rest =
          ap (λ (t : Bool). rows_of (if t then (e.0, least_of h (cond t (Some e.1) (lookup (eq k) es))) ∷ es else e ∷ insert_entry eq es k (least_of h (cond t (Some e.1) (lookup (eq k) es))))) (same k e.0 ∙ g)
          ∙ ap (λ (rs : List Row). row_of e ∷ rs) rest
          ∙ ap (λ (t : Bool). if t then tighter (row_of e) (row_of (k, h)) ∷ rows_of es else row_of e ∷ with_row (rows_of es) (row_of (k, h))) (sym g)

  pub known_inserted : (known : List Row) (es : List (Vec Term × Held)) (k : Vec Term) (h : Held) → AreKnown known (map numbered_of es) → IsKnownAs known h.number (row_of (k, h)) → AreKnown known (map numbered_of (insert_entry eq es k (least_of h (lookup (eq k) es))))
  known_inserted known [] k h a n = (n, tt)
  known_inserted known (e ∷ es) k h a n = by_test (same_terms e.0.items k.items) refl (known_inserted known es k h a.1 n)
    where
      chosen : (b : Bool) → e.0.items ≡ k.items → IsKnownAs known (if b then h else e.1).number (row_of (e.0, if b then h else e.1))
      chosen true g = subst (λ (ts : List Term). IsKnownAs known h.number (record { terms = ts; constant = h.constant })) (sym g) n
      chosen false g = a.0

      by_test : (b : Bool) → same_terms e.0.items k.items ≡ b → AreKnown known (map numbered_of (insert_entry eq es k (least_of h (lookup (eq k) es)))) → AreKnown known (map numbered_of (insert_entry eq (e ∷ es) k (least_of h (lookup (eq k) (e ∷ es)))))
      by_test true g rest =
          subst (λ (t : Bool). AreKnown known (map numbered_of (if t then (e.0, least_of h (cond t (Some e.1) (lookup (eq k) es))) ∷ es else e ∷ insert_entry eq es k (least_of h (cond t (Some e.1) (lookup (eq k) es)))))) (sym (same k e.0 ∙ g))
          (chosen (int_lt h.constant e.1.constant) (same_terms_are e.0.items k.items g), a.1)
      by_test false g rest =
          subst (λ (t : Bool). AreKnown known (map numbered_of (if t then (e.0, least_of h (cond t (Some e.1) (lookup (eq k) es))) ∷ es else e ∷ insert_entry eq es k (least_of h (cond t (Some e.1) (lookup (eq k) es)))))) (sym (same k e.0 ∙ g))
          (a.0, rest)

pub known_filtered : (known : List Row) (test : Vec Term × Held → Bool) (es : List (Vec Term × Held)) → AreKnown known (map numbered_of es) → AreKnown known (map numbered_of (filter test es))
known_filtered known test [] a = tt
known_filtered known test (e ∷ es) a = by_test (test e) (known_filtered known test es a.1)
  where
    by_test : (b : Bool) → AreKnown known (map numbered_of (filter test es)) → AreKnown known (map numbered_of (cond b (e ∷ filter test es) (filter test es)))
    by_test true rest = (a.0, rest)
    by_test false rest = rest

pub known_at : (known : List Row) (es : List (Vec Term × Held)) (place : ℕ) (p : Vec Term × Held) → Some p ≡ slice_get es place → AreKnown known (map numbered_of es) → IsKnownAs known p.1.number (row_of p)
known_at known [] place p e a = absurd (cc)
known_at known (q ∷ es) zero p e a = let is : q ≡ p = cc in subst (λ (x : Vec Term × Held). IsKnownAs known x.1.number (row_of x)) is a.0
known_at known (q ∷ es) (suc place) p e a = known_at known es place p e a.1

-- keys are equal where their terms are the same
pub same_keys : (a b : List Term) → pointwise (λ (x y : Term). nat_eq x.0 y.0 && int_eq x.1 y.1) a b ≡ same_terms b a
same_keys [] [] = refl
same_keys [] (t ∷ b) = refl
same_keys (s ∷ a) [] = refl
same_keys (s ∷ a) (t ∷ b) = three (nat_eq s.0 t.0) (int_eq s.1 t.1) (t.0 == s.0) (int_eq t.1 s.1) (pointwise (λ (x y : Term). nat_eq x.0 y.0 && int_eq x.1 y.1) a b) (same_terms b a) (nats s.0 t.0) (ints_same s.1 t.1) (same_keys a b)
  where
    three : (p q r s t u : Bool) → p ≡ r → q ≡ s → t ≡ u → ((p && q) && t) ≡ (r && s && u)
    three true q r s t u e f g = cc
    three false q r s t u e f g = cc

    nats : (m n : ℕ) → nat_eq m n ≡ (n == m)
    nats m n = grind arith

    ints_same : (m n : ℤ) → int_eq m n ≡ int_eq n m
    ints_same m n = grind (arith, ints)

-- ---- the first factor that is found
found_from : (x m : ℕ) (ts : List Term) → IsOrderedFrom m ts → found_factor x ts ≡ factor x ts
found_from x m [] o = refl
found_from x m (t ∷ ts) o = by_test (x == t.0) refl (found_from x (t.0 + 1) ts o.2)
  where
    right_zero : (a b : ℤ) → b ≡ pos 0 → a ≡ a +ℤ b
    right_zero a b e = omega (arith, ints)

    left_zero : (a b : ℤ) → a ≡ b → a ≡ pos 0 +ℤ b
    left_zero a b e = omega (arith, ints)

    by_test : (b : Bool) → (x == t.0) ≡ b → found_factor x ts ≡ factor x ts → (if b then t.1 else found_factor x ts) ≡ (if b then t.1 else pos 0) +ℤ factor x ts
    by_test true e rest = right_zero t.1 (factor x ts) (let f : x ≡ t.0 = grind arith in factor_below x (t.0 + 1) ts o.2 (omega arith))
    by_test false e rest = left_zero (found_factor x ts) (factor x ts) rest

pub found_is : (x : ℕ) (ts : List Term) → IsOrdered ts → found_factor x ts ≡ factor x ts
found_is x ts o = found_from x 0 ts o

pub dropped_rows : (v : ℕ) (es : List (Vec Term × Held)) → AllInOrder (rows_of es) → rows_of (filter (λ e. int_eq (found_factor v e.0.items) (pos 0)) es) ≡ without v (rows_of es)
dropped_rows v [] o = refl
dropped_rows v (e ∷ es) o =
    ap (λ (z : ℤ). rows_of (cond (int_eq z (pos 0)) (e ∷ filter (λ e. int_eq (found_factor v e.0.items) (pos 0)) es) (filter (λ e. int_eq (found_factor v e.0.items) (pos 0)) es))) (found_is v e.0.items o.0)
    ∙ by_test (int_eq (factor v e.0.items) (pos 0)) (dropped_rows v es o.1)
  where
    by_test : (b : Bool) → rows_of (filter (λ e. int_eq (found_factor v e.0.items) (pos 0)) es) ≡ without v (rows_of es) → rows_of (cond b (e ∷ filter (λ e. int_eq (found_factor v e.0.items) (pos 0)) es) (filter (λ e. int_eq (found_factor v e.0.items) (pos 0)) es)) ≡ cond b (row_of e ∷ without v (rows_of es)) (without v (rows_of es))
    by_test true rest = ap (λ (rs : List Row). row_of e ∷ rs) rest
    by_test false rest = rest

pub row_at : (es : List (Vec Term × Held)) (place : ℕ) (p : Vec Term × Held) → Some p ≡ slice_get es place → Some (row_of p) ≡ slice_get (rows_of es) place
row_at [] place p e = absurd (cc)
row_at (q ∷ es) zero p e = let is : p ≡ q = cc in ap (λ (z : Vec Term × Held). Some (row_of z)) is
row_at (q ∷ es) (suc place) p e = row_at es place p e

-- ---- one row more
kept_is : (b : Bool) (v : ℕ) (kept : List Row) (r s : Row) (next : List Row) → s ≡ normalised r → false ≡ (length s.terms == 0) → next ≡ with_row kept s → keep b v kept r ≡ within_limit b v next
kept_is b v kept r s next e n p = ap (λ (q : Row). keep_normalised b v kept q) (sym e) ∙ ap (λ (t : Bool). if t && int_lt s.constant (pos 0) then ends refuted else (if t then keeps kept else within_limit b v (with_row kept s))) (some_terms s.terms n) ∙ ap (within_limit b v) (sym p)
  where
    some_terms : (ts : List Term) → false ≡ (length ts == 0) → same_terms ts [] ≡ false
    some_terms [] h = absurd (cc)
    some_terms (t ∷ ts) h = refl

pub kept_many : (b : Bool) (v : ℕ) (kept : List Row) (r s : Row) (next : List Row) (m n : ℕ) → s ≡ normalised r → m ≡ length s.terms → false ≡ (m == 0) → next ≡ with_row kept s → b ≡ true → 20000 < n → n ≡ length next → keep b v kept r ≡ ends (many_rows v)
kept_many b v kept r s next m n e k h p t l i =
    kept_is b v kept r s next e (rw k at h) p
    ∙ ap (λ (c : Bool). if c && nat_lt row_limit (length next) then ends (many_rows v) else keeps next) t
    ∙ ap (λ (c : Bool). if c then ends (many_rows v) else keeps next) (let k : nat_lt row_limit (length next) ≡ true = grind arith in k)

pub kept_few : (b : Bool) (v : ℕ) (kept : List Row) (r s : Row) (next : List Row) (m : ℕ) → s ≡ normalised r → m ≡ length s.terms → false ≡ (m == 0) → next ≡ with_row kept s → (b ≡ false) ⊎ (length next ≤ 20000) → keep b v kept r ≡ keeps next
kept_few b v kept r s next m e k h p (inl f) = kept_is b v kept r s next e (rw k at h) p ∙ ap (λ (c : Bool). if c && nat_lt row_limit (length next) then ends (many_rows v) else keeps next) f
kept_few b v kept r s next m e k h p (inr l) =
    kept_is b v kept r s next e (rw k at h) p
    ∙ ap (λ (c : Bool). if b && c then ends (many_rows v) else keeps next) (let k : nat_lt row_limit (length next) ≡ false = grind arith in k)
    ∙ ap (λ (c : Bool). if c then ends (many_rows v) else keeps next) (neither b)
  where
    neither : (b : Bool) → (b && false) ≡ false
    neither true = refl
    neither false = refl
