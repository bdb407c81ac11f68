-- Rows in which a variable stands, one after another.
use Rattle.std.proofs.Common.{◌≡◌, refl, sym, ◌∙◌, ap, subst, ℕ, zero, suc, ◌+◌, ◌<◌, ℤ, pos, negsuc, List, [], ◌∷◌, ◌++◌, drop, length, Bool, true, false, cond, Some, None, arith, append_assoc, add-one}
use Rattle.std.specs.Prelude.{slice_get, int_lt}
use Rattle.std.specs.List.{filter}
use Rattle.std.proofs.lemmas.Int.{ints}
use Rattle.lt_lin.specs.declared.row.Row.{Row}
use Rattle.lt_lin.specs.Terms.{IsOrdered, factor}
use Rattle.lt_elim.specs.Elimination.{raising, lowering}
use Rattle.lt_elim.specs.Progress.{AllInOrder, found_factor}
use Rattle.lt_elim.proofs.KeptRows.{found_is}

pub in_order_at : (rows : List Row) (place : ℕ) (r : Row) → AllInOrder rows → Some r ≡ slice_get rows place → IsOrdered r.terms
in_order_at [] place r o e = absurd (cc)
in_order_at (q ∷ rows) zero r o e = let is : r ≡ q = cc in subst (λ (z : Row). IsOrdered z.terms) (sym is) o.0
in_order_at (q ∷ rows) (suc place) r o e = in_order_at rows place r o.1 e

drop_after : (rows : List Row) (place : ℕ) (r : Row) → Some r ≡ slice_get rows place → drop place rows ≡ r ∷ drop (suc place) rows
drop_after [] place r e = absurd (cc)
drop_after (q ∷ rows) zero r e = let is : r ≡ q = cc in ap (λ (z : Row). z ∷ rows) (sym is)
drop_after (q ∷ rows) (suc place) r e = drop_after rows place r e

drop_at : (rows : List Row) (place : ℕ) (r : Row) → Some r ≡ slice_get rows place → drop place rows ≡ r ∷ drop (place + 1) rows
drop_at rows place r e = drop_after rows place r e ∙ ap (λ (n : ℕ). r ∷ drop n rows) (sym (add-one place))

filter_cons : (test : Row → Bool) (r : Row) (rows : List Row) → filter test (r ∷ rows) ≡ filter test (r ∷ []) ++ filter test rows
filter_cons test r rows = by_test (test r)
  where
    by_test : (b : Bool) → cond b (r ∷ filter test rows) (filter test rows) ≡ cond b (r ∷ []) [] ++ filter test rows
    by_test true = refl
    by_test false = refl

-- one row further
pub filter_more : (test : Row → Bool) (rows done next : List Row) (place : ℕ) (r : Row) → Some r ≡ slice_get rows place → next ≡ done ++ filter test (r ∷ []) → done ++ filter test (drop place rows) ≡ filter test rows → next ++ filter test (drop (place + 1) rows) ≡ filter test rows
filter_more test rows done next place r e n h =
    ap (λ (qs : List Row). qs ++ filter test (drop (place + 1) rows)) n
    ∙ append_assoc done (filter test (r ∷ [])) (filter test (drop (place + 1) rows))
    ∙ ap (λ (qs : List Row). done ++ qs) (sym (filter_cons test r (drop (place + 1) rows)) ∙ ap (filter test) (sym (drop_at rows place r e)))
    ∙ h

pub absent : (rows : List Row) (place : ℕ) → place < length rows → None ≡ slice_get rows place → ⊥
absent [] place h e = absurd (omega arith)
absent (q ∷ rows) zero h e = absurd (cc)
absent (q ∷ rows) (suc place) h e = absent rows place (omega arith) e

-- ---- where a row is put
raised : (v : ℕ) (r : Row) → int_lt (pos 0) (factor v r.terms) ≡ true → raising v (r ∷ []) ≡ r ∷ []
raised v r e = ap (λ (b : Bool). cond b (r ∷ []) []) e

not_raised : (v : ℕ) (r : Row) → int_lt (pos 0) (factor v r.terms) ≡ false → raising v (r ∷ []) ≡ []
not_raised v r e = ap (λ (b : Bool). cond b (r ∷ []) []) e

lowered : (v : ℕ) (r : Row) → int_lt (factor v r.terms) (pos 0) ≡ true → lowering v (r ∷ []) ≡ r ∷ []
lowered v r e = ap (λ (b : Bool). cond b (r ∷ []) []) e

not_lowered : (v : ℕ) (r : Row) → int_lt (factor v r.terms) (pos 0) ≡ false → lowering v (r ∷ []) ≡ []
not_lowered v r e = ap (λ (b : Bool). cond b (r ∷ []) []) e

pub record Put (v : ℕ) (r : Row) (up down : List Row) : Type 0 where
  pub raising : raising v (r ∷ []) ≡ up
  pub lowering : lowering v (r ∷ []) ≡ down

pub put_nowhere : (v : ℕ) (r : Row) (z : ℤ) → IsOrdered r.terms → z ≡ found_factor v r.terms → z ≡ pos 0 → Put v r [] []
put_nowhere v r z o e h =
    let f : factor v r.terms ≡ pos 0 = sym (found_is v r.terms o) ∙ sym e ∙ h in
    record { raising = not_raised v r (ap (int_lt (pos 0)) f); lowering = not_lowered v r (ap (λ (y : ℤ). int_lt y (pos 0)) f) }

pub put_raising : (v : ℕ) (r : Row) (z : ℤ) → IsOrdered r.terms → z ≡ found_factor v r.terms → int_lt (pos 0) z ≡ true → Put v r (r ∷ []) []
put_raising v r z o e h =
    let f : factor v r.terms ≡ z = sym (found_is v r.terms o) ∙ sym e in
    record { raising = raised v r (ap (int_lt (pos 0)) f ∙ h); lowering = not_lowered v r (ap (λ (y : ℤ). int_lt y (pos 0)) f ∙ not_less z h) }
  where
    not_less : (z : ℤ) → int_lt (pos 0) z ≡ true → int_lt z (pos 0) ≡ false
    not_less z h = grind (arith, ints)

pub put_lowering : (v : ℕ) (r : Row) (z : ℤ) → IsOrdered r.terms → z ≡ found_factor v r.terms → int_lt (pos 0) z ≡ false → (z ≡ pos 0 → ⊥) → Put v r [] (r ∷ [])
put_lowering v r z o e h n =
    let f : factor v r.terms ≡ z = sym (found_is v r.terms o) ∙ sym e in
    record { raising = not_raised v r (ap (int_lt (pos 0)) f ∙ h); lowering = lowered v r (ap (λ (y : ℤ). int_lt y (pos 0)) f ∙ less z h n) }
  where
    less : (z : ℤ) → int_lt (pos 0) z ≡ false → (z ≡ pos 0 → ⊥) → int_lt z (pos 0) ≡ true
    less (pos zero) h n = absurd (n refl)
    less (pos (suc k)) h n = absurd (let l : int_lt (pos 0) (pos (suc k)) ≡ true = grind (arith, ints) in cc)
    less (negsuc k) h n = refl
