-- Rows one after another in one list of terms.
use Rattle.std.proofs.Common.{arith, ◌≡◌, refl, sym, ◌∙◌, ap, subst, ℕ, suc, zero, ◌+◌, ◌-◌, ◌<◌, ◌≤◌, List, [], ◌∷◌, ◌++◌, length, Some, get_or, drop, take, length-drop, length-take, take_all, add-one}
use Rattle.std.proofs.lemmas.List.{drop-append-le, take-append-le, drop-take}
use Rattle.std.proofs.Math.Seq.{drop-append_seam, take-suc}
use Rattle.std.specs.Prelude.{slice_get}
use Rattle.lt_lin.specs.declared.row.Row.{Row}
use Rattle.lt_lin.specs.declared.known.Ending.{Ending}
use Rattle.lt_lin.specs.Terms.{Term, IsOrdered}
use Rattle.lt_lin.specs.Store.{rows_from, AreEnds, AllOrdered, start_at}
use Rattle.lt_lin.specs.Room.{places}

pub AreEnds-le : (from to : ℕ) (es : List Ending) → AreEnds from es to → from ≤ to
AreEnds-le from to [] h = omega arith
AreEnds-le from to (e ∷ es) h = let a : from ≤ e.end = h.0 in omega (arith, AreEnds-le e.end to es h.1)

pub length-rows : (ts : List Term) (from : ℕ) (es : List Ending) → length (rows_from ts from es) ≡ length es
length-rows ts from [] = refl
length-rows ts from (e ∷ es) = ap suc (length-rows ts e.end es)

pub start_within : (from to : ℕ) (es : List Ending) (i : ℕ) → AreEnds from es to → (from ≤ start_at from es i) × (start_at from es i ≤ to)
start_within from to [] i h = (omega arith, omega arith)
start_within from to (e ∷ es) zero h = (omega arith, omega (arith, AreEnds-le from to (e ∷ es) h))
start_within from to (e ∷ es) (suc i) h =
    let a : from ≤ e.end = h.0 in
    let p = start_within e.end to es i h.1 in
    (omega (arith, p.0), p.1)

-- the row numbered i, and its place among the terms
pub record IsRowAt (ts : List Term) (from to : ℕ) (es : List Ending) (i : ℕ) (e : Ending) : Type 0 where
  pub row : slice_get (rows_from ts from es) i ≡ Some (record { terms = take (e.end - start_at from es i) (drop (start_at from es i) ts); constant = e.constant })
  pub start : start_at from es i ≤ e.end
  pub inside : e.end ≤ to

pub row_at : (ts : List Term) (from to : ℕ) (es : List Ending) (i : ℕ) (d : Ending) → AreEnds from es to → i < length es → IsRowAt ts from to es i (get_or es i d)
row_at ts from to [] i d h l = absurd (omega arith)
row_at ts from to (e ∷ es) zero d h l = record { row = refl; start = h.0; inside = AreEnds-le e.end to es h.1 }
row_at ts from to (e ∷ es) (suc i) d h l =
    let r = row_at ts e.end to es i d h.1 (omega arith) in
    record { row = r.row; start = r.start; inside = r.inside }

pub ordered_at : (rows : List Row) (i : ℕ) (r : Row) → AllOrdered rows → slice_get rows i ≡ Some r → IsOrdered r.terms
ordered_at [] i r h e = absurd (cc)
ordered_at (q ∷ rows) zero r h e = let is : q ≡ r = cc in subst (λ (x : Row). IsOrdered x.terms) is h.0
ordered_at (q ∷ rows) (suc i) r h e = ordered_at rows i r h.1 e

pub length-part : (ts : List Term) (a b : ℕ) → a ≤ b → b ≤ length ts → length (take (b - a) (drop a ts)) ≡ b - a
length-part ts a b h l = simp (length-take, length-drop) (omega arith)

pub places-rows : (ts : List Term) (from to : ℕ) (es : List Ending) → AreEnds from es to → to ≤ length ts → places (rows_from ts from es) + from ≡ length es + to
places-rows ts from to [] h l = omega arith
places-rows ts from to (e ∷ es) h l =
    let a : from ≤ e.end = h.0 in
    omega (arith, length-part ts from e.end a (omega (arith, AreEnds-le e.end to es h.1)), places-rows ts e.end to es h.1 l)

-- ---- one more row
part-append : (ts more : List Term) (a b : ℕ) → a ≤ b → b ≤ length ts → take (b - a) (drop a (ts ++ more)) ≡ take (b - a) (drop a ts)
part-append ts more a b h l =
    let d : drop a (ts ++ more) ≡ drop a ts ++ more = drop-append-le a ts more (omega arith) in
    ap (take (b - a)) d ∙ take-append-le (b - a) (drop a ts) more (omega (arith, length-drop a ts))

part_last : (ts more : List Term) → take (length ts + length more - length ts) (drop (length ts) (ts ++ more)) ≡ more
part_last ts more =
    let k : length ts + length more - length ts ≡ length more = omega arith in
    ap (λ n. take n (drop (length ts) (ts ++ more))) k ∙ ap (take (length more)) (drop-append_seam ts more) ∙ take_all (length more) more (omega arith)

pub rows-append : (ts more : List Term) (from : ℕ) (es : List Ending) (e : Ending) → AreEnds from es (length ts) → e.end ≡ length ts + length more → rows_from (ts ++ more) from (es ++ e ∷ []) ≡ rows_from ts from es ++ record { terms = more; constant = e.constant } ∷ []
rows-append ts more from [] e h q =
    let is : take (e.end - from) (drop from (ts ++ more)) ≡ more = rw (q, h) (part_last ts more) in
    ap (λ (x : List Term). record { terms = x; constant = e.constant } ∷ []) is
rows-append ts more from (f ∷ es) e h q =
    let le : f.end ≤ length ts = AreEnds-le f.end (length ts) es h.1 in
    let first : take (f.end - from) (drop from (ts ++ more)) ≡ take (f.end - from) (drop from ts) = part-append ts more from f.end h.0 le in
    ap (λ (x : List Term). record { terms = x; constant = f.constant } ∷ rows_from (ts ++ more) f.end (es ++ e ∷ [])) first
    ∙ ap (λ (x : List Row). record { terms = take (f.end - from) (drop from ts); constant = f.constant } ∷ x) (rows-append ts more f.end es e h.1 q)

pub AreEnds-append : (from to : ℕ) (es : List Ending) (e : Ending) → AreEnds from es to → to ≤ e.end → AreEnds from (es ++ e ∷ []) e.end
AreEnds-append from to [] e h l = (omega arith, refl)
AreEnds-append from to (f ∷ es) e h l = (h.0, AreEnds-append f.end to es e h.1 l)

pub AllOrdered-append : (rows : List Row) (r : Row) → AllOrdered rows → IsOrdered r.terms → AllOrdered (rows ++ r ∷ [])
AllOrdered-append [] r h o = (o, tt)
AllOrdered-append (q ∷ rows) r h o = (h.0, AllOrdered-append rows r h.1 o)

pub places-append : (a b : List Row) → places (a ++ b) ≡ places a + places b
places-append [] b = omega arith
places-append (r ∷ a) b = omega (arith, places-append a b)

-- ---- rows forgotten
take-take : (ts : List Term) (k n : ℕ) → n ≤ k → take n (take k ts) ≡ take n ts
take-take ts k zero h = refl
take-take ts zero (suc n) h = absurd (omega arith)
take-take [] (suc k) (suc n) h = refl
take-take (t ∷ ts) (suc k) (suc n) h = ap (λ x. t ∷ x) (take-take ts k n (omega arith))

part-take : (ts : List Term) (k a b : ℕ) → a ≤ b → b ≤ k → take (b - a) (drop a (take k ts)) ≡ take (b - a) (drop a ts)
part-take ts k a b h l =
    let e : a + (k - a) ≡ k = omega arith in
    let d : drop a (take k ts) ≡ take (k - a) (drop a ts) = ap (λ n. drop a (take n ts)) (sym e) ∙ drop-take a (k - a) ts in
    ap (take (b - a)) d ∙ take-take (drop a ts) (k - a) (b - a) (omega arith)

pub rows-take : (ts : List Term) (from to : ℕ) (es : List Ending) (n : ℕ) → AreEnds from es to → rows_from (take (start_at from es n) ts) from (take n es) ≡ take n (rows_from ts from es)
rows-take ts from to [] zero h = refl
rows-take ts from to [] (suc n) h = refl
rows-take ts from to (e ∷ es) zero h = refl
rows-take ts from to (e ∷ es) (suc n) h =
    let k : ℕ = start_at e.end es n in
    let le : e.end ≤ k = (start_within e.end to es n h.1).0 in
    let first : take (e.end - from) (drop from (take k ts)) ≡ take (e.end - from) (drop from ts) = part-take ts k from e.end h.0 le in
    ap (λ (x : List Term). record { terms = x; constant = e.constant } ∷ rows_from (take k ts) e.end (take n es)) first
    ∙ ap (λ (x : List Row). record { terms = take (e.end - from) (drop from ts); constant = e.constant } ∷ x) (rows-take ts e.end to es n h.1)

pub AreEnds-take : (from to : ℕ) (es : List Ending) (n : ℕ) → AreEnds from es to → AreEnds from (take n es) (start_at from es n)
AreEnds-take from to [] zero h = refl
AreEnds-take from to [] (suc n) h = refl
AreEnds-take from to (e ∷ es) zero h = refl
AreEnds-take from to (e ∷ es) (suc n) h = (h.0, AreEnds-take e.end to es n h.1)

pub AllOrdered-take : (rows : List Row) (n : ℕ) → AllOrdered rows → AllOrdered (take n rows)
AllOrdered-take [] zero h = tt
AllOrdered-take [] (suc n) h = tt
AllOrdered-take (r ∷ rows) zero h = tt
AllOrdered-take (r ∷ rows) (suc n) h = (h.0, AllOrdered-take rows n h.1)

pub start_at_is : (from : ℕ) (es : List Ending) (i : ℕ) (d : Ending) → i < length es → start_at from es (suc i) ≡ (get_or es i d).end
start_at_is from [] i d h = absurd (omega arith)
start_at_is from (e ∷ []) zero d h = refl
start_at_is from (e ∷ f ∷ es) zero d h = refl
start_at_is from (e ∷ es) (suc i) d h = start_at_is e.end es i d (omega arith)

pub start_at_zero : (from : ℕ) (es : List Ending) → start_at from es zero ≡ from
start_at_zero from [] = refl
start_at_zero from (e ∷ es) = refl

-- ---- what the code changes
-- a row was pushed
pub pushed : (ts more ts' : List Term) (n n' : ℕ) (es es' : List Ending) (e : Ending) → AreEnds 0 es n → AllOrdered (rows_from ts 0 es) → IsOrdered more → n ≡ length ts → ts' ≡ ts ++ more → n' ≡ n + length more → es' ≡ es ++ e ∷ [] → e.end ≡ n' → AreEnds 0 es' n' × AllOrdered (rows_from ts' 0 es') × (rows_from ts' 0 es' ≡ rows_from ts 0 es ++ record { terms = more; constant = e.constant } ∷ [])
pushed ts more ts' n n' es es' e h o om en et en' ee el =
    let h' : AreEnds 0 es (length ts) = subst (λ (k : ℕ). AreEnds 0 es k) en h in
    let end_is : e.end ≡ length ts + length more = omega (arith, en, en', el) in
    let rows : rows_from ts' 0 es' ≡ rows_from ts 0 es ++ record { terms = more; constant = e.constant } ∷ [] = rw (et, ee) (rows-append ts more 0 es e h' end_is) in
    let ends : AreEnds 0 (es ++ e ∷ []) e.end = AreEnds-append 0 n es e h (omega (arith, en', el)) in (
      subst (λ (k : ℕ). AreEnds 0 es' k) el (subst (λ (k : List Ending). AreEnds 0 k e.end) (sym ee) ends),
      subst AllOrdered (sym rows) (AllOrdered-append (rows_from ts 0 es) (record { terms = more; constant = e.constant }) o om),
      rows,
    )

-- rows were forgotten
pub truncated : (ts ts' : List Term) (n n' : ℕ) (es es' : List Ending) (i k : ℕ) → AreEnds 0 es n → AllOrdered (rows_from ts 0 es) → k ≡ start_at 0 es i → ts' ≡ take k ts → n' + (n - k) ≡ n → es' ≡ take i es → AreEnds 0 es' n' × AllOrdered (rows_from ts' 0 es') × (rows_from ts' 0 es' ≡ take i (rows_from ts 0 es))
truncated ts ts' n n' es es' i k h o ek et en ee =
    let w = start_within 0 n es i h in
    let nk : start_at 0 es i ≡ n' = omega (arith, w.1, ek, en) in
    let rows : rows_from ts' 0 es' ≡ take i (rows_from ts 0 es) = rw (et, ee, ek) (rows-take ts 0 n es i h) in
    let ends : AreEnds 0 (take i es) (start_at 0 es i) = AreEnds-take 0 n es i h in (
      subst (λ (k : ℕ). AreEnds 0 es' k) nk (subst (λ (k : List Ending). AreEnds 0 k (start_at 0 es i)) (sym ee) ends),
      subst AllOrdered (sym rows) (AllOrdered-take (rows_from ts 0 es) i o),
      rows,
    )

-- ---- rows added one after another
pub take_step : (rows : List Row) (i : ℕ) (d : Row) → i < length rows → take (i + 1) rows ≡ take i rows ++ get_or rows i d ∷ []
take_step rows i d h = rw add-one (take-suc rows i d h)

places-take : (rows : List Row) (n : ℕ) → places (take n rows) ≤ places rows
places-take rows zero = omega arith
places-take [] (suc n) = omega arith
places-take (r ∷ rows) (suc n) = omega (arith, places-take rows n)

pub places_step : (rows : List Row) (i : ℕ) (d : Row) → i < length rows → (places (take i rows) + 1 + length (get_or rows i d).terms ≡ places (take (i + 1) rows)) × (places (take (i + 1) rows) ≤ places rows)
places_step rows i d h =
    (omega (arith, ap places (take_step rows i d h), places-append (take i rows) (get_or rows i d ∷ [])), places-take rows (i + 1))
