-- The fronts of a list of rows, and the first row that breaks the grammar.
use Rattle.std.proofs.Common.{◌≡◌, ℕ, suc, ◌+◌, ◌<◌, ◌≤◌, min, List, [], ◌∷◌, ◌++◌, length, get_or, take, refl, sym, ap, subst, ◌∙◌, arith, inl, inr, Bool, true, false}
use Rattle.std.proofs.lemmas.Bool.{cases_lt}
use Rattle.std.proofs.lemmas.List.{take_more, take_all}
use Rattle.lt_cover.specs.declared.rows.Version.{Version}
use Rattle.lt_cover.specs.Coverage.Table.{Table}
use Rattle.lt_cover.specs.Coverage.Text.{AreRowsOf, StandFor, IsFirstBroken, row_number, header, row_fields, rows_of}
use Rattle.lt_cover.specs.Coverage.Rows.{Takes, added}
use Rattle.lt_cover.proofs.Follows.{grows, only, first_row}

-- each front of up to n rows stands for a table
abbrev pub EachFront : List (List (List ℕ)) → ℕ → Type 0
EachFront rows n = (k : ℕ) → 1 ≤ k → k ≤ n → (t : Table) × StandFor (take k rows) t

each_more : (rows : List (List (List ℕ))) (n : ℕ) → EachFront rows n → (t : Table) × StandFor (take (n + 1) rows) t → EachFront rows (n + 1)
each_more rows n each next k low high = elim (cases_lt k (n + 1)) [
  | inl below ↦ each k low (omega arith)
  | inr above ↦ subst (λ (m : ℕ). (t : Table) × StandFor (take m rows) t) {x = n + 1} {y = k} (omega arith) next
]

head_front : (h : List (List ℕ)) (rows : List (List (List ℕ))) (i : ℕ) → take (i + 1) (h ∷ rows) ≡ h ∷ take i rows
head_front h rows i = subst (λ (n : ℕ). take n (h ∷ rows) ≡ h ∷ take i rows) {x = suc i} {y = i + 1} (omega arith) refl

front_more : (h : List (List ℕ)) (rows : List (List (List ℕ))) (i : ℕ) (fields : List (List ℕ)) → i < length rows → fields ≡ get_or rows i fields → h ∷ take (i + 1) rows ≡ (h ∷ take i rows) ++ fields ∷ []
front_more h rows i fields within is = ap (λ z. h ∷ z) (take_more rows i fields within ∙ ap (λ z. take i rows ++ z ∷ []) (sym is))

module _ (version : Version) (t : Table) (rows : List (List (List ℕ))) (i : ℕ) (fields : List (List ℕ)) (within : i < length rows) (is : fields ≡ get_or rows i fields) (are : AreRowsOf version t (header version ∷ take i rows)) where
  -- one row more was taken
  pub front_grown : (after : Table) → Takes version t fields true after → AreRowsOf version after (header version ∷ take (i + 1) rows)
  front_grown after h =
      let grown : AreRowsOf version (added t h.0) ((header version ∷ take i rows) ++ row_fields h.0 ∷ []) = grows version t h.0 (header version ∷ take i rows) are h.1.0 h.2 in
      let text : (header version ∷ take i rows) ++ row_fields h.0 ∷ [] ≡ header version ∷ take (i + 1) rows = ap (λ z. (header version ∷ take i rows) ++ z ∷ []) h.1.1 ∙ sym (front_more (header version) rows i fields within is) in
      subst (λ (u : Table). AreRowsOf version u (header version ∷ take (i + 1) rows)) (sym h.3) (subst (AreRowsOf version (added t h.0)) text grown)

  pub each_grown : (after : Table) → Takes version t fields true after → EachFront (header version ∷ rows) (i + 1) → EachFront (header version ∷ rows) (i + 1 + 1)
  each_grown after h each = each_more (header version ∷ rows) (i + 1) each (after, (version, subst (AreRowsOf version after) (sym (head_front (header version) rows (i + 1))) (front_grown after h)))

  -- the row is the first that breaks the grammar
  pub first_broken : (after : Table) → Takes version t fields false after → EachFront (header version ∷ rows) (i + 1) → IsFirstBroken (header version ∷ rows) (i + 1 + 1)
  first_broken after h each = record {
    some = omega arith;
    before = λ k low below. each k low (omega arith);
    here = λ u stands.
        let row = only version t (header version ∷ take i rows) fields u are (subst (λ (z : List (List (List ℕ))). StandFor z u) (head_front (header version) rows (i + 1) ∙ front_more (header version) rows i fields within is) stands) in
        h row.0 (row.1, row.2) row.3;
  }

pub number_more : (number n : ℕ) → number ≡ row_number n → min (number + 1) 4294967295 ≡ row_number (n + 1)
number_more number n e = omega (arith, e)

pub front_all : (version : Version) (t : Table) (rows : List (List (List ℕ))) (i : ℕ) → length rows ≤ i → AreRowsOf version t (header version ∷ take i rows) → StandFor (header version ∷ rows) t
front_all version t rows i past are = (version, subst (λ (z : List (List (List ℕ))). AreRowsOf version t (header version ∷ z)) (take_all i rows past) are)

pub first_each : (version : Version) (rows : List (List (List ℕ))) → EachFront (header version ∷ rows) 1
first_each version rows k low high = subst (λ (m : ℕ). (t : Table) × StandFor (take m (header version ∷ rows)) t) {x = 1} {y = k} (omega arith) (record { tests = []; labels = []; hypers = [] }, (version, first_row version))

-- no version has this first row
pub no_version : (first : List (List ℕ)) (rest rows : List (List (List ℕ))) → rows ≡ first ∷ rest → ((v : Version) → Unit {0} → header v ≡ first → ⊥) → IsFirstBroken rows 1
no_version first rest rows are none = record {
  some = omega arith;
  before = λ k low high. absurd (omega arith);
  here = λ t stands. other t (subst (λ (z : List (List (List ℕ))). StandFor (take 1 z) t) are stands);
}
  where
    other : (t : Table) → StandFor (first ∷ []) t → ⊥
    other t (v, h) = let is : first ∷ [] ≡ rows_of v t = h.are in let same : header v ≡ first = cc in none v tt same

pub no_rows : (rows : List (List (List ℕ))) → rows ≡ [] → IsFirstBroken rows 1
no_rows rows none = record {
  some = omega arith;
  before = λ k low high. absurd (omega arith);
  here = λ t stands. other t (subst (λ (z : List (List (List ℕ))). StandFor (take 1 z) t) none stands);
}
  where
    other : (t : Table) → StandFor [] t → ⊥
    other t (v, h) = let is : [] ≡ rows_of v t = h.are in absurd (cc)

pub taken_as : (v w : Version) (t : Table) (f g : List (List ℕ)) (b d : Bool) (after : Table) → v ≡ w → f ≡ g → b ≡ d → Takes v t f b after → Takes w t g d after
taken_as v w t f g b d after p q r h = subst (λ (z : Version). Takes z t g d after) p (subst (λ (z : List (List ℕ)). Takes v t z d after) q (subst (λ (z : Bool). Takes v t f z after) r h))
