-- The first rows of a table are those of a table.
use Rattle.std.proofs.Common.{◌≡◌, ℕ, suc, zero, ◌-◌, ◌≤◌, List, [], ◌∷◌, ◌++◌, length, get_or, map, take, sym, ap, subst, ◌∙◌, arith}
use Rattle.std.specs.Prelude.{All}
use Rattle.std.specs.Ordering.{nat_cmp}
use Rattle.std.specs.Cmp.Lexicographic.{slice_cmp}
use Rattle.std.specs.List.Sorted.{IsStrictlySortedBy}
use Rattle.std.specs.declared.cmp.Ordering.{Ordering}
use Rattle.std.specs.declared.cmp.Ordering.TheVariants.{Less}
use Rattle.std.proofs.lemmas.List.{length-map, length-take, take-map, take_all}
use Rattle.std.proofs.lemmas.List.Elements.{All-take}
use Rattle.lt_cover.specs.declared.rows.TestRow.{TestRow}
use Rattle.lt_cover.specs.declared.rows.LabelRow.{LabelRow}
use Rattle.lt_cover.specs.declared.rows.HyperRow.{HyperRow}
use Rattle.lt_cover.specs.declared.rows.Row.TheVariants.{Test, Label, Hyper}
use Rattle.lt_cover.specs.declared.rows.Version.{Version}
use Rattle.lt_cover.specs.Coverage.Table.{Table, IsOrdered, IsTable, IsTestRow, IsLabelRow, IsHyperRow, IsCoveredBy, NamesRise, names_of, label_ids, hyper_ids}
use Rattle.lt_cover.specs.Coverage.Text.{AreRowsOf, MayHold, header, row_fields, rows_in}
use Rattle.lt_cover.proofs.Rising.{rise_nil, rise_cons, rise_head, rise_tail}

-- the front of two lists in a row
take_both : {X : Type 0} (i j : ℕ) (xs ys : List X) → j ≡ i - length xs → take i (xs ++ ys) ≡ take i xs ++ take j ys
take_both zero j [] ys e = ap (λ n. take n ys) {x = zero} {y = j} (omega arith)
take_both (suc i) j [] ys e = ap (λ n. take n ys) {x = suc i} {y = j} (omega arith)
take_both zero j (x ∷ xs) ys e = ap (λ n. take n ys) {x = zero} {y = j} (omega arith)
take_both (suc i) j (x ∷ xs) ys e = ap (λ z. x ∷ z) (take_both i j xs ys (omega arith))

rise_take : {K : Type 0} (R : K → K → Ordering) (i : ℕ) (xs : List K) → IsStrictlySortedBy R xs → IsStrictlySortedBy R (take i xs)
rise_take R zero xs h = rise_nil R
rise_take R (suc i) [] h = rise_nil R
rise_take R (suc i) (x ∷ xs) h = rise_cons R x (take i xs) (All-take (λ y. R x y ≡ Less) i xs (rise_head R x xs h)) (rise_take R i xs (rise_tail R x xs h))

-- the first i rows: labels come behind all tests, and hyperlabels behind all labels
abbrev pub front : ℕ → Table → Table
front i t = record { tests = take i t.tests; labels = take (i - length t.tests) t.labels; hypers = take (i - length t.tests - length t.labels) t.hypers }

covered_front : (i : ℕ) (t : Table) → All (IsCoveredBy (names_of t.tests)) t.labels → All (IsCoveredBy (names_of (take i t.tests))) (take (i - length t.tests) t.labels)
covered_front i t h k d within =
    let past : length t.tests ≤ i = omega (arith, within, length-take (i - length t.tests) t.labels) in
    subst (λ (tests : List TestRow). IsCoveredBy (names_of tests) (get_or (take (i - length t.tests) t.labels) k d)) (sym (take_all i t.tests past))
    (All-take (IsCoveredBy (names_of t.tests)) (i - length t.tests) t.labels h k d within)

front_ordered : (i : ℕ) (t : Table) → IsOrdered t → IsOrdered (front i t)
front_ordered i t h = record {
  tests_rise = subst NamesRise (take-map (λ (x : TestRow). x.name) i t.tests) (rise_take (slice_cmp nat_cmp) i (names_of t.tests) h.tests_rise);
  labels_rise = subst (IsStrictlySortedBy nat_cmp) (take-map (λ (x : LabelRow). x.id) (i - length t.tests) t.labels) (rise_take nat_cmp (i - length t.tests) (label_ids t.labels) h.labels_rise);
  hypers_rise = subst (IsStrictlySortedBy nat_cmp) (take-map (λ (x : HyperRow). x.id) (i - length t.tests - length t.labels) t.hypers) (rise_take nat_cmp (i - length t.tests - length t.labels) (hyper_ids t.hypers) h.hypers_rise);
  covered = covered_front i t h.covered;
}

front_table : (i : ℕ) (t : Table) → IsTable t → IsTable (front i t)
front_table i t h = record {
  ordered = front_ordered i t h.ordered;
  each_test = All-take IsTestRow i t.tests h.each_test;
  each_label = All-take IsLabelRow (i - length t.tests) t.labels h.each_label;
  each_hyper = All-take IsHyperRow (i - length t.tests - length t.labels) t.hypers h.each_hyper;
}

rows_front : (i : ℕ) (t : Table) → take i (rows_in t) ≡ rows_in (front i t)
rows_front i t =
    let j = i - length t.tests in
    let k = i - length t.tests - length t.labels in
    let tests : take i (rows_in t) ≡ take i (map Test t.tests) ++ take j (map Label t.labels ++ map Hyper t.hypers) = take_both i j (map Test t.tests) (map Label t.labels ++ map Hyper t.hypers) (omega (arith, length-map t.tests Test)) in
    let labels : take j (map Label t.labels ++ map Hyper t.hypers) ≡ take j (map Label t.labels) ++ take k (map Hyper t.hypers) = take_both j k (map Label t.labels) (map Hyper t.hypers) (omega (arith, length-map t.labels Label)) in
    tests ∙ λ z. take-map Test i t.tests z ++ (labels ∙ λ y. take-map Label j t.labels y ++ take-map Hyper k t.hypers y) z

-- the header and the first i rows
pub front_stands : (version : Version) (t : Table) (rows : List (List (List ℕ))) (i : ℕ) → AreRowsOf version t rows → AreRowsOf version (front i t) (take (suc i) rows)
front_stands version t rows i h = record {
  table = front_table i t h.table;
  holds = All-take (MayHold version) (i - length t.tests) t.labels h.holds;
  are = ap (take (suc i)) h.are ∙ ap (λ z. header version ∷ z) (take-map row_fields i (rows_in t) ∙ ap (map row_fields) (rows_front i t));
}
