-- Two tables have a merge, or one least label, hyperlabel or test on which they don't agree.
use Rattle.std.proofs.Common.{◌≡◌, ℕ, ◌<◌, List, [], ◌∷◌, map, refl, sym, ap, ◌∙◌, arith, inl, inr}
use Rattle.std.specs.Prelude.{Contains, ◌⊎◌}
use Rattle.std.specs.Ordering.{nat_cmp, ordering_index, ordering_reverse}
use Rattle.std.specs.Cmp.Lexicographic.{slice_cmp}
use Rattle.std.specs.declared.cmp.Ordering.{Ordering}
use Rattle.std.specs.declared.cmp.Ordering.TheVariants.{Less, Equal, Greater}
use Rattle.std.proofs.lemmas.Bool.{cases_lt}
use Rattle.std.proofs.lemmas.Cmp.{nat_list_cmp_total, tied_itself}
use Rattle.std.proofs.lemmas.List.Elements.{All-contains}
use Rattle.lt_cover.specs.declared.rows.TestRow.{TestRow}
use Rattle.lt_cover.specs.declared.rows.LabelRow.{LabelRow}
use Rattle.lt_cover.specs.declared.rows.HyperRow.{HyperRow}
use Rattle.lt_cover.specs.Coverage.Table.{Table, NamesRise, names_of}
use Rattle.lt_cover.specs.Coverage.Merge.{EachMerged, IsMerge, IsMergedHyper, IsMergedLabel, IsLeastMixed, IsLeastDiffering, DifferAt, label_keys, hyper_keys}
use Rattle.lt_cover.proofs.Drafts.{same_name}
use Rattle.lt_cover.proofs.Rising.{rise_head, rise_tail}
use Rattle.lt_cover_laws.specs.Laws.{MergesAreOne}
use Rattle.lt_cover_laws.proofs.Members.{first_or_behind, mapped}

abbrev Keys : Type 0
Keys = List (ℕ × List ℕ)

not_below : (a b : Keys) (m n : ℕ) → IsLeastMixed a b m → IsLeastMixed a b n → m < n → ⊥
not_below a b m n hm hn less = hm.here (hn.before m less)

mixed_is_one : (a b : Keys) (m n : ℕ) → IsLeastMixed a b m → IsLeastMixed a b n → m ≡ n
mixed_is_one a b m n hm hn = elim (cases_lt m n) [
  | inl less ↦ absurd (not_below a b m n hm hn less)
  | inr past ↦ elim (cases_lt n m) [
    | inl less ↦ absurd (not_below a b n m hn hm less)
    | inr both ↦ omega arith
  ]
]

differing_is_one : (a b : List TestRow) (name other : List ℕ) → IsLeastDiffering a b name → IsLeastDiffering a b other → name ≡ other
differing_is_one a b name other h k = by (slice_cmp nat_cmp name other) refl
  where
    by : (o : Ordering) → slice_cmp nat_cmp name other ≡ o → name ≡ other
    by Less less = absurd (k.before name less h.here)
    by Equal same = same_name name other same
    by Greater more = absurd (h.before other (nat_list_cmp_total.antisymm other name ∙ ap ordering_reverse more) k.here)

-- what the rows of both lists have alike at each place
each_alike : {X Y : Type 0} (R : X → X → X → Type 0) (f : X → Y) → ((x y z : X) → R x y z → f x ≡ f y) → (a b m : List X) → EachMerged R a b m → map f a ≡ map f b
each_alike R f s [] [] [] h = refl
each_alike R f s (x ∷ a) (y ∷ b) (z ∷ m) h =
    let first = s x y z h.0 in
    let rest = each_alike R f s a b m h.1 in
    λ i. first i ∷ rest i
each_alike R f s [] [] (z ∷ m) h = absurd h
each_alike R f s [] (y ∷ b) [] h = absurd h
each_alike R f s [] (y ∷ b) (z ∷ m) h = absurd h
each_alike R f s (x ∷ a) [] [] h = absurd h
each_alike R f s (x ∷ a) [] (z ∷ m) h = absurd h
each_alike R f s (x ∷ a) (y ∷ b) [] h = absurd h

abbrev label_key : LabelRow → ℕ × List ℕ
label_key label = (label.id, label.tag)

abbrev hyper_key : HyperRow → ℕ × List ℕ
hyper_key hyper = (hyper.id, hyper.tag)

same_label : (x y z : LabelRow) → IsMergedLabel x y z → label_key x ≡ label_key y
same_label x y z h = λ i. ((sym h.left.0 ∙ h.right.0) i, (sym h.left.1 ∙ h.right.1) i)

same_hyper : (x y z : HyperRow) → IsMergedHyper x y z → hyper_key x ≡ hyper_key y
same_hyper x y z h = λ i. ((sym h.left.0 ∙ h.right.0) i, (sym h.left.1 ∙ h.right.1) i)

keys_alike : (a b m : Table) → IsMerge a b m → (label_keys a.labels ≡ label_keys b.labels) × (hyper_keys a.hypers ≡ hyper_keys b.hypers)
keys_alike a b m h = (each_alike IsMergedLabel label_key same_label a.labels b.labels m.labels h.labels, each_alike IsMergedHyper hyper_key same_hyper a.hypers b.hypers m.hypers h.hypers)

-- no test behind the first has its name
not_again : (x : TestRow) (tests : List TestRow) (z : TestRow) → NamesRise (names_of (x ∷ tests)) → Contains tests z → x.name ≡ z.name → ⊥
not_again x tests z h k same =
    let named : Contains (names_of tests) z.name = mapped (λ (t : TestRow). t.name) tests z k in
    let less : slice_cmp nat_cmp x.name z.name ≡ Less = All-contains (λ n. slice_cmp nat_cmp x.name n ≡ Less) (names_of tests) z.name (rise_head (slice_cmp nat_cmp) x.name (names_of tests) h) named in
    let tied : slice_cmp nat_cmp x.name z.name ≡ Equal = ap (slice_cmp nat_cmp x.name) (sym same) ∙ tied_itself nat_list_cmp_total x.name in
    absurd (omega (arith, ap ordering_index less, ap ordering_index tied))

-- tests of one name are one
pub test_is_one : (tests : List TestRow) (u v : TestRow) → NamesRise (names_of tests) → Contains tests u → Contains tests v → u.name ≡ v.name → u ≡ v
test_is_one [] u v h i j e = absurd (omega (arith, i.1))
test_is_one (x ∷ tests) u v h i j e = by (test_is_one tests u v (rise_tail (slice_cmp nat_cmp) x.name (names_of tests) h)) (first_or_behind x tests u i) (first_or_behind x tests v j)
  where
    by : (Contains tests u → Contains tests v → u.name ≡ v.name → u ≡ v) → (x ≡ u) ⊎ Contains tests u → (x ≡ v) ⊎ Contains tests v → u ≡ v
    by rest (inl p) (inl q) = sym p ∙ q
    by rest (inl p) (inr q) = absurd (not_again x tests v h q (ap (λ (t : TestRow). t.name) p ∙ e))
    by rest (inr p) (inl q) = absurd (not_again x tests u h p (ap (λ (t : TestRow). t.name) q ∙ sym e))
    by rest (inr p) (inr q) = rest p q e

none_differ : (a b m : Table) (name : List ℕ) → IsMerge a b m → DifferAt a.tests b.tests name → ⊥
none_differ a b m name h (x, y, i, j, p, q, differ) =
    differ (ap (λ (t : TestRow). t.end) (test_is_one m.tests x y h.ordered.tests_rise ((h.tests x).1 (inl i)) ((h.tests y).1 (inr j)) (p ∙ sym q)))

pub merges_are_one : MergesAreOne
merges_are_one a b = record {
  labels = mixed_is_one (label_keys a.labels) (label_keys b.labels);
  hypers = mixed_is_one (hyper_keys a.hypers) (hyper_keys b.hypers);
  tests = differing_is_one a.tests b.tests;
  agree = keys_alike a b;
  apart = λ m name merge least. none_differ a b m name merge least.here;
}
