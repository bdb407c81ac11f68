-- Where three tables have a merge, the second and the third have one.
use Rattle.std.proofs.Common.{◌≡◌, ℕ, Bool, true, false, cond, List, [], ◌∷◌, refl, sym, ap, subst, ◌∙◌, arith, inl, inr}
use Rattle.std.specs.Prelude.{All, Contains, ◌⊎◌, ◌↔◌, filter}
use Rattle.std.specs.Ordering.{nat_cmp}
use Rattle.std.specs.Cmp.Lexicographic.{slice_cmp}
use Rattle.std.proofs.lemmas.List.Elements.{All-head, All-tail}
use Rattle.std.proofs.lemmas.List.Kept.{IsStrictlySortedBy-filter}
use Rattle.lt_cover.specs.declared.rows.TestRow.{TestRow}
use Rattle.lt_cover.specs.declared.rows.LabelRow.{LabelRow}
use Rattle.lt_cover.specs.declared.rows.HyperRow.{HyperRow}
use Rattle.lt_cover.specs.Coverage.Table.{Table, IsOrdered, NamesRise, names_of}
use Rattle.lt_merge.specs.Keys.{IsRisingLabel, IsSameLabel, IsSameHyper}
use Rattle.lt_cover.specs.Coverage.Merge.{EachMerged, IsMerge, IsMergedHyper, IsMergedLabel, greater}
use Rattle.lt_merge.proofs.Merges.{associative}
use Rattle.lt_merge.proofs.Merging.{labels_rise, merged_of}
use Rattle.lt_cover_laws.specs.Laws.{MergesAreThereHoweverGrouped}
use Rattle.lt_cover_laws.proofs.Members.{first_of, behind_of, first_or_behind, mapped, kept, from_kept, passes, is_of, is_of_either, is_of_some, is_of_others, names_kept}
use Rattle.lt_cover_laws.proofs.OneMerge.{test_is_one}

-- ---- tests

named : (tests : List TestRow) (name : List ℕ) → Contains (names_of tests) name → (t : TestRow) × Contains tests t × (t.name ≡ name)
named [] name k = absurd (omega (arith, k.1))
named (t ∷ tests) name k = by (named tests name) (first_or_behind t.name (names_of tests) name k)
  where
    by : (Contains (names_of tests) name → (u : TestRow) × Contains tests u × (u.name ≡ name)) → (t.name ≡ name) ⊎ Contains (names_of tests) name → (u : TestRow) × Contains (t ∷ tests) u × (u.name ≡ name)
    by rest (inl e) = (t, first_of t tests t refl, e)
    by rest (inr i) = let found = rest i in (found.0, behind_of t tests found.0 found.1, found.2)

names_filtered : (p : List ℕ → Bool) (tests : List TestRow) → names_of (filter (λ (t : TestRow). p t.name) tests) ≡ filter p (names_of tests)
names_filtered p [] = refl
names_filtered p (t ∷ tests) = by (p t.name) (names_filtered p tests)
  where
    by : (b : Bool) → names_of (filter (λ (t : TestRow). p t.name) tests) ≡ filter p (names_of tests) → names_of (cond b (t ∷ filter (λ (t : TestRow). p t.name) tests) (filter (λ (t : TestRow). p t.name) tests)) ≡ cond b (t.name ∷ filter p (names_of tests)) (filter p (names_of tests))
    by true rest = ap (λ names. t.name ∷ names) rest
    by false rest = rest

is_test_of : (b c : List TestRow) → TestRow → Bool
is_test_of b c t = is_of (names_of b) (names_of c) t.name

tests_kept : (b c x : List TestRow) → List TestRow
tests_kept b c x = filter (is_test_of b c) x

kept_rise : (b c x : List TestRow) → NamesRise (names_of x) → NamesRise (names_of (tests_kept b c x))
unfolding tests_kept is_test_of
kept_rise b c x h = subst NamesRise (sym (names_filtered (is_of (names_of b) (names_of c)) x)) (IsStrictlySortedBy-filter (slice_cmp nat_cmp) (is_of (names_of b) (names_of c)) (names_of x) h)

kept_of_either : (b c x : List TestRow) → NamesRise (names_of x) → ((t : TestRow) → Contains b t → Contains x t) → ((t : TestRow) → Contains c t → Contains x t) → (t : TestRow) → Contains (tests_kept b c x) t ↔ (Contains b t ⊎ Contains c t)
unfolding tests_kept is_test_of
kept_of_either b c x rise first second t = (there, back)
  where
    itself : (some : List TestRow) → ((t : TestRow) → Contains some t → Contains x t) → Contains x t → Contains (names_of some) t.name → Contains some t
    itself some in_x here k = let found = named some t.name k in subst (Contains some) (test_is_one x found.0 t rise (in_x found.0 found.1) here found.2) found.1

    by_name : Contains x t → Contains (names_of b) t.name ⊎ Contains (names_of c) t.name → Contains b t ⊎ Contains c t
    by_name here (inl k) = inl (itself b first here k)
    by_name here (inr k) = inr (itself c second here k)

    there : Contains (filter (λ (t : TestRow). is_of (names_of b) (names_of c) t.name) x) t → Contains b t ⊎ Contains c t
    there k = by_name (from_kept (λ (t : TestRow). is_of (names_of b) (names_of c) t.name) x t k) (is_of_either (names_of b) (names_of c) t.name (passes (λ (t : TestRow). is_of (names_of b) (names_of c) t.name) x t k))

    back : Contains b t ⊎ Contains c t → Contains (filter (λ (t : TestRow). is_of (names_of b) (names_of c) t.name) x) t
    back (inl k) = kept (λ (t : TestRow). is_of (names_of b) (names_of c) t.name) x t (first t k) (is_of_some (names_of b) (names_of c) t.name (mapped (λ (t : TestRow). t.name) b t k))
    back (inr k) = kept (λ (t : TestRow). is_of (names_of b) (names_of c) t.name) x t (second t k) (is_of_others (names_of b) (names_of c) t.name (mapped (λ (t : TestRow). t.name) c t k))

-- ---- rows of three lists

abbrev made : {X : Type 0} → (X → X → X → X) → List X → List X → List X → List X
made f (b ∷ bs) (c ∷ cs) (x ∷ xs) = f b c x ∷ made f bs cs xs
made f _ _ _ = []

each_made : {X : Type 0} (R S : X → X → X → Type 0) (P : X → Type 0) (f : X → X → X → X) → ((b c x : X) → R b c x → P x → S b c (f b c x)) → (b c x : List X) → EachMerged R b c x → All P x → EachMerged S b c (made f b c x)
each_made R S P f s [] [] [] h k = tt
each_made R S P f s (b ∷ bs) (c ∷ cs) (x ∷ xs) h k = (s b c x h.0 (All-head P x xs k), each_made R S P f s bs cs xs h.1 (All-tail P x xs k))
each_made R S P f s [] [] (x ∷ xs) h k = absurd h
each_made R S P f s [] (c ∷ cs) [] h k = absurd h
each_made R S P f s [] (c ∷ cs) (x ∷ xs) h k = absurd h
each_made R S P f s (b ∷ bs) [] [] h k = absurd h
each_made R S P f s (b ∷ bs) [] (x ∷ xs) h k = absurd h
each_made R S P f s (b ∷ bs) (c ∷ cs) [] h k = absurd h

-- what the rows of a merge of three lists have of the second and the third
each_inside : {X : Type 0} (R S : X → X → X → Type 0) → ((a b m c x : X) → R a b m → R m c x → S b c x) → (a b m c x : List X) → EachMerged R a b m → EachMerged R m c x → EachMerged S b c x
each_inside R S s [] [] [] [] [] h k = tt
each_inside R S s (a ∷ ar) (b ∷ br) (m ∷ mr) (c ∷ cr) (x ∷ xr) h k = (s a b m c x h.0 k.0, each_inside R S s ar br mr cr xr h.1 k.1)
each_inside R S s [] [] [] [] (x ∷ xr) h k = absurd k
each_inside R S s [] [] [] (c ∷ cr) x h k = absurd k
each_inside R S s [] [] (m ∷ mr) c x h k = absurd h
each_inside R S s [] (b ∷ br) m c x h k = absurd h
each_inside R S s (a ∷ ar) [] m c x h k = absurd h
each_inside R S s (a ∷ ar) (b ∷ br) [] c x h k = absurd h
each_inside R S s (a ∷ ar) (b ∷ br) (m ∷ mr) [] x h k = absurd k
each_inside R S s (a ∷ ar) (b ∷ br) (m ∷ mr) (c ∷ cr) [] h k = absurd k

-- ---- labels

record IsLabelInside (b c x : LabelRow) : Type 0 where
  same : IsSameLabel b c
  first : (name : List ℕ) → Contains b.by name → Contains x.by name
  second : (name : List ℕ) → Contains c.by name → Contains x.by name

label_inside : (a b m c x : LabelRow) → IsMergedLabel a b m → IsMergedLabel m c x → IsLabelInside b c x
label_inside a b m c x h k = record {
  same = (sym h.right.0 ∙ sym k.left.0 ∙ k.right.0, sym h.right.1 ∙ sym k.left.1 ∙ k.right.1);
  first = λ name i. (k.by name).1 (inl ((h.by name).1 (inr i)));
  second = λ name i. (k.by name).1 (inr i);
}

abbrev label_of : LabelRow → LabelRow → LabelRow → LabelRow
label_of b c x = record { id = b.id; tag = b.tag; by = filter (is_of b.by c.by) x.by }

label_made : (b c x : LabelRow) → IsLabelInside b c x → NamesRise x.by → IsRisingLabel b c (label_of b c x)
label_made b c x h rise = record {
  merged = record { left = (refl, refl); right = h.same; by = names_kept b.by c.by x.by h.first h.second };
  rise = IsStrictlySortedBy-filter (slice_cmp nat_cmp) (is_of b.by c.by) x.by rise;
}

-- ---- hyperlabels

hyper_inside : (a b m c x : HyperRow) → IsMergedHyper a b m → IsMergedHyper m c x → IsSameHyper b c
hyper_inside a b m c x h k = (sym h.right.0 ∙ sym k.left.0 ∙ k.right.0, sym h.right.1 ∙ sym k.left.1 ∙ k.right.1)

abbrev hyper_of : HyperRow → HyperRow → HyperRow → HyperRow
hyper_of b c x = record { id = b.id; tag = b.tag; state = greater b.state c.state }

hyper_made : (b c x : HyperRow) → IsSameHyper b c → Unit {0} → IsMergedHyper b c (hyper_of b c x)
hyper_made b c x same u = record { left = (refl, refl); right = same; state = refl }

-- ---- tables

-- what the merge has of the second and the third table
of_two : Table → Table → Table → Table
of_two b c x = record { tests = tests_kept b.tests c.tests x.tests; labels = made label_of b.labels c.labels x.labels; hypers = made hyper_of b.hypers c.hypers x.hypers }

merge_of_two : (a b c m x : Table) → IsOrdered b → IsOrdered c → IsMerge a b m → IsMerge m c x → IsMerge b c (of_two b c x)
unfolding of_two
merge_of_two a b c m x hb hc h k =
    let first : (t : TestRow) → Contains b.tests t → Contains x.tests t = λ t i. (k.tests t).1 (inl ((h.tests t).1 (inr i))) in
    let second : (t : TestRow) → Contains c.tests t → Contains x.tests t = λ t i. (k.tests t).1 (inr i) in
    let labels = each_inside IsMergedLabel IsLabelInside label_inside a.labels b.labels m.labels c.labels x.labels h.labels k.labels in
    let hypers = each_inside IsMergedHyper (λ (b c x : HyperRow). IsSameHyper b c) hyper_inside a.hypers b.hypers m.hypers c.hypers x.hypers h.hypers k.hypers in
    merged_of b c b.tests c.tests (tests_kept b.tests c.tests x.tests) b.labels c.labels (made label_of b.labels c.labels x.labels) b.hypers c.hypers (made hyper_of b.hypers c.hypers x.hypers) hb hc refl refl refl refl refl refl
    (kept_rise b.tests c.tests x.tests k.ordered.tests_rise) (kept_of_either b.tests c.tests x.tests k.ordered.tests_rise first second)
    (each_made IsLabelInside IsRisingLabel (λ (l : LabelRow). NamesRise l.by) label_of label_made b.labels c.labels x.labels labels (labels_rise x x.labels k.ordered refl))
    (each_made (λ (b c x : HyperRow). IsSameHyper b c) IsMergedHyper (λ (g : HyperRow). Unit {0}) hyper_of hyper_made b.hypers c.hypers x.hypers hypers (λ i d within. tt))

pub merges_are_there : MergesAreThereHoweverGrouped
merges_are_there a b c m x hb hc h k =
    let between = merge_of_two a b c m x hb hc h k in
    (of_two b c x, between, associative a b c m (of_two b c x) x h between k)
