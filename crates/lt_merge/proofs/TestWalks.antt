-- A walk along two lists of tests whose names rise.
use Rattle.std.proofs.Common.{◌≡◌, ℕ, List, [], ◌∷◌, ◌++◌, length, refl, sym, ap, subst, ◌∙◌, arith}
use Rattle.std.specs.Prelude.{Contains, ◌⊎◌, ◌↔◌, IsTrue, Bool, nat_eq}
use Rattle.std.specs.Ordering.{nat_cmp, is_eq}
use Rattle.std.specs.Cmp.Lexicographic.{slice_cmp, pointwise, same_text, texts_ties}
use Rattle.std.specs.declared.cmp.Ordering.TheVariants.{Less, Equal, Greater}
use Rattle.std.proofs.lemmas.Cmp.{nat_list_cmp_total, tied_itself}
use Rattle.lt_cover.specs.declared.rows.TestRow.{TestRow}
use Rattle.lt_cover.specs.declared.rows.TestEnd.{TestEnd}
use Rattle.lt_cover.specs.Coverage.Table.{NamesRise, names_of}
use Rattle.lt_cover.specs.Coverage.Merge.{IsLeastDiffering}
use Rattle.lt_cover.specs.Coverage.Text.{end_word}
use Rattle.lt_cover.proofs.Ends.{end_inj}
use Rattle.lt_cover.proofs.Drafts.{same_name}
use Rattle.lt_merge.proofs.Walks.{IsWalk, walk_starts, took_left, took_right, took_both, took_alone, all_rises, all_of_either, walk_agrees}

abbrev pub name_of : TestRow → List ℕ
name_of test = test.name

abbrev pub IsTestWalk : List TestRow → List TestRow → List TestRow → List TestRow → List TestRow → Type 0
IsTestWalk a b out left right = IsWalk (slice_cmp nat_cmp) name_of a b out left right

pub tests_start : (a b out : List TestRow) → NamesRise (names_of a) → NamesRise (names_of b) → out ≡ [] → IsTestWalk a b out a b
tests_start a b out h k e = subst (λ z. IsTestWalk a b z a b) (sym e) (walk_starts nat_list_cmp_total name_of a b h k)

pub tests_left : (a b out out2 l r left right : List TestRow) (x y : TestRow) → IsTestWalk a b out l r → l ≡ x ∷ left → r ≡ y ∷ right → out2 ≡ out ++ x ∷ [] → slice_cmp nat_cmp x.name y.name ≡ Less → IsTestWalk a b out2 left r
tests_left a b out out2 l r left right x y h el er eo less = took_left nat_list_cmp_total name_of a b out out2 l r left right x y h el er eo less

pub tests_right : (a b out out2 l r left right : List TestRow) (x y : TestRow) → IsTestWalk a b out l r → l ≡ x ∷ left → r ≡ y ∷ right → out2 ≡ out ++ y ∷ [] → slice_cmp nat_cmp x.name y.name ≡ Greater → IsTestWalk a b out2 l right
tests_right a b out out2 l r left right x y h el er eo more = took_right nat_list_cmp_total name_of a b out out2 l r left right x y h el er eo more

same_row : (x y : TestRow) → x.name ≡ y.name → x.end ≡ y.end → x ≡ y
same_row x y n e = λ i. record { name = n i; end = e i }

pub tests_both : (a b out out2 l r left right : List TestRow) (x y : TestRow) → IsTestWalk a b out l r → l ≡ x ∷ left → r ≡ y ∷ right → out2 ≡ out ++ x ∷ [] → slice_cmp nat_cmp x.name y.name ≡ Equal → x.end ≡ y.end → IsTestWalk a b out2 left right
tests_both a b out out2 l r left right x y h el er eo same end = took_both nat_list_cmp_total name_of a b out out2 l r left right x y h el er eo (same_row x y (same_name x.name y.name same) end)

pub tests_alone : (a b out out2 l r left : List TestRow) (x : TestRow) → IsTestWalk a b out l r → l ≡ x ∷ left → length r ≡ 0 → out2 ≡ out ++ x ∷ [] → IsTestWalk a b out2 left r
tests_alone a b out out2 l r left x h el er eo = took_alone nat_list_cmp_total name_of a b out out2 l r left x h el er eo

pub tests_rise : (a b out all l r : List TestRow) → IsTestWalk a b out l r → all ≡ out ++ r → NamesRise (names_of all)
tests_rise a b out all l r h e = all_rises nat_list_cmp_total name_of a b out all l r h e

pub tests_of_both : (a b out all l r : List TestRow) → IsTestWalk a b out l r → length l ≡ 0 → all ≡ out ++ r → (x : TestRow) → Contains all x ↔ (Contains a x ⊎ Contains b x)
tests_of_both a b out all l r h nl e = all_of_either nat_list_cmp_total name_of a b out all l r h nl e

-- both have the next test, with two ends
differing : (a b out left right : List TestRow) (x y : TestRow) → IsTestWalk a b out (x ∷ left) (y ∷ right) → x.name ≡ y.name → (x.end ≡ y.end → ⊥) → IsLeastDiffering a b x.name
differing a b out left right x y h same ends = record {
  here = (x, y, h.in_left x (0, omega arith, refl), h.in_right y (0, omega arith, refl), refl, sym same, ends);
  before = λ lesser less d.
      let (u, v, i, j, p, q, differ) = d in
      let below_x : slice_cmp nat_cmp u.name x.name ≡ Less = ap (λ n. slice_cmp nat_cmp n x.name) p ∙ less in
      let below_y : slice_cmp nat_cmp v.name y.name ≡ Less = ap (λ n. slice_cmp nat_cmp n y.name) q ∙ (ap (slice_cmp nat_cmp lesser) (sym same) ∙ less) in
      differ (ap (λ (t : TestRow). t.end) (walk_agrees nat_list_cmp_total name_of a b out left right x y u v h i j (p ∙ sym q) below_x below_y));
}

pub tests_differ : (a b out l r left right : List TestRow) (x y : TestRow) (name : List ℕ) → IsTestWalk a b out l r → l ≡ x ∷ left → r ≡ y ∷ right → slice_cmp nat_cmp x.name y.name ≡ Equal → (x.end ≡ y.end → ⊥) → name ≡ x.name → IsLeastDiffering a b name
tests_differ a b out l r left right x y name h el er same ends is =
    let here : IsTestWalk a b out (x ∷ left) (y ∷ right) = subst (λ w. IsTestWalk a b out (x ∷ left) w) er (subst (λ w. IsTestWalk a b out w r) el h) in
    subst (IsLeastDiffering a b) (sym is) (differing a b out left right x y here (same_name x.name y.name same) ends)

-- ends whose words are the same
pub ends_compared : (a b : TestEnd) (left right : List ℕ) (same : Bool) → left ≡ end_word a → right ≡ end_word b → same ≡ pointwise nat_eq left right → IsTrue same ↔ (a ≡ b)
ends_compared a b left right same l r told = (
  λ yes. end_inj a b (sym l ∙ (same_text left right (sym yes ∙ told) ∙ r)),
  λ e. told ∙ (ap (pointwise nat_eq left) (r ∙ (ap end_word (sym e) ∙ sym l)) ∙ (texts_ties left left ∙ ap is_eq (tied_itself nat_list_cmp_total left))),
)
