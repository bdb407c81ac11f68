-- A walk along two rising lists of names.
use Rattle.std.proofs.Common.{◌≡◌, ℕ, List, [], ◌∷◌, ◌++◌, length, map, refl, sym, ap, subst}
use Rattle.std.specs.Prelude.{Contains, ◌⊎◌, ◌↔◌}
use Rattle.std.specs.Ordering.{nat_cmp}
use Rattle.std.specs.Cmp.Lexicographic.{slice_cmp}
use Rattle.std.specs.declared.cmp.Ordering.TheVariants.{Less, Equal, Greater}
use Rattle.std.proofs.lemmas.Cmp.{nat_list_cmp_total}
use Rattle.lt_cover.specs.Coverage.Table.{NamesRise}
use Rattle.lt_cover.proofs.Drafts.{same_name}
use Rattle.lt_merge.proofs.Walks.{IsWalk, walk_starts, took_left, took_right, took_both, took_alone, all_rises, all_of_either}

abbrev pub itself : List ℕ → List ℕ
itself name = name

abbrev pub IsNameWalk : List (List ℕ) → List (List ℕ) → List (List ℕ) → List (List ℕ) → List (List ℕ) → Type 0
IsNameWalk a b out left right = IsWalk (slice_cmp nat_cmp) itself a b out left right

mapped : (names : List (List ℕ)) → map itself names ≡ names
mapped [] = refl
mapped (name ∷ names) = ap (λ z. name ∷ z) (mapped names)

pub names_start : (a b out : List (List ℕ)) → NamesRise a → NamesRise b → out ≡ [] → IsNameWalk a b out a b
names_start a b out h k e =
    subst (λ z. IsNameWalk a b z a b) (sym e) (walk_starts nat_list_cmp_total itself a b (subst NamesRise (sym (mapped a)) h) (subst NamesRise (sym (mapped b)) k))

pub names_left : (a b out out2 l r left right : List (List ℕ)) (x y : List ℕ) → IsNameWalk a b out l r → l ≡ x ∷ left → r ≡ y ∷ right → out2 ≡ out ++ x ∷ [] → slice_cmp nat_cmp x y ≡ Less → IsNameWalk a b out2 left r
names_left a b out out2 l r left right x y h el er eo less = took_left nat_list_cmp_total itself a b out out2 l r left right x y h el er eo less

pub names_right : (a b out out2 l r left right : List (List ℕ)) (x y : List ℕ) → IsNameWalk a b out l r → l ≡ x ∷ left → r ≡ y ∷ right → out2 ≡ out ++ y ∷ [] → slice_cmp nat_cmp x y ≡ Greater → IsNameWalk a b out2 l right
names_right a b out out2 l r left right x y h el er eo more = took_right nat_list_cmp_total itself a b out out2 l r left right x y h el er eo more

pub names_both : (a b out out2 l r left right : List (List ℕ)) (x y : List ℕ) → IsNameWalk a b out l r → l ≡ x ∷ left → r ≡ y ∷ right → out2 ≡ out ++ x ∷ [] → slice_cmp nat_cmp x y ≡ Equal → IsNameWalk a b out2 left right
names_both a b out out2 l r left right x y h el er eo same = took_both nat_list_cmp_total itself a b out out2 l r left right x y h el er eo (same_name x y same)

pub names_alone : (a b out out2 l r left : List (List ℕ)) (x : List ℕ) → IsNameWalk a b out l r → l ≡ x ∷ left → length r ≡ 0 → out2 ≡ out ++ x ∷ [] → IsNameWalk a b out2 left r
names_alone a b out out2 l r left x h el er eo = took_alone nat_list_cmp_total itself a b out out2 l r left x h el er eo

pub names_rise : (a b out all l r : List (List ℕ)) → IsNameWalk a b out l r → all ≡ out ++ r → NamesRise all
names_rise a b out all l r h e = subst NamesRise (mapped all) (all_rises nat_list_cmp_total itself a b out all l r h e)

pub names_of_both : (a b out all l r : List (List ℕ)) → IsNameWalk a b out l r → length l ≡ 0 → all ≡ out ++ r → (name : List ℕ) → Contains all name ↔ (Contains a name ⊎ Contains b name)
names_of_both a b out all l r h nl e = all_of_either nat_list_cmp_total itself a b out all l r h nl e
