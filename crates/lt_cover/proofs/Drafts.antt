-- Tests, labels and hyperlabels against those so far.
use Rattle.std.proofs.Common.{◌≡◌, ℕ, suc, ◌+◌, ◌-◌, ◌<◌, ◌≤◌, Bool, true, false, cond, List, [], ◌∷◌, length, get_or, map, take, refl, sym, ap, subst, ◌∙◌, arith, Result, Ok, Err, inl, inr}
use Rattle.std.specs.Prelude.{All, Contains, IsTrue, ◌==◌, nat_lt}
use Rattle.std.specs.Result.{is_ok}
use Rattle.std.specs.Ordering.{nat_cmp, is_lt, ordering_index, ordering_reverse, is_eq}
use Rattle.std.specs.Cmp.{IsTotalOrder}
use Rattle.std.specs.Cmp.Lexicographic.{slice_cmp, texts_ties, same_text}
use Rattle.std.specs.declared.cmp.Ordering.{Ordering}
use Rattle.std.specs.declared.cmp.Ordering.TheVariants.{Less, Equal, Greater}
use Rattle.std.specs.List.Sorted.{IsStrictlySortedBy, IsSortedBy, IsSearchInRange, IsBinarySearchResult}
use Rattle.std.proofs.lemmas.Bool.{false≢true}
use Rattle.std.proofs.lemmas.Cmp.{nat_list_cmp_total, tied_itself}
use Rattle.std.proofs.lemmas.List.{length-map, get_or_default, take_all}
use Rattle.std.proofs.lemmas.Bool.Decides.{nat_tests}
use Rattle.std.proofs.lemmas.Bool.{cases_lt}
use Rattle.std.proofs.lemmas.List.Sorted.{searchable_from_sorted}
use Rattle.std.proofs.lemmas.List.Elements.{All-more}
use Rattle.std.proofs.Math.ListN.{get_or-map}
use Rattle.lt_cover.specs.declared.rows.TestRow.{TestRow}
use Rattle.lt_cover.specs.Coverage.Table.{NamesRise, names_of}
use Rattle.lt_cover.specs.Coverage.Rows.{IsBelowName}
use Rattle.lt_cover.proofs.Rising.{rise_at, rise_below}

pub same_name : (a b : List ℕ) → slice_cmp nat_cmp a b ≡ Equal → a ≡ b
same_name a b e = same_text a b (sym (texts_ties a b ∙ ap is_eq e))

abbrev name_of : TestRow → List ℕ
name_of t = t.name

abbrev against : List ℕ → TestRow → Ordering
against name t = slice_cmp nat_cmp t.name name

name_at : (tests : List TestRow) (i : ℕ) (d : TestRow) → get_or (names_of tests) i d.name ≡ (get_or tests i d).name
name_at tests i d = get_or-map name_of tests i d

sorted : (tests : List TestRow) → NamesRise (names_of tests) → IsSortedBy (λ a b. is_lt (slice_cmp nat_cmp a.name b.name)) tests
sorted tests h k d low within =
    let less : slice_cmp nat_cmp (get_or (names_of tests) k d.name) (get_or (names_of tests) (suc k) d.name) ≡ Less = rise_at (slice_cmp nat_cmp) (names_of tests) k d.name h (omega (arith, length-map tests name_of)) in
    let less' : slice_cmp nat_cmp (get_or tests k d).name (get_or tests (suc k) d).name ≡ Less = rw (name_at tests k d, name_at tests (suc k) d) at less in
    let back : slice_cmp nat_cmp (get_or tests (suc k) d).name (get_or tests k d).name ≡ Greater = nat_list_cmp_total.antisymm (get_or tests (suc k) d).name (get_or tests k d).name ∙ ap ordering_reverse less' in
    subst (λ (n : ℕ). is_lt (slice_cmp nat_cmp (get_or tests n d).name (get_or tests k d).name) ≡ false) {x = suc k} {y = k + 1} (omega arith) (ap is_lt back)

equal_self : (name : List ℕ) → slice_cmp nat_cmp name name ≡ Equal
equal_self name = tied_itself nat_list_cmp_total name

not_between : (o : Ordering) → o ≡ Equal → o ≡ Less → ⊥
not_between o a b = absurd (omega (arith, ap ordering_index a, ap ordering_index b))

not_above : (o : Ordering) → o ≡ Equal → o ≡ Greater → ⊥
not_above o a b = absurd (omega (arith, ap ordering_index a, ap ordering_index b))

tests_at : (tests : List TestRow) (name : List ℕ) → Contains (names_of tests) name → (k : ℕ) × (t : TestRow) × (k < length tests) × (get_or tests k t).name ≡ name
tests_at [] name h = absurd (omega (arith, h.1))
tests_at (t ∷ tests) name h =
    let e : (get_or (t ∷ tests) h.0 t).name ≡ name = sym (name_at (t ∷ tests) h.0 t) ∙ (default (names_of (t ∷ tests)) h.0 t.name name h.1 ∙ h.2) in
    (h.0, t, omega (arith, h.1, length-map tests name_of), e)
  where
    default : (xs : List (List ℕ)) (i : ℕ) (d e : List ℕ) → i < length xs → get_or xs i d ≡ get_or xs i e
    default xs i d e h = get_or_default xs i d e h

contains_at : (tests : List TestRow) (name : List ℕ) (k : ℕ) (d : TestRow) → k < length tests → (get_or tests k d).name ≡ name → Contains (names_of tests) name
contains_at tests name k d within is =
    let inside : k < length (names_of tests) = omega (arith, length-map tests name_of) in
    (k, inside, get_or_default (names_of tests) k name d.name inside ∙ (name_at tests k d ∙ is))

searched : (tests : List TestRow) (name : List ℕ) (r : Result ℕ ℕ) → NamesRise (names_of tests) → IsSearchInRange r (length tests) → IsBinarySearchResult (against name) tests r → (IsTrue (is_ok r) → Contains (names_of tests) name) × (Contains (names_of tests) name → IsTrue (is_ok r))
searched [] name (Ok k) rise within equal = absurd (omega (arith, within))
searched (t ∷ tests) name (Ok k) rise within equal = (λ _. contains_at (t ∷ tests) name k t within (same_name (get_or (t ∷ tests) k t).name name (equal t)), λ _. refl)
searched tests name (Err i) rise within parted = (
  λ bad. absurd (false≢true bad),
  λ h.
      let at = tests_at tests name h in
      let here : against name (get_or tests at.0 at.1) ≡ Equal = ap (λ n. slice_cmp nat_cmp n name) at.3 ∙ equal_self name in
      let point = parted (searchable_from_sorted nat_list_cmp_total name_of tests name (sorted tests rise)) in
      elim (cases_lt at.0 i) [
        | inl below ↦ absurd (not_between _ here (point.0 at.0 at.1 (omega arith) below))
        | inr above ↦ absurd (not_above _ here (point.1 at.0 at.1 above at.2))
      ],
)

pub is_test_told : (tests : List TestRow) (name : List ℕ) (r : Result ℕ ℕ) (b : Bool) → b ≡ is_ok r → NamesRise (names_of tests) → IsSearchInRange r (length tests) → IsBinarySearchResult (against name) tests r → (IsTrue b → Contains (names_of tests) name) × (Contains (names_of tests) name → IsTrue b)
is_test_told tests name r b e rise within found =
    let h = searched tests name r rise within found in
    (λ yes. h.0 (sym e ∙ yes), λ has. e ∙ h.1 has)

-- the last element tells whether all are below
module _ {X K : Type 0} {R : K → K → Ordering} (o : IsTotalOrder R) (key : X → K) where
  pub last_tells : (xs : List X) (y : K) (last : X) → IsStrictlySortedBy R (map key xs) → 0 < length xs → ((d : X) → last ≡ get_or xs (length xs - 1) d) → R (key last) y ≡ Less → All (λ z. R z y ≡ Less) (map key xs)
  last_tells xs y last rise some is less = rise_below o (map key xs) y rise (λ i d e.
      let same : i ≡ length xs - 1 = omega (arith, e, length-map xs key) in
      let place : get_or (map key xs) i d ≡ key last = ap (λ n. get_or (map key xs) n d) same ∙ (get_or_default (map key xs) (length xs - 1) d (key last) (omega (arith, length-map xs key)) ∙ (get_or-map key xs (length xs - 1) last ∙ ap key (sym (is last)))) in
      ap (λ z. R z y) place ∙ less)

  pub last_told : (xs : List X) (y : K) (last : X) → 0 < length xs → ((d : X) → last ≡ get_or xs (length xs - 1) d) → All (λ z. R z y ≡ Less) (map key xs) → R (key last) y ≡ Less
  last_told xs y last some is h =
      let place : get_or (map key xs) (length xs - 1) (key last) ≡ key last = get_or-map key xs (length xs - 1) last ∙ ap key (sym (is last)) in
      ap (λ z. R z y) (sym place) ∙ h (length xs - 1) (key last) (omega (arith, length-map xs key))

pub lt_less : (x y : ℕ) → nat_lt x y ≡ true → nat_cmp x y ≡ Less
lt_less x y h = ap (λ b. cond b Less (cond (x == y) Equal Greater)) h

pub less_lt : (x y : ℕ) → nat_cmp x y ≡ Less → nat_lt x y ≡ true
less_lt x y h = by (nat_lt x y) (x == y) h
  where
    by : (b e : Bool) → cond b Less (cond e Equal Greater) ≡ Less → b ≡ true
    by true e k = refl
    by false true k = absurd (omega (arith, ap ordering_index k))
    by false false k = absurd (omega (arith, ap ordering_index k))

pub index_less : (r : Ordering) (b : Bool) → b ≡ (ordering_index r == 0) → b ≡ true → r ≡ Less
index_less Less b e h = refl
index_less Equal b e h = absurd (false≢true (sym e ∙ h))
index_less Greater b e h = absurd (false≢true (sym e ∙ h))

pub less_index : (r : Ordering) (b : Bool) → b ≡ (ordering_index r == 0) → r ≡ Less → b ≡ true
less_index r b e h = e ∙ ap (λ z. ordering_index z == 0) h

pub nil_if : {X : Type 0} (xs ys : List X) → ys ≡ xs → true ≡ (length ys == 0) → xs ≡ []
nil_if xs [] e h = sym e
nil_if xs (y ∷ ys) e h = absurd (grind (arith, nat_tests))

pub not_nil : {X : Type 0} (xs ys : List X) → ys ≡ xs → false ≡ (length ys == 0) → xs ≡ [] → ⊥
not_nil xs [] e h n = false≢true h
not_nil xs (y ∷ ys) e h n = absurd (omega (arith, ap length (e ∙ n)))

pub known_more : (tests : List TestRow) (names : List (List ℕ)) (i : ℕ) (name slice : List ℕ) → i < length names → name ≡ get_or names i name → slice ≡ name → Contains (names_of tests) slice → All (λ n. Contains (names_of tests) n) (take i names) → All (λ n. Contains (names_of tests) n) (take (i + 1) names)
known_more tests names i name slice within is same here h =
    All-more (λ n. Contains (names_of tests) n) names i name within h (subst (λ (n : List ℕ). Contains (names_of tests) n) (same ∙ is) here)

pub known_at : (tests : List TestRow) (names : List (List ℕ)) (i : ℕ) (name slice : List ℕ) → i < length names → name ≡ get_or names i name → slice ≡ name → All (λ n. Contains (names_of tests) n) names → Contains (names_of tests) slice
known_at tests names i name slice within is same h = subst (λ (n : List ℕ). Contains (names_of tests) n) (sym (same ∙ is)) (h i name within)

pub known_all : (tests : List TestRow) (names : List (List ℕ)) (i : ℕ) → length names ≤ i → All (λ n. Contains (names_of tests) n) (take i names) → All (λ n. Contains (names_of tests) n) names
known_all tests names i past h = subst (All (λ n. Contains (names_of tests) n)) (take_all i names past) h

pub known_as : (tests tests2 : List TestRow) (names names2 : List (List ℕ)) → tests ≡ tests2 → names ≡ names2 → All (λ n. Contains (names_of tests) n) names → All (λ n. Contains (names_of tests2) n) names2
known_as tests tests2 names names2 t n h = subst (λ (z : List (List ℕ)). All (λ n. Contains (names_of tests2) n) z) n (subst (λ (z : List TestRow). All (λ n. Contains (names_of z) n) names) t h)

pub above_as : (tests tests2 : List TestRow) (name name2 : List ℕ) → tests ≡ tests2 → name ≡ name2 → All (IsBelowName name) (names_of tests) → All (IsBelowName name2) (names_of tests2)
above_as tests tests2 name name2 t n h = subst (λ (z : List ℕ). All (IsBelowName z) (names_of tests2)) n (subst (λ (z : List TestRow). All (IsBelowName name) (names_of z)) t h)
