-- Names of functions without a body, and the places of their values.
use Rattle.std.proofs.Common.{◌≡◌, ℕ, zero, suc, ◌+◌, ◌<◌, ◌≤◌, ℤ, pos, List, [], ◌∷◌, ◌++◌, length, get_or, set, drop, drop-cons, take, take-suc, map, Option, Some, None, Bor, Bool, true, false, cond, refl, sym, ap, ap₂, ◌∙◌, arith, ◌⊎◌, inl, inr, add-one, drop_of_length-le}
use Rattle.std.proofs.lemmas.Option.{slice_get_past, slice_get-get_or}
use Rattle.std.specs.Prelude.{if◌then◌else◌, option_map, slice_get, IfNone}
use Rattle.std.specs.Str.{bytes_eq}
use Rattle.std.specs.Ordering.{nat_cmp}
use Rattle.std.specs.Cmp.Lexicographic.{slice_cmp}
use Rattle.std.specs.BTreeMap as tree
use Rattle.std.specs.BTreeMap.{BTreeMap}
use Rattle.std.proofs.lemmas.Map.Text.{btree_map_updates_str}
use Rattle.lt_model.specs.declared.input.StubSet.{StubSet}
use Rattle.lt_model.specs.State.{Left}
use Rattle.lt_ir.specs.Starting.{lefts_of}
use Rattle.lt_ir.specs.Prepared.{place_of, value_at, value_of, first_of}
use Rattle.lt_mach_parts.specs.Stubs.{left_of, lefts_after, with_left, place_from, found, ArePlacesFrom}

-- the places after one was put in
pub found_after : (old new : BTreeMap (Bor (List ℕ)) ℕ) (name : Bor (List ℕ)) (place : ℕ) → tree.Updates (λ x y. slice_cmp nat_cmp x.now y.now) old new name (Some place) → (q : List ℕ) → found new q ≡ cond (bytes_eq name.now q) (Some place) (found old q)
found_after old new name place h q = btree_map_updates_str name.now old new (Some place) h q

-- one more set in front
pub one_placed : (sets : List StubSet) (p place : ℕ) (d : StubSet) (old new : BTreeMap (Bor (List ℕ)) ℕ) → place ≡ suc p → place ≤ length sets → ArePlacesFrom place (drop place sets) old
    → ((q : List ℕ) → found new q ≡ (if bytes_eq (get_or sets p d).name q then Some p else found old q)) → ArePlacesFrom p (drop p sets) new
one_placed sets p place d old new e h are put q =
    let within : p < length sets = omega arith in
    put q ∙ ap (λ o. if bytes_eq (get_or sets p d).name q then Some p else o) (are q ∙ ap (λ n. place_from n (drop n sets) q) e) ∙ ap (λ rest. place_from p rest q) (sym (drop-cons sets p d within))

shifted : (n : ℕ) (sets : List StubSet) (q : List ℕ) → place_from (suc n) sets q ≡ option_map suc (place_from n sets q)
shifted n [] q = refl
shifted n (it ∷ sets) q = here (bytes_eq it.name q) (shifted (suc n) sets q)
  where
    here : (b : Bool) → place_from (suc (suc n)) sets q ≡ option_map suc (place_from (suc n) sets q) → (if b then Some (suc n) else place_from (suc (suc n)) sets q) ≡ option_map suc (if b then Some n else place_from (suc n) sets q)
    here true below = refl
    here false below = below

pub place_is : (sets : List StubSet) (q : List ℕ) → place_from 0 sets q ≡ place_of q (lefts_of sets)
place_is [] q = refl
place_is (it ∷ sets) q = ap (λ o. if bytes_eq it.name q then Some 0 else o) (shifted 0 sets q ∙ ap (option_map suc) (place_is sets q))

-- ---- values taken

none_there : (lefts : List Left) (k : ℕ) → length lefts ≤ k → slice_get lefts k ≡ None
none_there lefts k h = slice_get_past lefts k h

fewer : (sets : List StubSet) (ns : List ℕ) (k : ℕ) → (length sets ≤ k) ⊎ (length ns ≤ k) → length (lefts_after sets ns) ≤ k
fewer [] ns k h = omega arith
fewer (it ∷ sets) [] k h = omega arith
fewer (it ∷ sets) (n ∷ ns) zero (inl h) = absurd (omega arith)
fewer (it ∷ sets) (n ∷ ns) zero (inr h) = absurd (omega arith)
fewer (it ∷ sets) (n ∷ ns) (suc k) (inl h) = let below = fewer sets ns k (inl (omega arith)) in omega arith
fewer (it ∷ sets) (n ∷ ns) (suc k) (inr h) = let below = fewer sets ns k (inr (omega arith)) in omega arith

pub none_at : (sets : List StubSet) (ns : List ℕ) (k : ℕ) → (length sets ≤ k) ⊎ (length ns ≤ k) → value_at (Some k) (lefts_after sets ns) ≡ None
none_at sets ns k h = ap (λ o. value_of o k (lefts_after sets ns)) (none_there (lefts_after sets ns) k (fewer sets ns k h))

at_place : (sets : List StubSet) (ns : List ℕ) (k : ℕ) (d : StubSet) (e : ℕ) → k < length sets → k < length ns → slice_get (lefts_after sets ns) k ≡ Some (left_of (get_or sets k d) (get_or ns k e))
at_place [] ns k d e h i = absurd (omega arith)
at_place (it ∷ sets) [] k d e h i = absurd (omega arith)
at_place (it ∷ sets) (n ∷ ns) zero d e h i = refl
at_place (it ∷ sets) (n ∷ ns) (suc k) d e h i = at_place sets ns k d e (omega arith) (omega arith)

put_at : (sets : List StubSet) (ns : List ℕ) (k m : ℕ) (d : StubSet) → k < length sets → lefts_after sets (set ns k m) ≡ set (lefts_after sets ns) k (left_of (get_or sets k d) m)
put_at [] ns k m d h = absurd (omega arith)
put_at (it ∷ sets) [] k m d h = refl
put_at (it ∷ sets) (n ∷ ns) zero m d h = refl
put_at (it ∷ sets) (n ∷ ns) (suc k) m d h = ap (λ lefts. left_of it n ∷ lefts) (put_at sets ns k m d (omega arith))

module _ (sets : List StubSet) (ns : List ℕ) (k : ℕ) (d : StubSet) (e : ℕ) (h : k < length sets) (i : k < length ns) where
  abbrev values : List ℤ
  values = (get_or sets k d).values

  abbrev count : ℕ
  count = get_or ns k e

  -- no value is left at a place
  pub none_left_at : length values ≤ count → value_at (Some k) (lefts_after sets ns) ≡ None
  none_left_at none = ap (λ o. value_of o k (lefts_after sets ns)) (at_place sets ns k d e h i) ∙ ap (first_of (left_of (get_or sets k d) count) k (lefts_after sets ns)) (drop_of_length-le values none)

  -- a value is taken at a place
  pub taken_at : (o : Option ℤ) → o ≡ slice_get values count → count < length values → value_at (Some k) (lefts_after sets ns) ≡ with_left o (lefts_after sets (set ns k (count + 1)))
  taken_at o is there =
      ap (λ o. value_of o k (lefts_after sets ns)) (at_place sets ns k d e h i)
      ∙ ap (first_of (left_of (get_or sets k d) count) k (lefts_after sets ns)) (drop-cons values count (pos 0) there)
      ∙ ap (λ lefts. Some (get_or values count (pos 0), lefts)) (ap (λ m. set (lefts_after sets ns) k (left_of (get_or sets k d) m)) (sym (add-one count)) ∙ sym (put_at sets ns k (count + 1) d h))
      ∙ ap (λ o. with_left o (lefts_after sets (set ns k (count + 1)))) (sym (is ∙ slice_get-get_or values count (pos 0) there))

  pub none_now : (n : ℕ) (vs : List ℤ) → n ≡ count → vs ≡ values → length vs ≤ n → value_at (Some k) (lefts_after sets ns) ≡ None
  none_now n vs same are none = none_left_at (let a : length vs ≡ length values = ap length are in omega arith)

  pub taken_now : (n : ℕ) (vs : List ℤ) (o : Option ℤ) → n ≡ count → vs ≡ values → o ≡ slice_get vs n → n < length vs → value_at (Some k) (lefts_after sets ns) ≡ with_left o (lefts_after sets (set ns k (n + 1)))
  taken_now n vs o same are is there =
      taken_at o (is ∙ ap₂ slice_get are same) (let a : length vs ≡ length values = ap length are in omega arith)
      ∙ ap (λ m. with_left o (lefts_after sets (set ns k (m + 1)))) (sym same)

pub not_none : (P : Type 0) (o : Option ℤ) (values : List ℤ) (n : ℕ) → o ≡ slice_get values n → n < length values → IfNone o P
not_none P None values n is there = absurd (let e = is ∙ slice_get-get_or values n (pos 0) there in cc)
not_none P (Some z) values n is there = tt

-- names keep their places
pub places_kept : (sets : List StubSet) (ns : List ℕ) (k m : ℕ) (name : List ℕ) → place_of name (lefts_after sets (set ns k m)) ≡ place_of name (lefts_after sets ns)
places_kept [] ns k m name = refl
places_kept (it ∷ sets) [] k m name = refl
places_kept (it ∷ sets) (n ∷ ns) zero m name = refl
places_kept (it ∷ sets) (n ∷ ns) (suc k) m name = ap (λ o. if bytes_eq it.name name then Some 0 else option_map suc o) (places_kept sets ns k m name)

-- at first all are left
pub all_left : (sets : List StubSet) → lefts_after sets (map (λ (it : StubSet). 0) sets) ≡ lefts_of sets
all_left [] = refl
all_left (it ∷ sets) = ap (λ lefts. left_of it 0 ∷ lefts) (all_left sets)

pub places_are : (sets : List StubSet) (names : List (List ℕ)) → map (place_from 0 sets) names ≡ map (λ name. place_of name (lefts_of sets)) names
places_are sets [] = refl
places_are sets (name ∷ names) = ap₂ (λ o os. o ∷ os) (place_is sets name) (places_are sets names)
