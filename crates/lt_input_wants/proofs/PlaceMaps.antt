-- What maps and sets have for places behind a change.
use Rattle.std.proofs.Common.{◌≡◌, ℕ, ◌==◌, Bool, true, false, cond, List, Option, Some, None, refl, sym, ap, ◌∙◌, arith}
use Rattle.std.specs.Prelude.{◌&&◌, ◌||◌, is_some, if◌then◌else◌}
use Rattle.std.specs.Borrow.{Bor}
use Rattle.std.specs.HashMap.{HashMap, get_by}
use Rattle.std.specs.HashSet.{HashSet, contains_by}
use Rattle.std.specs.Str.{bytes_eq}
use Rattle.std.specs.Cmp.Lexicographic.{bytes_decides}
use Rattle.std.proofs.lemmas.Bool.Decides.{nat_tests}
use Rattle.lt_model.specs.declared.input.Place.{Place}
use Rattle.lt_tree.specs.Typing.Entities.{or_else}
use Rattle.lt_entry.specs.Conditions.{same_place}
use Rattle.lt_entry.proofs.PieceLaws.{both}
use Rattle.lt_input_wants.specs.Places.{Key, is_key_of, found_at, has_place}

abbrev pub at : List ℕ → ℕ → Place
at root offset = record { root = root; offset = offset }

-- the key of a place, lent as another is
pub key_at : Bor (List ℕ) → Place → Key
key_at name place = (record name { now = place.root }, place.offset)

abbrev pub is_key : Key → Key → Bool
is_key q key = bytes_eq q.0.now key.0.now && (q.1 == key.1)

-- ---- maps

same_offset : (m n : ℕ) → (m == n) ≡ true → m ≡ n
same_offset m n h = grind (arith, nat_tests)

same_is : (p q : Place) → same_place p q ≡ true → p ≡ q
same_is p q h =
    let hs = both (bytes_eq p.root q.root) (p.offset == q.offset) h in
    let root : p.root ≡ q.root = (bytes_decides p.root q.root).0 hs.0 in
    let offset : p.offset ≡ q.offset = same_offset p.offset q.offset hs.1 in
    ap (λ r. at r p.offset) root ∙ ap (at q.root) offset

pub first_put : {V : Type 0} (v : V) (t : Bool) (o : Option V) → (t ≡ true → is_some o ≡ false) → cond t (Some v) o ≡ or_else o (cond t (Some v) None)
first_put v true None h = refl
first_put v true (Some u) h = absurd (let e : true ≡ false = h refl in cc)
first_put v false None h = refl
first_put v false (Some u) h = refl

first_kept : {V : Type 0} (v : V) (t : Bool) (o : Option V) → (t ≡ true → is_some o ≡ true) → o ≡ or_else o (cond t (Some v) None)
first_kept v true None h = absurd (let e : false ≡ true = h refl in cc)
first_kept v true (Some u) h = refl
first_kept v false None h = refl
first_kept v false (Some u) h = refl

-- a place gets what it has first
pub put_at : {V S : Type 0} (old new : HashMap Key V S) (name : Bor (List ℕ)) (offset : ℕ) (v : V) → is_some (found_at old (at name.now offset)) ≡ false
    → ((q : Key) → get_by (is_key q) new ≡ cond (bytes_eq name.now q.0.now && (offset == q.1)) (Some v) (get_by (is_key q) old))
    → (place : Place) → found_at new place ≡ or_else (found_at old place) (if same_place (at name.now offset) place then Some v else None)
unfolding key_at
put_at old new name offset v absent updates place =
    updates (key_at name place)
    ∙ first_put v (same_place (at name.now offset) place) (found_at old place) (λ h. ap (λ p. is_some (found_at old p)) (sym (same_is (at name.now offset) place h)) ∙ absent)

-- it keeps what it has
pub kept_at : {V S : Type 0} (old : HashMap Key V S) (name : List ℕ) (offset : ℕ) (v : V) → is_some (found_at old (at name offset)) ≡ true
    → (place : Place) → found_at old place ≡ or_else (found_at old place) (if same_place (at name offset) place then Some v else None)
kept_at old name offset v there place =
    first_kept v (same_place (at name offset) place) (found_at old place) (λ h. ap (λ p. is_some (found_at old p)) (sym (same_is (at name offset) place h)) ∙ there)

-- ---- sets

pub or_cond : (t u : Bool) → cond t true u ≡ (t || u)
or_cond true u = refl
or_cond false u = refl

-- a set has one place more
pub has_place_more : {S : Type 0} (old new : HashSet Key S) (name : Bor (List ℕ)) (offset : ℕ) → ((q : Key) → contains_by (is_key q) new ≡ cond (bytes_eq name.now q.0.now && (offset == q.1)) true (contains_by (is_key q) old))
    → (place : Place) → has_place new place ≡ (same_place (at name.now offset) place || has_place old place)
unfolding key_at
has_place_more old new name offset updates place =
    updates (key_at name place) ∙ or_cond (bytes_eq name.now place.root && (offset == place.offset)) (has_place old place)
