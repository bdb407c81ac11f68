-- What maps and sets by places and names have behind a change.
use Rattle.std.proofs.Common.{◌≡◌, ℕ, ◌==◌, Bool, true, false, cond, List, Option, Some, None, refl, sym, ap, ◌∙◌, arith}
use Rattle.std.specs.Prelude.{◌&&◌, ◌||◌, is_some, if◌then◌else◌}
use Rattle.std.specs.Borrow.{Bor}
use Rattle.std.specs.HashMap.{HashMap, get_by}
use Rattle.std.specs.HashSet.{HashSet, contains_by}
use Rattle.std.specs.Str.{bytes_eq}
use Rattle.std.specs.Cmp.Lexicographic.{bytes_decides}
use Rattle.std.proofs.lemmas.Bool.Decides.{nat_tests}
use Rattle.lt_model.specs.declared.input.Place.{Place}
use Rattle.lt_tree.specs.Typing.Entities.{or_else}
use Rattle.lt_entry.specs.Conditions.{same_place}
use Rattle.lt_input_names.specs.Found.{found_in}
use Rattle.lt_input_names.specs.Stubs.{has_name}
use Rattle.lt_input_wants.specs.Places.{Key, has_place}
use Rattle.lt_input_wants.proofs.PlaceMaps.{is_key, first_put, or_cond, has_place_more}

-- ---- places

abbrev pub at : List ℕ → ℕ → Place
at root offset = record { root = root; offset = offset }

or_false : (a : Bool) → (a || false) ≡ a
or_false true = refl
or_false false = refl

or_true : (a : Bool) → (a || true) ≡ true
or_true true = refl
or_true false = refl

or_comm : (a b : Bool) → (a || b) ≡ (b || a)
or_comm true b = sym (or_true b)
or_comm false b = sym (or_false b)

-- a set has one place more
pub place_more : {S : Type 0} (old new : HashSet Key S) (name : Bor (List ℕ)) (offset : ℕ) → ((q : Key) → contains_by (is_key q) new ≡ cond (bytes_eq name.now q.0.now && (offset == q.1)) true (contains_by (is_key q) old))
    → (place : Place) → has_place new place ≡ (has_place old place || same_place (at name.now offset) place)
place_more old new name offset updates place = has_place_more old new name offset updates place ∙ or_comm (same_place (at name.now offset) place) (has_place old place)

-- ---- names

abbrev pub same_name : Bor (List ℕ) → Bor (List ℕ) → Bool
same_name q key = bytes_eq q.now key.now

-- a name gets what it has first
pub put_in : {V S : Type 0} (old new : HashMap (Bor (List ℕ)) V S) (name : Bor (List ℕ)) (v : V) → is_some (found_in old name.now) ≡ false
    → ((q : Bor (List ℕ)) → get_by (same_name q) new ≡ cond (bytes_eq name.now q.now) (Some v) (get_by (same_name q) old))
    → (w : List ℕ) → found_in new w ≡ or_else (found_in old w) (cond (bytes_eq name.now w) (Some v) None)
put_in old new name v absent updates w =
    updates (record name { now = w })
    ∙ first_put v (bytes_eq name.now w) (found_in old w) (λ h. ap (λ bytes. is_some (found_in old bytes)) (sym ((bytes_decides name.now w).0 h)) ∙ absent)

-- a set has one name more
pub name_more : {S : Type 0} (old new : HashSet (Bor (List ℕ)) S) (name : Bor (List ℕ)) (bytes : List ℕ) → name.now ≡ bytes → ((q : Bor (List ℕ)) → contains_by (same_name q) new ≡ cond (bytes_eq name.now q.now) true (contains_by (same_name q) old))
    → (other : List ℕ) → has_name new other ≡ (has_name old other || bytes_eq bytes other)
name_more old new name bytes e updates other =
    updates (record name { now = other }) ∙ rw e (or_cond (bytes_eq bytes other) (has_name old other)) ∙ or_comm (bytes_eq bytes other) (has_name old other)
