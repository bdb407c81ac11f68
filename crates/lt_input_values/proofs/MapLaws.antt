-- What maps and sets by places and names have behind a change.
use Rattle.std.proofs.Common.{◌≡◌, ℕ, ℤ, ◌==◌, Bool, true, false, cond, List, Option, Some, refl, ap, ◌∙◌}
use Rattle.std.specs.Prelude.{◌&&◌, ◌||◌, option_map}
use Rattle.std.specs.Borrow.{Bor}
use Rattle.std.specs.HashMap.{HashMap, get_by}
use Rattle.std.specs.HashSet.{HashSet, contains_by}
use Rattle.std.specs.Str.{bytes_eq}
use Rattle.lt_model.specs.declared.input.CellSet.{CellSet}
use Rattle.lt_model.specs.declared.input.FreeCell.{FreeCell}
use Rattle.lt_model.specs.declared.input.Place.{Place}
use Rattle.lt_model.specs.declared.input.StubSet.{StubSet}
use Rattle.lt_entry.specs.Conditions.{same_place}
use Rattle.lt_input_values.specs.Maps.{Key, is_key_of, set_at, free_at, has_place, values_for, has_name}

-- the key of a place, lent as another is
key_at : Bor (List ℕ) → Place → Key
key_at name place = (record name { now = place.root }, place.offset)

abbrev pub is_key : Key → Key → Bool
is_key q key = bytes_eq q.0.now key.0.now && (q.1 == key.1)

mapped : {A B : Type 0} (f : A → B) (t : Bool) (a : A) (o : Option A) → option_map f (cond t (Some a) o) ≡ cond t (Some (f a)) (option_map f o)
mapped f true a o = refl
mapped f false a o = refl

pub set_at_more : {S : Type 0} (old new : HashMap Key (Bor CellSet) S) (name : Bor (List ℕ)) (offset : ℕ) (it : Bor CellSet) (at : Place) → name.now ≡ at.root → offset ≡ at.offset → ((q : Key) → get_by (is_key q) new ≡ cond (bytes_eq name.now q.0.now && (offset == q.1)) (Some it) (get_by (is_key q) old)) → (place : Place) → set_at new place ≡ cond (same_place at place) (Some it.now) (set_at old place)
unfolding key_at
set_at_more old new name offset it at e f updates place =
    ap (option_map (λ it. it.now)) (updates (key_at name place)) ∙ mapped (λ (it : Bor CellSet). it.now) (bytes_eq name.now place.root && (offset == place.offset)) it (get_by (is_key_of place) old)
    ∙ rw (e, f) refl

pub free_at_more : {S : Type 0} (old new : HashMap Key (Bor FreeCell) S) (name : Bor (List ℕ)) (offset : ℕ) (it : Bor FreeCell) (at : Place) → name.now ≡ at.root → offset ≡ at.offset → ((q : Key) → get_by (is_key q) new ≡ cond (bytes_eq name.now q.0.now && (offset == q.1)) (Some it) (get_by (is_key q) old)) → (place : Place) → free_at new place ≡ cond (same_place at place) (Some it.now) (free_at old place)
unfolding key_at
free_at_more old new name offset it at e f updates place =
    ap (option_map (λ it. it.now)) (updates (key_at name place)) ∙ mapped (λ (it : Bor FreeCell). it.now) (bytes_eq name.now place.root && (offset == place.offset)) it (get_by (is_key_of place) old)
    ∙ rw (e, f) refl

or_cond : (t u : Bool) → cond t true u ≡ (t || u)
or_cond true u = refl
or_cond false u = refl

pub has_place_more : {S : Type 0} (old new : HashSet Key S) (name : Bor (List ℕ)) (offset : ℕ) (at : Place) → name.now ≡ at.root → offset ≡ at.offset → ((q : Key) → contains_by (is_key q) new ≡ cond (bytes_eq name.now q.0.now && (offset == q.1)) true (contains_by (is_key q) old)) → (place : Place) → has_place new place ≡ (same_place at place || has_place old place)
unfolding key_at
has_place_more old new name offset at e f updates place = updates (key_at name place) ∙ rw (e, f) (or_cond (same_place at place) (has_place old place))

abbrev pub same_name : Bor (List ℕ) → Bor (List ℕ) → Bool
same_name q key = bytes_eq q.now key.now

pub values_for_more : {S : Type 0} (old new : HashMap (Bor (List ℕ)) (Bor StubSet) S) (name : Bor (List ℕ)) (it : Bor StubSet) (bytes : List ℕ) → name.now ≡ bytes → ((q : Bor (List ℕ)) → get_by (same_name q) new ≡ cond (bytes_eq name.now q.now) (Some it) (get_by (same_name q) old)) → (other : List ℕ) → values_for new other ≡ cond (bytes_eq bytes other) (Some it.now) (values_for old other)
values_for_more old new name it bytes e updates other =
    ap (option_map (λ it. it.now)) (updates (record name { now = other })) ∙ mapped (λ (it : Bor StubSet). it.now) (bytes_eq name.now other) it (get_by (λ key. bytes_eq other key.now) old) ∙ rw e refl

pub has_name_more : {S : Type 0} (old new : HashSet (Bor (List ℕ)) S) (name : Bor (List ℕ)) (bytes : List ℕ) → name.now ≡ bytes → ((q : Bor (List ℕ)) → contains_by (same_name q) new ≡ cond (bytes_eq name.now q.now) true (contains_by (same_name q) old)) → (other : List ℕ) → has_name new other ≡ (bytes_eq bytes other || has_name old other)
has_name_more old new name bytes e updates other = updates (record name { now = other }) ∙ rw e (or_cond (bytes_eq bytes other) (has_name old other))

pub bounds_more : {S : Type 0} (old new : HashMap (Bor (List ℕ)) (ℤ × ℤ) S) (name : Bor (List ℕ)) (put : ℤ × ℤ) (bytes : List ℕ) → name.now ≡ bytes → ((q : Bor (List ℕ)) → get_by (same_name q) new ≡ cond (bytes_eq name.now q.now) (Some put) (get_by (same_name q) old)) → (other : List ℕ) → get_by (λ key. bytes_eq other key.now) new ≡ cond (bytes_eq bytes other) (Some put) (get_by (λ key. bytes_eq other key.now) old)
bounds_more old new name put bytes e updates other = updates (record name { now = other }) ∙ rw e refl
