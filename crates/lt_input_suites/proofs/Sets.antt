-- What sets of names have behind a change.
use Rattle.std.proofs.Common.{◌≡◌, ℕ, ◌==◌, Bool, true, false, cond, List, refl, ◌∙◌}
use Rattle.std.specs.Prelude.{◌&&◌, ◌||◌, not}
use Rattle.std.specs.Borrow.{Bor}
use Rattle.std.specs.HashSet.{HashSet, contains_by}
use Rattle.std.specs.Str.{bytes_eq}
use Rattle.lt_input_names.specs.Stubs.{has_name}
use Rattle.lt_input_wants.proofs.PlaceMaps.{or_cond}

pub or_comm : (a b : Bool) → (a || b) ≡ (b || a)
or_comm true true = refl
or_comm true false = refl
or_comm false true = refl
or_comm false false = refl

pub not_false : (a : Bool) → not a ≡ false → a ≡ true
not_false true h = refl
not_false false h = absurd (cc)

pub not_true : (a : Bool) → not a ≡ true → a ≡ false
not_true true h = absurd (cc)
not_true false h = refl

abbrev pub same_name : Bor (List ℕ) → Bor (List ℕ) → Bool
same_name q key = bytes_eq q.now key.now

pub has_name_more : {S : Type 0} (old new : HashSet (Bor (List ℕ)) S) (name : Bor (List ℕ)) → ((q : Bor (List ℕ)) → contains_by (same_name q) new ≡ cond (bytes_eq name.now q.now) true (contains_by (same_name q) old)) → (other : List ℕ) → has_name new other ≡ (bytes_eq name.now other || has_name old other)
has_name_more old new name updates other = updates (record name { now = other }) ∙ or_cond (bytes_eq name.now other) (has_name old other)
