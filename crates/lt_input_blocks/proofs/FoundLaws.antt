-- What maps of names have where a name gets what it has first.
use Rattle.std.proofs.Common.{◌≡◌, ℕ, Bool, true, false, cond, List, Option, Some, None, refl, sym, ap, ◌∙◌}
use Rattle.std.specs.Prelude.{is_some}
use Rattle.std.specs.Borrow.{Bor}
use Rattle.std.specs.HashMap.{HashMap, get_by}
use Rattle.std.specs.Cmp.Lexicographic.{bytes_decides}
use Rattle.std.specs.Str.{bytes_eq}
use Rattle.lt_tree.specs.Typing.Entities.{or_else}
use Rattle.lt_input_names.specs.Found.{found_in}

abbrev pub same_name : Bor (List ℕ) → Bor (List ℕ) → Bool
same_name q key = bytes_eq q.now key.now

first_put : {V : Type 0} (v : V) (t : Bool) (o : Option V) → (t ≡ true → is_some o ≡ false) → cond t (Some v) o ≡ or_else o (cond t (Some v) None)
first_put v true None h = refl
first_put v true (Some u) h = absurd (let e : true ≡ false = h refl in cc)
first_put v false None h = refl
first_put v false (Some u) h = refl

first_kept : {V : Type 0} (v : V) (t : Bool) (o : Option V) → (t ≡ true → is_some o ≡ true) → o ≡ or_else o (cond t (Some v) None)
first_kept v true None h = absurd (let e : false ≡ true = h refl in cc)
first_kept v true (Some u) h = refl
first_kept v false None h = refl
first_kept v false (Some u) h = refl

pub found_put : {V S : Type 0} (old new : HashMap (Bor (List ℕ)) V S) (name : Bor (List ℕ)) (v : V) → is_some (found_in old name.now) ≡ false
    → ((q : Bor (List ℕ)) → get_by (same_name q) new ≡ cond (bytes_eq name.now q.now) (Some v) (get_by (same_name q) old))
    → (w : List ℕ) → found_in new w ≡ or_else (found_in old w) (cond (bytes_eq name.now w) (Some v) None)
found_put old new name v absent updates w =
    updates (record name { now = w })
    ∙ first_put v (bytes_eq name.now w) (found_in old w) (λ h. ap (λ bytes. is_some (found_in old bytes)) (sym ((bytes_decides name.now w).0 h)) ∙ absent)

pub found_kept : {V S : Type 0} (old : HashMap (Bor (List ℕ)) V S) (name : Bor (List ℕ)) (v : V) → is_some (found_in old name.now) ≡ true
    → (w : List ℕ) → found_in old w ≡ or_else (found_in old w) (cond (bytes_eq name.now w) (Some v) None)
found_kept old name v there w =
    first_kept v (bytes_eq name.now w) (found_in old w) (λ h. ap (λ bytes. is_some (found_in old bytes)) (sym ((bytes_decides name.now w).0 h)) ∙ there)
