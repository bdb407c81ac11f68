-- What stands in a list, and what a filter keeps of it.
use Rattle.std.proofs.Common.{◌≡◌, ℕ, suc, zero, Bool, true, false, cond, List, [], ◌∷◌, ◌++◌, map, refl, sym, ap, ◌∙◌, arith, inl, inr}
use Rattle.std.specs.Prelude.{Contains, ◌⊎◌, ◌↔◌, filter}
use Rattle.std.specs.List.{list_any}
use Rattle.std.specs.Str.{bytes_eq}
use Rattle.std.proofs.lemmas.Bool.{false≢true}
use Rattle.std.proofs.lemmas.Cmp.{nat_list_eq_equiv}
use Rattle.std.proofs.lemmas.Slice.Eq.{bytes_eq-Decides}
use Rattle.std.proofs.lemmas.List.{length-map}
use Rattle.std.proofs.lemmas.List.Elements.{All-contains, filter_passes, Contains-append_left, Contains-append_right, Contains-append_cases}
use Rattle.std.proofs.lemmas.Map.Views.{list_any-from_Contains, Contains-from_any}
use Rattle.std.proofs.Math.ListN.{get_or-map}

pub first_of : {X : Type 0} (x : X) (xs : List X) (z : X) → x ≡ z → Contains (x ∷ xs) z
first_of x xs z e = (0, omega arith, e)

pub behind_of : {X : Type 0} (x : X) (xs : List X) (z : X) → Contains xs z → Contains (x ∷ xs) z
behind_of x xs z k = Contains-append_right (x ∷ []) xs z k

pub first_or_behind : {X : Type 0} (x : X) (xs : List X) (z : X) → Contains (x ∷ xs) z → (x ≡ z) ⊎ Contains xs z
first_or_behind x xs z (zero, within, is) = inl is
first_or_behind x xs z (suc i, within, is) = inr (i, omega (arith, within), is)

pub mapped : {X Y : Type 0} (f : X → Y) (xs : List X) (x : X) → Contains xs x → Contains (map f xs) (f x)
mapped f xs x k = (k.0, omega (arith, k.1, length-map xs f), get_or-map f xs k.0 x ∙ ap f k.2)

-- ---- filters

pub kept : {X : Type 0} (p : X → Bool) (xs : List X) (x : X) → Contains xs x → p x ≡ true → Contains (filter p xs) x
kept p [] x k h = absurd (omega (arith, k.1))
kept {X} p (y ∷ xs) x k h = by (p y) refl (kept p xs x) (first_or_behind y xs x k)
  where
    by : (t : Bool) → p y ≡ t → (Contains xs x → p x ≡ true → Contains (filter p xs) x) → (y ≡ x) ⊎ Contains xs x → Contains (cond t (y ∷ filter p xs) (filter p xs)) x
    by true e rest (inl same) = first_of y (filter p xs) x same
    by true e rest (inr i) = behind_of y (filter p xs) x (rest i h)
    by false e rest (inl same) = absurd (false≢true (sym e ∙ ap p same ∙ h))
    by false e rest (inr i) = rest i h

pub from_kept : {X : Type 0} (p : X → Bool) (xs : List X) (x : X) → Contains (filter p xs) x → Contains xs x
from_kept p [] x k = k
from_kept {X} p (y ∷ xs) x k = by (p y) (from_kept p xs x) k
  where
    rest_or_first : (Contains (filter p xs) x → Contains xs x) → (y ≡ x) ⊎ Contains (filter p xs) x → Contains (y ∷ xs) x
    rest_or_first rest (inl same) = first_of y xs x same
    rest_or_first rest (inr i) = behind_of y xs x (rest i)

    by : (t : Bool) → (Contains (filter p xs) x → Contains xs x) → Contains (cond t (y ∷ filter p xs) (filter p xs)) x → Contains (y ∷ xs) x
    by true rest i = rest_or_first rest (first_or_behind y (filter p xs) x i)
    by false rest i = behind_of y xs x (rest i)

pub passes : {X : Type 0} (p : X → Bool) (xs : List X) (x : X) → Contains (filter p xs) x → p x ≡ true
passes p xs x k = All-contains (λ z. p z ≡ true) (filter p xs) x (filter_passes p xs) k

-- ---- names of two lists

abbrev pub is_of : (some others : List (List ℕ)) → List ℕ → Bool
is_of some others name = list_any (bytes_eq name) (some ++ others)

pub is_of_either : (some others : List (List ℕ)) (name : List ℕ) → is_of some others name ≡ true → Contains some name ⊎ Contains others name
is_of_either some others name h = Contains-append_cases some others name (Contains-from_any (λ x y e. (bytes_eq-Decides x y).0 e) name (some ++ others) h)

pub is_of_some : (some others : List (List ℕ)) (name : List ℕ) → Contains some name → is_of some others name ≡ true
is_of_some some others name k = list_any-from_Contains nat_list_eq_equiv name (some ++ others) (Contains-append_left some others name k)

pub is_of_others : (some others : List (List ℕ)) (name : List ℕ) → Contains others name → is_of some others name ≡ true
is_of_others some others name k = list_any-from_Contains nat_list_eq_equiv name (some ++ others) (Contains-append_right some others name k)

-- Of names among which both lists stand, those of either list.
pub names_kept : (some others all : List (List ℕ)) → ((name : List ℕ) → Contains some name → Contains all name) → ((name : List ℕ) → Contains others name → Contains all name) → (name : List ℕ) → Contains (filter (is_of some others) all) name ↔ (Contains some name ⊎ Contains others name)
names_kept some others all first second name = (λ k. is_of_either some others name (passes (is_of some others) all name k), back)
  where
    back : Contains some name ⊎ Contains others name → Contains (filter (is_of some others) all) name
    back (inl k) = kept (is_of some others) all name (first name k) (is_of_some some others name k)
    back (inr k) = kept (is_of some others) all name (second name k) (is_of_others some others name k)
