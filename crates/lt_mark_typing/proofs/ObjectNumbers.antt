-- One more object at the end, in both texts or in the second alone.
use Rattle.std.proofs.Common.{◌≡◌, ℕ, suc, List, [], ◌∷◌, Bool, false, refl, sym, ap, ◌∙◌, subst}
use Rattle.std.specs.Prelude.{◌++◌, length}
use Rattle.lt_tree.specs.Typing.Entities.{Known, Object}
use Rattle.lt_object_laws.specs.Renamed.{renumbered, object_with}
use Rattle.lt_mark_typing.specs.Further.{Agrees, HasObjects, no_objects, an_object, a_further_object}
use Rattle.lt_mark_typing.specs.Beside.{IsBeside}
use Rattle.lt_mark_typing.proofs.Numbers.{extends_with, agrees_before}

-- ---- lists of objects

one_more : {r : ℕ → ℕ} {further : List Bool} {xs ys : List Object} (x : Object) (node : ℕ) → HasObjects r further xs ys
    → HasObjects r (further ++ false ∷ []) (xs ++ x ∷ []) (ys ++ record (object_with r x) { node = node } ∷ [])
one_more x node no_objects = an_object x node no_objects
one_more x node (an_object object n h) = an_object object n (one_more x node h)
one_more x node (a_further_object object i h) = a_further_object object i (one_more x node h)

-- the number of an object behind all that there are
counted : {r : ℕ → ℕ} {further : List Bool} {xs ys : List Object} (more : List Bool) → HasObjects r further xs ys
    → renumbered ((further ++ false ∷ []) ++ more) (length xs) ≡ length ys
counted more no_objects = refl
counted more (an_object object n h) = ap suc (counted more h)
counted more (a_further_object object i h) = ap suc (counted more h)

number_behind : {r : ℕ → ℕ} {further : List Bool} {xs ys : List Object} → Agrees r (further ++ false ∷ []) → HasObjects r further xs ys
    → r (length xs) ≡ length ys
number_behind {r} {further} {xs} a h =
    ap (λ (f : ℕ → ℕ). f (length xs)) a.is ∙ ap (λ all. renumbered all (length xs)) a.extends.is ∙ counted a.extends.more h

-- ---- what is known

module _ {new : ℕ → Bool} {used : List ℕ} {further : List Bool} {k j : Known} where
  -- one more in both texts
  pub object_beside : (x y : Object) → ((r : ℕ → ℕ) → Agrees r (further ++ false ∷ []) → record (object_with r x) { node = y.node } ≡ y) → IsBeside new used further k j
      → IsBeside new used (further ++ false ∷ []) (record k { objects = k.objects ++ x ∷ [] }) (record j { objects = j.objects ++ y ∷ [] })
  object_beside x y e b = record {
    same = λ r a. ap (λ (it : Known). record it { objects = j.objects ++ y ∷ [] }) (b.same r (agrees_before (extends_with further (false ∷ [])) a));
    objects = λ r a. subst (λ object. HasObjects r (further ++ false ∷ []) (k.objects ++ x ∷ []) (j.objects ++ object ∷ [])) (e r a)
        (one_more x y.node (b.objects r (agrees_before (extends_with further (false ∷ [])) a)));
    functions = λ r a. b.functions r (agrees_before (extends_with further (false ∷ [])) a);
    labels = b.labels;
  }

  -- its number
  pub object_number : IsBeside new used further k j → (r : ℕ → ℕ) → Agrees r (further ++ false ∷ []) → length j.objects ≡ r (length k.objects)
  object_number b r a = sym (number_behind a (b.objects r (agrees_before (extends_with further (false ∷ [])) a)))
