-- Flags of further objects, where no object is one and where further ones come twice.
use Rattle.std.proofs.Common.{◌≡◌, ℕ, zero, suc, List, [], ◌∷◌, Option, Some, None, Bool, true, false, refl, ap, subst}
use Rattle.lt_tree.specs.Typing.TypedTree as e
use Rattle.lt_tree.specs.Typing.TypedTree.{Start, StartPart}
use Rattle.lt_tree.specs.Typing.Entities.{Object}
use Rattle.lt_meaning.specs.Statements.{parts_in}
use Rattle.lt_object_laws.specs.Renamed.{renumbered, parts_with, start_with, object_with}
use Rattle.lt_object_laws.specs.Further.{AreLetters, IsFurther, a_string, never_made, HasFurther, no_objects, an_object, a_further_object}
use Rattle.lt_marked_runs.proofs.Itself.{same, object_itself}
use Rattle.lt_marked_runs.proofs.Twice.{both, object_twice}

-- ---- no further objects

abbrev pub none_further : List Object → List Bool
none_further [] = []
none_further (x ∷ xs) = false ∷ none_further xs

none_at : (xs : List Object) (n : ℕ) → same n ≡ renumbered (none_further xs) n
none_at [] n = refl
none_at (x ∷ xs) zero = refl
none_at (x ∷ xs) (suc n) = ap suc (none_at xs n)

pub none_renumbered : (xs : List Object) → same ≡ renumbered (none_further xs)
none_renumbered xs = λ i n. none_at xs n i

pub no_further_ones : (xs : List Object) → HasFurther same (none_further xs) xs xs
no_further_ones [] = no_objects
no_further_ones (x ∷ xs) = subst (λ y. HasFurther same (false ∷ none_further xs) (x ∷ xs) (y ∷ xs)) (object_itself x) (an_object x (no_further_ones xs))

-- ---- further objects among those of a list that has some already

-- all flags: first those of the objects that came last
abbrev pub all_flags : (more further : List Bool) → List Bool
all_flags [] further = further
all_flags (true ∷ more) further = true ∷ all_flags more further
all_flags (false ∷ more) [] = false ∷ more
all_flags (false ∷ more) (b ∷ further) = b ∷ all_flags more further

all_at : (more further : List Bool) (n : ℕ) → both (renumbered further) (renumbered more) n ≡ renumbered (all_flags more further) n
all_at [] further n = refl
all_at (true ∷ more) further n = ap suc (all_at more further n)
all_at (false ∷ more) [] n = refl
all_at (false ∷ more) (true ∷ further) n = ap suc (all_at more further n)
all_at (false ∷ more) (false ∷ further) zero = refl
all_at (false ∷ more) (false ∷ further) (suc n) = ap suc (all_at more further n)

pub all_renumbered : (more further : List Bool) → both (renumbered further) (renumbered more) ≡ renumbered (all_flags more further)
all_renumbered more further = λ i n. all_at more further n i

letters_still : (r : ℕ → ℕ) (parts : List StartPart) → AreLetters parts → AreLetters (parts_with r parts)
letters_still r [] h = tt
letters_still r (e.letters offset s bytes ∷ parts) h = letters_still r parts h
letters_still r (e.stored offset v ∷ parts) h = absurd h
letters_still r (e.fixed offset t c ∷ parts) h = absurd h

start_still : (r : ℕ → ℕ) (start : Option Start) → AreLetters (parts_in start) → AreLetters (parts_in (start_with r start))
start_still r None h = h
start_still r (Some start) h = letters_still r start.parts h

further_still : (r : ℕ → ℕ) {x : Object} → IsFurther x → IsFurther (object_with r x)
further_still r {x} (a_string life type letters) = a_string life type (start_still r x.start letters)
further_still r (never_made life) = never_made life

module _ (r s : ℕ → ℕ) where
  pub all_further : {more : List Bool} {ys zs : List Object} → HasFurther s more ys zs → {further : List Bool} {xs : List Object} → HasFurther r further xs ys → HasFurther (both r s) (all_flags more further) xs zs
  all_further no_objects no_objects = no_objects
  all_further (a_further_object z f d) c = a_further_object z f (all_further d c)
  all_further (an_object {further = more} {others = zs} y d) (an_object {further} {objects = xs} x c) =
      subst (λ z. HasFurther (both r s) (false ∷ all_flags more further) (x ∷ xs) (z ∷ zs)) (object_twice r s x) (an_object x (all_further d c))
  all_further (an_object y d) (a_further_object z f c) = a_further_object (object_with s z) (further_still s f) (all_further d c)
