-- The types of a program's objects are those of objects of what is made of it.
use Rattle.std.proofs.Common.{◌≡◌, ℕ, List, [], ◌∷◌, Bool, true, sym, ap, ◌∙◌}
use Rattle.std.proofs.lemmas.Bool.{or_left, or_right}
use Rattle.std.specs.List.{AllByRecursion, list_any}
use Rattle.lt_tree.specs.Typing.Types.{CType, same}
use Rattle.lt_tree.specs.Typing.Entities.{Object}
use Rattle.lt_mark_laws.specs.Added.{AreSameObjects}
use Rattle.lt_object_laws.specs.Further.{HasFurther, no_objects, an_object, a_further_object}
use Rattle.lt_type_laws.proofs.Equal.{same_self}

-- whether one of these objects has a type
abbrev has_type : CType → List Object → Bool
has_type t objects = list_any (λ (other : Object). same t other.type) objects

-- each type of the first objects is that of one of the second
abbrev pub HaveTypes : List Object → List Object → Type 0
HaveTypes xs zs = AllByRecursion (λ (object : Object). has_type object.type zs ≡ true) xs

one_more : (z : Object) (xs zs : List Object) → HaveTypes xs zs → HaveTypes xs (z ∷ zs)
one_more z [] zs h = tt
one_more z (x ∷ xs) zs h = (or_right (same x.type z.type) (has_type x.type zs) h.0, one_more z xs zs h.1)

pub found_there : {r : ℕ → ℕ} {further : List Bool} {xs ys : List Object} → HasFurther r further xs ys → (zs : List Object) → AreSameObjects ys zs → HaveTypes xs zs
found_there no_objects zs h = tt
found_there (an_object {objects = xs} x d) (z ∷ zs) h =
    (or_left (same x.type z.type) (has_type x.type zs) (ap (λ (o : Object). same x.type o.type) (sym h.0) ∙ same_self x.type), one_more z xs zs (found_there d zs h.1))
found_there (an_object x d) [] h = absurd h
found_there (a_further_object {objects = xs} y further d) (z ∷ zs) h = one_more z xs zs (found_there d zs h.1)
found_there (a_further_object y further d) [] h = absurd h
