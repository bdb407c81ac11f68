-- Objects of a text with marks added beside those of the text without them: predicates may have objects of their own.
use Rattle.std.specs.Prelude.{◌≡◌, ℕ, Bool, true, false, List, [], ◌∷◌, ◌++◌}
use Rattle.lt_tree.specs.Typing.Entities.{Object}
use Rattle.lt_object_laws.specs.Renamed.{renumbered, object_with}
use Rattle.lt_object_laws.specs.Further.{IsFurther}

-- Flags say of the objects of the second text, in order, whether they are further ones. Those of what is found later come behind those of what is there.
pub record Extends (further behind : List Bool) : Type 0 where
  pub more : List Bool
  pub is : behind ≡ further ++ more

-- Objects of the first text have in the second the numbers that r gives, if these are its flags so far, whatever is found later.
pub record Agrees (r : ℕ → ℕ) (further : List Bool) : Type 0 where
  pub all : List Bool
  pub extends : Extends further all
  pub is : r ≡ renumbered all

-- The second list is the first with further objects among the others, as the flags say, but for the numbers of nodes.
pub data HasObjects (r : ℕ → ℕ) : List Bool → List Object → List Object → Type 0 where
  no_objects : HasObjects r [] [] []
  an_object : {further : List Bool} {objects others : List Object} (object : Object) (node : ℕ)
      → HasObjects r further objects others → HasObjects r (false ∷ further) (object ∷ objects) (record (object_with r object) { node = node } ∷ others)
  a_further_object : {further : List Bool} {objects others : List Object} (object : Object)
      → IsFurther object → HasObjects r further objects others → HasObjects r (true ∷ further) objects (object ∷ others)
