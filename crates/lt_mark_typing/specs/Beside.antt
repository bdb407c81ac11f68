-- What typing knows, and what it makes of expressions, in a text with marks added, beside what it does in the text without them.
use Rattle.std.specs.Prelude.{◌≡◌, ◌⊎◌, ℕ, ◌==◌, Bool, true, false, List, [], ◌∷◌, map}
use Rattle.std.specs.List.{list_any}
use Rattle.lt_model.specs.declared.scalar.Scalar.TheVariants as S
use Rattle.lt_tree.specs.Typing.Types.{Num}
use Rattle.lt_tree.specs.Typing.Rules.{Rule}
use Rattle.lt_tree.specs.Typing.Constants.{Constancy, varying}
use Rattle.lt_tree.specs.Typing.TypedTree.{Value, Place}
use Rattle.lt_tree.specs.Typing.Types.{CType}
use Rattle.lt_tree.specs.Typing.Entities.{Known, Label, greatest_label_id}
use Rattle.lt_tree.specs.Typing.Steps.{Outcome, Goes, Breaks}
use Rattle.lt_tree.specs.Typing.Expressions.{Form, a_value, a_place, a_designator, Typed, Use, as_truth, own_type, value_in}
use Rattle.lt_tree.specs.Typing.Operations.{counts_as_null}
use Rattle.lt_mark_laws.specs.Added.{Adds, AddsTruth, AddsPlace, AddsFunctions}
use Rattle.lt_object_laws.specs.Renamed.{function_with}
use Rattle.lt_mark_typing.specs.Renumbered.{frames_with, typed_with}
use Rattle.lt_mark_typing.specs.Further.{Extends, Agrees, HasObjects}

-- ---- what is known

-- whether an id is among these
abbrev pub is_used : ℕ → List ℕ → Bool
is_used id used = list_any (λ other. other == id) used

-- The labels of the second text are those of the first, in order, and among them such as have a new id, which is used, and bind no name.
pub data AddsLabels (new : ℕ → Bool) (used : List ℕ) : List Label → List Label → Type 0 where
  no_labels : AddsLabels new used [] []
  kept : {label : Label} {xs ys : List Label} → new label.id ≡ false → AddsLabels new used xs ys → AddsLabels new used (label ∷ xs) (label ∷ ys)
  added : {label : Label} {xs ys : List Label}
      → new label.id ≡ true → is_used label.id used ≡ true → label.bound ≡ [] → AddsLabels new used xs ys → AddsLabels new used xs (label ∷ ys)

-- The same is known at a place of both texts, but for the numbers of nodes and of objects, further objects, facts, added labels, and marks in bodies of functions.
-- In the second text a label may have any id that a label can have.
pub record IsBeside (new : ℕ → Bool) (used : List ℕ) (further : List Bool) (known other : Known) : Type 0 where
  pub same : (r : ℕ → ℕ) → Agrees r further
      → other ≡ record known { next = other.next; greatest_id = greatest_label_id; frames = frames_with r known.frames; objects = other.objects; functions = other.functions; labels = other.labels; facts = other.facts }
  pub objects : (r : ℕ → ℕ) → Agrees r further → HasObjects r further known.objects other.objects
  pub functions : (r : ℕ → ℕ) → Agrees r further → AddsFunctions new (map (function_with r) known.functions) other.functions
  pub labels : AddsLabels new used known.labels other.labels

-- ---- typed expressions

-- what an expression is, and what it is with marks added
pub data AddsForm (new : ℕ → Bool) : Form → Form → Type 0 where
  values : {v w : Value} → Adds new v w → AddsForm new (a_value v) (a_value w)
  places : {p q : Place} → AddsPlace new p q → AddsForm new (a_place p) (a_place q)
  designators : {name : List ℕ} {t : CType} → AddsForm new (a_designator name t) (a_designator name t)

-- as a constant, an expression with marks added is what it is without them, or none
abbrev pub IsAtMost : Constancy → Constancy → Type 0
IsAtMost c d = (d ≡ c) ⊎ (d ≡ varying)

-- The second is the first with marks added; of them as null pointer constants nothing is said.
pub record AddsMade (new : ℕ → Bool) (x y : Typed) : Type 0 where
  pub form : AddsForm new x.form y.form
  pub register : x.is_register ≡ false → y.is_register ≡ false
  pub constancy : IsAtMost x.constancy y.constancy

-- The second is the first with marks added, and no operator tells them apart: what counts as a null pointer constant does so with marks too.
pub record AddsTyped (new : ℕ → Bool) (x y : Typed) : Type 0 where
  pub form : AddsForm new x.form y.form
  pub register : x.is_register ≡ false → y.is_register ≡ false
  pub constancy : IsAtMost x.constancy y.constancy
  pub null : counts_as_null x ≡ true → (y.constancy ≡ x.constancy) × (counts_as_null y ≡ true)

-- lists of such expressions
pub data AddsEach (new : ℕ → Bool) : List Typed → List Typed → Type 0 where
  none_added : AddsEach new [] []
  one_added : {x y : Typed} {xs ys : List Typed} → AddsTyped new x y → AddsEach new xs ys → AddsEach new (x ∷ xs) (y ∷ ys)

-- The same for expressions of which only the truth is used: with a `pc_decide` around it one has the type `int`.
pub record AddsTest (new : ℕ → Bool) (x y : Typed) : Type 0 where
  pub value : AddsTruth new (value_in x) (value_in y)
  pub type : (own_type y ≡ own_type x) ⊎ (own_type y ≡ Num S.Int)
  pub constancy : IsAtMost x.constancy y.constancy

-- ---- positions

-- What the text around an expression takes of it: what it uses it as, or its truth alone. The operand of a `switch` or of a `pc_after` in a test is
-- used as a truth, but its value counts.
pub data Position : Type 0 where
  in_use : (role : Use) → Position
  in_test : Position

abbrev pub use_of : Position → Use
use_of (in_use role) = role
use_of in_test = as_truth

-- of a truth no operator takes a null pointer constant
abbrev pub AddsAt : (ℕ → Bool) → Position → Typed → Typed → Type 0
AddsAt new (in_use as_truth) x y = AddsMade new x y
AddsAt new (in_use role) x y = AddsTyped new x y
AddsAt new in_test x y = AddsTest new x y

-- so where the first one's objects have the numbers that r gives
abbrev pub AddsWith : (ℕ → Bool) → Position → (ℕ → ℕ) → Typed → Typed → Type 0
AddsWith new position r x y = AddsAt new position (typed_with r x) y

-- ---- outcomes

-- Where going over the text goes on, it does so over the text with marks added, to something that is related, with the same known behind it. Objects that are found
-- on the way have flags behind those that were there; what is found is related for all numbers that objects may have in the end.
pub data Follows {A B : Type 0} (new : ℕ → Bool) (used : List ℕ) (further : List Bool) (relation : (ℕ → ℕ) → A → B → Type 0) : Outcome A → Outcome B → Type 0 where
  goes : {a : A} {b : B} {known other : Known} (behind : List Bool) → Extends further behind → ((r : ℕ → ℕ) → Agrees r behind → relation r a b) → IsBeside new used behind known other
      → Follows new used further relation (Goes a known) (Goes b other)
  breaks : {rule : Rule} {node : ℕ} {outcome : Outcome B} → Follows new used further relation (Breaks rule node) outcome
