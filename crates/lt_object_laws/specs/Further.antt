-- Typed programs with further objects.
use Rattle.std.specs.Prelude.{◌≡◌, ℕ, ◌+◌, Bool, true, false, if◌then◌else◌, List, [], ◌∷◌, map, length}
use Rattle.std.specs.List.{AllByRecursion}
use Rattle.lt_model.specs.declared.scalar.Scalar.TheVariants as S
use Rattle.lt_tree.specs.Typing.Types.{Array, Num}
use Rattle.lt_tree.specs.Typing.Constants.{address}
use Rattle.lt_tree.specs.Typing.TypedTree as e
use Rattle.lt_tree.specs.Typing.TypedTree.{StartPart}
use Rattle.lt_tree.specs.Typing.Entities.{Object, literal, unmade, is_static}
use Rattle.lt_tree.specs.Typing.Programs.{Program}
use Rattle.lt_ir.specs.declared.code.Static.{Static}
use Rattle.lt_meaning.specs.Statements.{parts_in}
use Rattle.lt_meaning.specs.Runs.{is_there_first, initials}
use Rattle.lt_object_laws.specs.Renamed.{renumbered, object_with, function_with}

-- these parts are letters alone
abbrev pub AreLetters : List StartPart → Type 0
AreLetters [] = Unit {0}
AreLetters (e.letters offset s bytes ∷ parts) = AreLetters parts
AreLetters parts = ⊥

-- A further object is a string literal, or is never made.
pub data IsFurther : Object → Type 0 where
  a_string : {object : Object} {n : ℕ} → object.life ≡ literal → object.type ≡ Array (Num S.Char) n → AreLetters (parts_in object.start) → IsFurther object
  never_made : {object : Object} → object.life ≡ unmade → IsFurther object

-- The second list is the first with further objects among the others; each flag says of one, in order, whether it is a further one. In how the
-- others start, objects have the numbers that r gives.
pub data HasFurther (r : ℕ → ℕ) : List Bool → List Object → List Object → Type 0 where
  no_objects : HasFurther r [] [] []
  an_object : {further : List Bool} {objects others : List Object} (object : Object)
      → HasFurther r further objects others → HasFurther r (false ∷ further) (object ∷ objects) (object_with r object ∷ others)
  a_further_object : {further : List Bool} {objects others : List Object} (object : Object)
      → IsFurther object → HasFurther r further objects others → HasFurther r (true ∷ further) objects (object ∷ others)

-- The address that a part is fixed to, if it is one, is that of an object that is there from the start.
abbrev pub IsThere : Program → StartPart → Type 0
IsThere program (e.fixed offset t (address n at)) = is_there_first program n ≡ true
IsThere program part = Unit {0}

-- The second program is the first with further objects, which no tree of the first one names. What the first one's objects hold from the start are
-- addresses of objects that are there then.
pub record HasFurtherObjects (further : List Bool) (p q : Program) : Type 0 where
  pub model : p.model ≡ q.model
  pub structs : p.structs ≡ q.structs
  pub types : p.types ≡ q.types
  pub objects : HasFurther (renumbered further) further p.objects q.objects
  pub functions : q.functions ≡ map (function_with (renumbered further)) p.functions
  pub addresses : AllByRecursion (λ (object : Object). AllByRecursion (IsThere p) (parts_in object.start)) p.objects

-- ---- the objects that are there from the start

-- which of them are further ones
abbrev pub further_statics : List Bool → List Object → List Bool
further_statics [] objects = []
further_statics (b ∷ further) [] = []
further_statics (b ∷ further) (object ∷ objects) = if is_static object.life then b ∷ further_statics further objects else further_statics further objects

-- how many cells they have
abbrev pub cells_in : List Static → ℕ
cells_in [] = 0
cells_in (it ∷ its) = length it.block.shape.cells + cells_in its

-- how many cells the further ones among them have
abbrev pub further_cells_in : List Bool → List Static → ℕ
further_cells_in (true ∷ further) (it ∷ its) = length it.block.shape.cells + further_cells_in further its
further_cells_in (false ∷ further) (it ∷ its) = further_cells_in further its
further_cells_in further its = 0

abbrev pub blocks_of : List Bool → Program → List Bool
blocks_of further q = further_statics further q.objects

abbrev pub further_cells : List Bool → Program → ℕ
further_cells further q = further_cells_in (blocks_of further q) (initials q q.objects)
