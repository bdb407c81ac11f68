-- What names and tags stand for, C11 6.2.1 to 6.2.4, and the program as far as it is known at a place of the text.
use Rattle.std.specs.Prelude.{ℕ, ℤ, ◌+◌, ◌==◌, ◌&&◌, ◌||◌, Bool, true, false, if◌then◌else◌, List, [], ◌∷◌, length, slice_get, Option, Some, None, unwrap_or}
use Rattle.std.specs.Str.{bytes_eq}
use Rattle.lt_model.specs.declared.scalar.DataModel.{DataModel}
use Rattle.lt_model.specs.Layout.{then_some}
use Rattle.lt_tree.specs.Typing.Types.{CType, Void, qualifiers_of}
use Rattle.lt_tree.specs.Typing.Extents.{Structs}
use Rattle.lt_tree.specs.Typing.Constants.{Constancy}
use Rattle.lt_tree.specs.Typing.TypedTree.{Start, Items}

-- ---- objects, C11 6.2.4

-- how long an object lives, and who knows its name
pub data Life : Type 0 where
  -- of file scope, or declared `extern`: one object for all its declarations
  linked : Life
  -- `static` in a block
  local_static : Life
  -- a string literal
  literal : Life
  automatic : Life
  -- of a function with a body
  parameter : Life
  -- never made: a parameter of another declaration, or a string literal in `sizeof`
  unmade : Life

-- An object, with its declared type. One that is there from the start has what it holds then; where that is left out it is zero.
pub record Object : Type 0 where
  -- its first declarator, or the string literal
  pub node : ℕ
  pub name : List ℕ
  pub type : CType
  pub life : Life
  pub start : Option Start

abbrev pub is_linked : Life → Bool
is_linked linked = true
is_linked _ = false

abbrev pub is_literal : Life → Bool
is_literal literal = true
is_literal _ = false

-- whether it is created before the run
abbrev pub is_static : Life → Bool
is_static linked = true
is_static local_static = true
is_static literal = true
is_static _ = false

-- An object that is declared `const` can't be written once it has its first value, an array by its elements; nor can a string literal.
abbrev pub is_sealed : Object → Bool
is_sealed object = is_literal object.life || (qualifiers_of object.type).constant

-- the place of the object of this name that all its declarations share
abbrev pub linked_from : ℕ → List ℕ → List Object → Option ℕ
linked_from at name [] = None
linked_from at name (object ∷ objects) =
    if is_linked object.life && bytes_eq object.name name then Some at else linked_from (at + 1) name objects

-- ---- functions

-- a function that is declared, whether it has a body or not
pub record Declared : Type 0 where
  pub name : List ℕ
  pub type : CType

abbrev pub declared_among : List ℕ → List Declared → Option CType
declared_among name [] = None
declared_among name (f ∷ fs) = if bytes_eq f.name name then Some f.type else declared_among name fs

-- a function with its body: its parameters are objects
pub record Function : Type 0 where
  -- the definition
  pub node : ℕ
  pub name : List ℕ
  pub type : CType
  pub parameters : List ℕ
  pub body : Items

-- ---- names and tags in scope

-- what a name stands for
pub data Entity : Type 0 where
  an_object : (number : ℕ) (is_register : Bool) → Entity
  a_function : Entity
  a_typedef : (type : CType) → Entity
  an_enumerator : (value : ℤ) → Entity

pub record Bound : Type 0 where
  pub name : List ℕ
  pub entity : Entity

-- what a tag stands for
pub data Tagged : Type 0 where
  a_struct : (number : ℕ) → Tagged
  -- complete behind its list
  an_enum : (is_complete : Bool) → Tagged

pub record Tag : Type 0 where
  pub name : List ℕ
  pub tagged : Tagged

-- what one block, file or list of parameters declares, the latest first
pub record Frame : Type 0 where
  pub names : List Bound
  pub tags : List Tag

abbrev pub no_names : Frame
no_names = record { names = []; tags = [] }

abbrev pub bound_among : List ℕ → List Bound → Option Entity
bound_among name [] = None
bound_among name (b ∷ bs) = if bytes_eq b.name name then Some b.entity else bound_among name bs

abbrev pub tagged_among : List ℕ → List Tag → Option Tagged
tagged_among name [] = None
tagged_among name (tag ∷ tags) = if bytes_eq tag.name name then Some tag.tagged else tagged_among name tags

abbrev pub or_else : {A : Type 0} → Option A → Option A → Option A
or_else None other = other
or_else (Some a) other = Some a

-- what a name stands for in frames, the innermost first
abbrev pub bound_in : List ℕ → List Frame → Option Entity
bound_in name [] = None
bound_in name (frame ∷ frames) = or_else (bound_among name frame.names) (bound_in name frames)

abbrev pub tagged_in : List ℕ → List Frame → Option Tagged
tagged_in name [] = None
tagged_in name (frame ∷ frames) = or_else (tagged_among name frame.tags) (tagged_in name frames)

-- ---- marks and nodes

-- a label of the unit: its id, its tag and the names that it binds
pub record Label : Type 0 where
  pub id : ℕ
  pub tag : List ℕ
  pub bound : List (List ℕ)

-- What is known of an expression: its node, its type, with qualifiers where it is a place, what its erasure is as a constant, and, of a name, its
-- object.
pub record Fact : Type 0 where
  pub node : ℕ
  pub type : CType
  pub is_place : Bool
  pub constancy : Constancy
  pub object : Option ℕ

-- ---- what is known at a place of the text

pub record Known : Type 0 where
  pub model : DataModel
  -- the names of the functions to which the unit gives a body
  pub defined : List (List ℕ)
  -- the number of the next node
  pub next : ℕ
  -- the greatest id that a label may have
  pub greatest_id : ℕ
  -- whether the place is in an expression that is to be constant, or in the operand of `sizeof`
  pub is_unmarked : Bool
  -- the frames in scope, the innermost first
  pub frames : List Frame
  pub structs : Structs
  pub objects : List Object
  pub declared : List Declared
  pub functions : List Function
  pub labels : List Label
  pub facts : List Fact

-- the greatest id that a text may have; those that are added later go on from there
abbrev pub greatest_written_id : ℕ
greatest_written_id = 1000000000

-- the greatest id that a label can have at all
abbrev pub greatest_label_id : ℕ
greatest_label_id = 2147483647

-- at the start of a unit whose labels have ids to a greatest
abbrev pub starting : ℕ → DataModel → List (List ℕ) → Known
starting greatest model defined = record {
  model = model;
  defined = defined;
  next = 0;
  greatest_id = greatest;
  is_unmarked = false;
  frames = no_names ∷ [];
  structs = [];
  objects = [];
  declared = [];
  functions = [];
  labels = [];
  facts = [];
}

-- at the start of a unit as it is written
abbrev pub at_start : DataModel → List (List ℕ) → Known
at_start model defined = starting greatest_written_id model defined

-- what a name stands for here
abbrev pub meaning_of : List ℕ → Known → Option Entity
meaning_of name known = bound_in name known.frames

-- what this very block or file declares a name as
abbrev pub innermost : List Frame → Frame
innermost [] = no_names
innermost (frame ∷ frames) = frame

abbrev pub declared_here : List ℕ → Known → Option Entity
declared_here name known = bound_among name (innermost known.frames).names

abbrev pub tag_here : List ℕ → Known → Option Tagged
tag_here name known = tagged_among name (innermost known.frames).tags

-- whether a place is in no block
abbrev pub is_file_scope : Known → Bool
is_file_scope known = length known.frames == 1

abbrev pub linked_object : List ℕ → Known → Option ℕ
linked_object name known = linked_from 0 name known.objects

abbrev pub type_of_object : Known → ℕ → CType
type_of_object known n = unwrap_or (then_some (slice_get known.objects n) (λ object. Some object.type)) Void

-- one more name in the innermost frame
abbrev pub binding : List ℕ → Entity → List Frame → List Frame
binding name entity [] = []
binding name entity (frame ∷ frames) = record frame { names = record { name = name; entity = entity } ∷ frame.names } ∷ frames

abbrev pub bind_name : List ℕ → Entity → Known → Known
bind_name name entity known = record known { frames = binding name entity known.frames }

abbrev pub tagging : List ℕ → Tagged → List Frame → List Frame
tagging name tagged [] = []
tagging name tagged (frame ∷ frames) = record frame { tags = record { name = name; tagged = tagged } ∷ frame.tags } ∷ frames

abbrev pub bind_tag : List ℕ → Tagged → Known → Known
bind_tag name tagged known = record known { frames = tagging name tagged known.frames }
