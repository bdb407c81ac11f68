-- Typed programs: what the typing of a unit gives.
use Rattle.std.specs.Prelude.{ℕ, if◌then◌else◌, List, [], ◌∷◌, ◌++◌, Some, None}
use Rattle.std.specs.List.{flat_map, list_any}
use Rattle.lt_model.specs.declared.scalar.DataModel.{DataModel}
use Rattle.lt_tree.specs.Tree.{Unit as SourceUnit}
use Rattle.lt_tree.specs.Typing.Types.{CType, CTypes, no_types, a_type, Void, Num, Pointer, Array, Struct, Function as FunctionType, Floating, Qualified, bare, same}
use Rattle.lt_tree.specs.Typing.Extents.{Structs, StructType}
use Rattle.lt_tree.specs.Typing.Rules.{Rule}
use Rattle.lt_tree.specs.Typing.Entities.{Known, Frame, innermost, Object, Declared, Function, Label, Fact}

pub record Program : Type 0 where
  pub unit : SourceUnit
  pub model : DataModel
  pub structs : Structs
  -- in the order in which the text first declares them, string literals among them
  pub objects : List Object
  -- the functions that are declared, with or without a body, in the order of their first declarations
  pub declared : List Declared
  -- the functions with bodies, in the order of these
  pub functions : List Function
  -- the names and tags of file scope
  pub file : Frame
  -- the types without qualifiers, each once
  pub types : List CType
  -- the labels in the order of the text
  pub labels : List Label
  -- what is known of each expression, in the order in which they end
  pub facts : List Fact

-- a program, or the first rule that is broken, with the number of its node
pub data Typing : Type 0 where
  typed : (program : Program) → Typing
  broken : (rule : Rule) (node : ℕ) → Typing

-- ---- types, each once

-- the types of which a type is made, and then the type, all without qualifiers
abbrev mutual
  pub made_of : CType → List CType
  made_of (Pointer t) = made_of t ++ Pointer (bare t) ∷ []
  made_of (Array t n) = made_of t ++ Array (bare t) n ∷ []
  made_of (FunctionType t ts dots) = made_of t ++ all_made_of ts ++ bare (FunctionType t ts dots) ∷ []
  made_of (Qualified q t) = made_of t
  made_of Void = Void ∷ []
  made_of (Num s) = Num s ∷ []
  made_of (Struct k) = Struct k ∷ []
  made_of Floating = Floating ∷ []

  pub all_made_of : CTypes → List CType
  all_made_of no_types = []
  all_made_of (a_type t ts) = made_of t ++ all_made_of ts

abbrev pub with_new : List CType → List CType → List CType
with_new found [] = found
with_new found (t ∷ ts) = with_new (if list_any (same t) found then found else found ++ t ∷ []) ts

abbrev pub types_of_struct : StructType → List CType
types_of_struct s = elim (s.members) [ None ↦ [] | Some members ↦ flat_map (λ member. made_of member.type) members ]

-- The types of members, of objects, of functions and of expressions, in this order, each behind the types of which it is made.
abbrev pub types_in : Known → List CType
types_in known =
    with_new []
    (flat_map types_of_struct known.structs
    ++ flat_map (λ object. made_of object.type) known.objects
    ++ flat_map (λ f. made_of f.type) known.declared
    ++ flat_map (λ fact. made_of fact.type) known.facts)

abbrev pub program_of : SourceUnit → Known → Program
program_of unit known = record {
  unit = unit;
  model = known.model;
  structs = known.structs;
  objects = known.objects;
  declared = known.declared;
  functions = known.functions;
  file = innermost known.frames;
  types = types_in known;
  labels = known.labels;
  facts = known.facts;
}
