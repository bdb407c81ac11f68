-- What is known of the types of a table.
use Rattle.std.specs.Prelude.{◌≡◌, ◌&&◌, ℕ, nat_lt, Bool, true, false, List, Option, Some, None, option_map, slice_index_or}
use Rattle.lt_model.specs.declared.scalar.Scalar.{Scalar}
use Rattle.lt_tree.specs.declared.typed.types.TypeId.{TypeId}
use Rattle.lt_tree.specs.Typing.Types.{CType, Array, Qualified, scalar_of, target_of, struct_of, is_scalar, is_void, is_floating, element}
use Rattle.lt_tree.specs.Typing.TypeRows.{type_in}
use Rattle.lt_tree.specs.declared.typed.program.Program.{Program}
use Rattle.lt_tree.specs.Typing.EntityView.{structs_of}
use Rattle.lt_tree.specs.Typing.Extents.{Structs, is_complete}
use Rattle.lt_input_names.specs.Blocks.{program_types}
use Rattle.lt_input_names.specs.declared.facts.Kind.{Kind}
use Rattle.lt_input_names.specs.declared.facts.Kind.TheVariants as kind
use Rattle.lt_input_names.specs.declared.facts.Elements.{Elements}
use Rattle.lt_input_names.specs.declared.facts.Facts.{Facts}
use Rattle.lt_input_names.specs.declared.kinds.Kinds.{Kinds}

abbrev pub kind_facts : Kind → (is_complete : Bool) → Facts
kind_facts kind complete = record {
  kind = kind;
  array = None;
  bare_array = None;
  number = None;
  is_complete = complete;
  is_void = false;
  is_floating = false;
  are_elements_floating = false;
}

-- of void
abbrev pub no_facts : Facts
no_facts = record (kind_facts kind.Other false) { is_void = true }

-- of an array of so many of what this is known of
abbrev pub array_facts : TypeId → Facts → (count : ℕ) → Facts
array_facts t element count = record (kind_facts kind.Other (nat_lt 0 count && element.is_complete)) {
  array = Some (record { ty = t; count = count });
  bare_array = Some (record { ty = t; count = count });
  are_elements_floating = element.are_elements_floating;
}

abbrev pub kind_scalar : Kind → Option Scalar
kind_scalar (kind.Integer s) = Some s
kind_scalar _ = None

abbrev pub kind_target : Kind → Option TypeId
kind_target (kind.Pointer t) = Some t
kind_target _ = None

abbrev pub kind_is_scalar : Kind → Bool
kind_is_scalar kind.Other = false
kind_is_scalar _ = true

-- the type of the elements of an array, and how many there are
abbrev pub array_of : CType → Option (CType × ℕ)
array_of (Array t n) = Some (t, n)
array_of _ = None

-- the same, qualifiers aside
abbrev pub bare_array_of : CType → Option (CType × ℕ)
bare_array_of (Array t n) = Some (t, n)
bare_array_of (Qualified q t) = bare_array_of t
bare_array_of _ = None

abbrev pub elements_in : List CType → Elements → CType × ℕ
elements_in types it = (type_in types it.ty, it.count)

pub record AreFacts (structs : Structs) (types : List CType) (t : CType) (facts : Facts) : Type 0 where
  pub scalar : kind_scalar facts.kind ≡ scalar_of t
  pub target : option_map (type_in types) (kind_target facts.kind) ≡ target_of t
  pub number_or_pointer : kind_is_scalar facts.kind ≡ is_scalar t
  pub array : option_map (elements_in types) facts.array ≡ array_of t
  pub bare_array : option_map (elements_in types) facts.bare_array ≡ bare_array_of t
  pub number : facts.number ≡ struct_of t
  pub complete : facts.is_complete ≡ is_complete structs t
  pub void : facts.is_void ≡ is_void t
  pub floating : facts.is_floating ≡ is_floating t
  pub elements : facts.are_elements_floating ≡ is_floating (element t)

-- what is known of the types of a program's table
abbrev pub HaveFacts : Program → List Facts → Type 0
HaveFacts program known =
    (t : TypeId) → AreFacts (structs_of (program_types program) program.structs.items) (program_types program) (type_in (program_types program) t) (slice_index_or known t.place no_facts)

abbrev pub AreKinds : Kinds → Type 0
AreKinds kinds = HaveFacts kinds.program.now kinds.facts.items
