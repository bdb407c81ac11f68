-- What is known of the rows of a table of types: each is made of rows before it, and knows what its elements are.
use Rattle.std.specs.Prelude.{◌≡◌, ◌<◌, ◌^◌, min, ℕ, List, [], ◌∷◌, ◌++◌, length, Result, IfOk, Option, Some, None, IfSome, false}
use Rattle.lt_tree.specs.declared.typed.types.TypeId.{TypeId}
use Rattle.lt_tree.specs.declared.typed.types.FunctionType.{FunctionType}
use Rattle.lt_tree.specs.declared.typed.types.TypeRow.{TypeRow}
use Rattle.lt_tree.specs.declared.typed.types.TypeRow.TheVariants as row
use Rattle.lt_tree.specs.View as view
use Rattle.lt_tree.specs.Typing.Types.{CType, Array, Function, Qualified, is_array, is_function, element, qualifiers_of}
use Rattle.lt_tree.specs.Typing.TypeRows.{type_in, all_in, type_of_row, types_of_rows, Continues, Lasts}
use Rattle.lt_table.specs.declared.table.kind.RowFacts.{RowFacts}
use Rattle.lt_tree.specs.Typing.Extents.{elements}
use Rattle.lt_table.specs.TableKinds.{kind_part, IsOfKind}
use Rattle.lt_table.specs.TableElements.{IsMadeOf}

-- ---- what a table keeps

-- an id of one of these types
abbrev pub StandsIn : List CType → TypeId → Type 0
StandsIn types t = t.place < length types

abbrev pub AllStandIn : List CType → List TypeId → Type 0
AllStandIn types [] = Unit {0}
AllStandIn types (t ∷ ts) = StandsIn types t × AllStandIn types ts

-- qualifiers of an array stand at its elements, a function has none, and what is qualified isn't qualified again
abbrev pub TakesQualifiers : CType → Type 0
TakesQualifiers (Array t n) = ⊥
TakesQualifiers (Function t ts dots) = ⊥
TakesQualifiers (Qualified q t) = ⊥
TakesQualifiers _ = Unit {0}

-- a row that can follow these types
abbrev pub CanFollow : List CType → TypeRow → Type 0
CanFollow types (row.Pointer t) = StandsIn types t
CanFollow types (row.Array t n) = StandsIn types t
CanFollow types (row.Function f) = StandsIn types f.result × AllStandIn types f.parameters.items
CanFollow types (row.Qualified q t) = StandsIn types t × TakesQualifiers (type_in types t)
CanFollow types _ = Unit {0}

abbrev pub with_type : List CType → TypeRow → List CType
with_type types row = types ++ type_of_row types row ∷ []

-- what is known of a row that follows these types
pub record AreFactsOf (types : List CType) (row : TypeRow) (facts : RowFacts) : Type 0 where
  pub element_stands : StandsIn (with_type types row) facts.element
  pub element : type_in (with_type types row) facts.element ≡ element (type_of_row types row)
  pub quals : qualifiers_of (type_of_row types row) ≡ view.qualifiers_of facts.quals
  pub part_stands : IfSome (kind_part facts.kind) (StandsIn types)
  pub kind : IsOfKind types facts.kind (type_of_row types row)
  pub count : facts.count ≡ min (elements (type_of_row types row)) (2 ^ 64)
  pub made : IsMadeOf facts.inner facts.quals.constant (type_of_row types row)

-- rows, each beside what is known of it, that can follow these types
abbrev pub AreRows : List CType → List (TypeRow × RowFacts) → Type 0
AreRows types [] = Unit {0}
AreRows types (e ∷ es) = CanFollow types e.0 × AreFactsOf types e.0 e.1 × AreRows (with_type types e.0) es

-- ---- what is answered

-- the second table goes on from the first
abbrev pub Grows : List TypeRow → List TypeRow → Type 0
Grows old new = Continues (types_of_rows old) (types_of_rows new)

-- it is so of these rows' types, whatever types are added
abbrev pub Stays : List TypeRow → (List CType → Type 0) → Type 0
Stays rows Is = Lasts (types_of_rows rows) Is

-- an id that is answered is one of this type
abbrev pub Makes : {E : Type 0} → List TypeRow → Result TypeId E → (List CType → CType) → Type 0
Makes rows result made = IfOk result (λ id. Stays rows (λ types. type_in types id ≡ made types))

-- what is known of the type with this id
pub record AreFactsAt (rows : List TypeRow) (t : TypeId) (facts : RowFacts) : Type 0 where
  pub element_within : facts.element.place < length rows
  pub part_within : IfSome (kind_part facts.kind) (λ u. u.place < length rows)
  pub part_before : IfSome (kind_part facts.kind) (λ u. u.place < t.place)
  pub element : Stays rows (λ types. type_in types facts.element ≡ element (type_in types t))
  pub quals : Stays rows (λ types. qualifiers_of (type_in types t) ≡ view.qualifiers_of facts.quals)
  pub kind : Stays rows (λ types. IsOfKind types facts.kind (type_in types t))
  pub count : Stays rows (λ types. facts.count ≡ min (elements (type_in types t)) (2 ^ 64))
  pub made : Stays rows (λ types. IsMadeOf facts.inner facts.quals.constant (type_in types t))

-- the row of the type with this id: what it is made of stands before it
pub record IsRowAt (rows : List TypeRow) (t : TypeId) (row : TypeRow) : Type 0 where
  pub is : Stays rows (λ types. type_in types t ≡ type_of_row types row)
  pub follows : CanFollow (types_of_rows rows) row

-- arrays of arrays of this type, the outermost length first
abbrev pub arrays : List ℕ → CType → CType
arrays [] t = t
arrays (n ∷ ns) t = Array (arrays ns t) n

-- the type with this id is an array of these elements, which stand before it, or none
abbrev pub IsArrayOf : List TypeRow → TypeId → Option (TypeId × ℕ) → Type 0
IsArrayOf rows t None = Stays rows (λ types. is_array (type_in types t) ≡ false)
IsArrayOf rows t (Some (element, n)) =
    (element.place < length rows) × (element.place < t.place) × Stays rows (λ types. type_in types t ≡ Array (type_in types element) n)

-- the type with this id is a function with these parts, or none
abbrev pub IsFunctionOf : List TypeRow → TypeId → Option FunctionType → Type 0
IsFunctionOf rows t None = Stays rows (λ types. is_function (type_in types t) ≡ false)
IsFunctionOf rows t (Some f) = Stays rows (λ types. type_in types t ≡ Function (type_in types f.result) (all_in types f.parameters.items) f.dots)
