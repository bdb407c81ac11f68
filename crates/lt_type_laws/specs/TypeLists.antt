-- Programs that are the same but for their lists of types: the number of a pointer's type is its place in the list, and memory has it in its cells. What isn't
-- in the list has its length as the number.
use Rattle.std.specs.Prelude.{◌≡◌, ◌<◌, ℕ, Bool, true, false, nat_lt, List, [], ◌++◌, length, Some, None, slice_get}
use Rattle.std.specs.List.{AllByRecursion, flat_map, list_any}
use Rattle.lt_model.specs.declared.cell.CellType.{CellType}
use Rattle.lt_model.specs.declared.cell.CellType.TheVariants.{Num, Pointer}
use Rattle.lt_model.specs.declared.cell.ShapeCell.{ShapeCell}
use Rattle.lt_model.specs.declared.input.BlockIn.{BlockIn}
use Rattle.lt_tree.specs.Typing.Types.{CType, bare, same}
use Rattle.lt_tree.specs.Typing.Extents.{StructType}
use Rattle.lt_tree.specs.Typing.Entities.{Object, Declared, Fact}
use Rattle.lt_tree.specs.Typing.Shapes.{place_among}
use Rattle.lt_tree.specs.Typing.Programs.{Program, made_of, with_new, types_of_struct}

-- whether a cell's type is an integer type, or a pointer's whose number passes a test
abbrev pub is_of : (ℕ → Bool) → CellType → Bool
is_of test (Num s) = true
is_of test (Pointer k) = test k

-- the cells of these blocks have such types
abbrev pub AreOf : (ℕ → Bool) → List BlockIn → Type 0
AreOf test blocks = AllByRecursion (λ (it : BlockIn). AllByRecursion (λ (cell : ShapeCell). is_of test cell.ty ≡ true) it.shape.cells) blocks

-- ---- lists of which the second has each type of the first

-- all of these types are among those
abbrev pub AreAmong : List CType → List CType → Type 0
AreAmong those types = AllByRecursion (λ t. list_any (same t) those ≡ true) types

-- A type of the first list has in the second the number that r gives of its number, and no other type has one of these numbers.
pub record HaveNumbers (r : ℕ → ℕ) (types others : List CType) : Type 0 where
  pub apart : (m n : ℕ) → m < length types → n < length types → r m ≡ r n → m ≡ n
  pub listed : (t : CType) → list_any (same (bare t)) types ≡ true → place_among 0 (bare t) others ≡ r (place_among 0 (bare t) types)
  pub unlisted : (t : CType) → list_any (same (bare t)) types ≡ false → (n : ℕ) → n < length types → place_among 0 (bare t) others ≡ r n → ⊥

-- The second program is the first with another list of types, in which these have the numbers that r gives. Objects and members of structs are made of types of
-- the first list.
pub record HasOtherTypes (r : ℕ → ℕ) (p q : Program) : Type 0 where
  pub but_for_types : q ≡ record p { types = q.types }
  pub numbers : HaveNumbers r p.types q.types
  pub objects : AllByRecursion (λ (object : Object). AreAmong p.types (made_of object.type)) p.objects
  pub members : AllByRecursion (λ (it : StructType). AreAmong p.types (types_of_struct it)) p.structs

-- the cells of these blocks have integer types, or types with numbers below this one
abbrev pub AreBelow : ℕ → List BlockIn → Type 0
AreBelow n blocks = AreOf (λ k. nat_lt k n) blocks

-- ---- lists that may both have some types

-- The numbers that r gives: that of a type of both lists in the second list, of its number in the first, and of no other number.
pub record Renumbers (r : ℕ → ℕ) (types others : List CType) : Type 0 where
  pub there : (t : CType) → list_any (same (bare t)) types ≡ true → list_any (same (bare t)) others ≡ true → place_among 0 (bare t) others ≡ r (place_among 0 (bare t) types)
  pub apart : (t : CType) → list_any (same (bare t)) types ≡ true → list_any (same (bare t)) others ≡ true → (n : ℕ) → r n ≡ place_among 0 (bare t) others → n ≡ place_among 0 (bare t) types

-- ---- lists of types of typed units

-- the numbers that the types of one list have in another, by their numbers in the first; what isn't the number of one becomes that of no type
abbrev pub numbers_in : List CType → List CType → ℕ → ℕ
numbers_in types others n = elim (slice_get types n) [ None ↦ length others | Some t ↦ place_among 0 t others ]

-- the types of members, of objects, of functions and of expressions, each behind the types of which it is made
abbrev pub types_of : Program → List CType
types_of p =
    flat_map types_of_struct p.structs
    ++ flat_map (λ (object : Object). made_of object.type) p.objects
    ++ flat_map (λ (f : Declared). made_of f.type) p.declared
    ++ flat_map (λ (fact : Fact). made_of fact.type) p.facts

-- the list of types has these, each once, as the typing of a unit makes it
abbrev pub HasItsTypes : Program → Type 0
HasItsTypes p = p.types ≡ with_new [] (types_of p)

-- Both programs have the same structs, and the second has an object of the type of each object of the first.
pub record HasTypesOfObjects (p q : Program) : Type 0 where
  pub structs : q.structs ≡ p.structs
  pub objects : AllByRecursion (λ (object : Object). list_any (λ (other : Object). same object.type other.type) q.objects ≡ true) p.objects

-- They also have the same declared functions, and the list of the second has each type that the first knows of an expression.
pub record KnowsTypesOf (p q : Program) : Type 0 where
  pub types_of_objects : HasTypesOfObjects p q
  pub declared : q.declared ≡ p.declared
  pub facts : AllByRecursion (λ (fact : Fact). list_any (same (bare fact.type)) q.types ≡ true) p.facts
