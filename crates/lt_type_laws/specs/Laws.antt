-- That numbers of types change nothing.
use Rattle.std.specs.Prelude.{◌≡◌, ℕ, true, List, [], length, slice_get, Some}
use Rattle.std.specs.List.{AllByRecursion, list_any}
use Rattle.lt_model.specs.declared.scalar.DataModel.{DataModel}
use Rattle.lt_model.specs.declared.input.Input.{Input}
use Rattle.lt_tree.specs.Tree as c
use Rattle.lt_tree.specs.Typing.Types.{CType, bare, same}
use Rattle.lt_tree.specs.Typing.Extents.{StructType}
use Rattle.lt_tree.specs.Typing.Entities.{Object, Function, Fact}
use Rattle.lt_tree.specs.Typing.UnitTyping.{IsProgramTo}
use Rattle.lt_tree.specs.Typing.Programs.{Program, made_of, types_of_struct, with_new}
use Rattle.lt_meaning.specs.Runs.{run}
use Rattle.lt_type_laws.specs.Accesses.{is_named_in, AccessesItems}
use Rattle.lt_type_laws.specs.Renumbered.{input_with, over_with}
use Rattle.lt_type_laws.specs.TypeLists.{AreAmong, Renumbers, HaveNumbers, HasOtherTypes, AreBelow, numbers_in, HasItsTypes, KnowsTypesOf}

-- A program with another list of types runs alike, where memory's cells have the numbers of that list.
abbrev pub OtherTypesChangeNothing : Type 0
OtherTypesChangeNothing =
    (r : ℕ → ℕ) (p q : Program) (f : Function) (input : Input) (ticks : ℕ) → HasOtherTypes r p q → AreBelow (length p.types) input.blocks
    → run q f (input_with r input) ticks ≡ over_with r (run p f input ticks)

-- Where each type of a list is in another, and both have each type once, the types of the first have numbers in the second.
abbrev pub TypesAreRenumbered : Type 0
TypesAreRenumbered =
    (types others ts us : List CType) → types ≡ with_new [] ts → others ≡ with_new [] us
    → ((t : CType) → list_any (same t) types ≡ true → list_any (same t) others ≡ true) → HaveNumbers (numbers_in types others) types others

-- The types of both lists have numbers in the second, where both have each type once.
abbrev pub ListsHaveNumbers : Type 0
ListsHaveNumbers = (types others ts us : List CType) → types ≡ with_new [] ts → others ≡ with_new [] us → Renumbers (numbers_in types others) types others

-- The list of types of a unit's program is of the types of members, objects, functions and expressions, each once.
abbrev pub UnitsHaveTheirTypes : Type 0
UnitsHaveTheirTypes = (greatest : ℕ) (model : DataModel) (unit : c.Unit) (p : Program) → IsProgramTo greatest model unit p → HasItsTypes p

-- So the list has each type that the program knows of an expression, without qualifiers.
abbrev pub KnownTypesAreListed : Type 0
KnownTypesAreListed = (p : Program) → HasItsTypes p → (t : CType) → list_any (λ (fact : Fact). same t fact.type) p.facts ≡ true → list_any (same (bare t)) p.types ≡ true

-- A program has another list of types if it gets that of a program which knows its types.
abbrev pub ProgramsAreRenumbered : Type 0
ProgramsAreRenumbered = (p q : Program) → HasItsTypes p → HasItsTypes q → KnowsTypesOf p q → HasOtherTypes (numbers_in p.types q.types) p (record p { types = q.types })

-- each type by which functions of a program get at memory is named in a list
abbrev pub FunctionsAccess : List CType → List Function → Type 0
FunctionsAccess types functions = AllByRecursion (λ (f : Function). AccessesItems (is_named_in types) f.body) functions

-- A program whose code gets at memory by types of both lists alone, and whose objects and members of structs are made of such, runs with the other list as it
-- does with its own on every input, whatever types its cells have.
abbrev pub AccessedTypesChangeNothing : Type 0
AccessedTypesChangeNothing =
    (r : ℕ → ℕ) (p q : Program) (n : ℕ) (f : Function) (input : Input) (ticks : ℕ) → q ≡ record p { types = q.types } → Renumbers r p.types q.types
    → AllByRecursion (λ (object : Object). AreAmong p.types (made_of object.type) × AreAmong q.types (made_of object.type)) p.objects
    → AllByRecursion (λ (it : StructType). AreAmong p.types (types_of_struct it) × AreAmong q.types (types_of_struct it)) p.structs
    → FunctionsAccess p.types p.functions → FunctionsAccess q.types p.functions → slice_get p.functions n ≡ Some f
    → run q f (input_with r input) ticks ≡ over_with r (run p f input ticks)
