-- Where an expression of a typed unit is read, its value is no pointer to a function, also where an array is read: none is of functions.
use Rattle.std.specs.Prelude.{◌≡◌, ℕ, Bool, true, false}
use Rattle.std.specs.List.{AllByRecursion}
use Rattle.lt_model.specs.declared.scalar.DataModel.{DataModel}
use Rattle.lt_tree.specs.Tree as c
use Rattle.lt_tree.specs.Typing.Types.{CType, Array, Function, Qualified}
use Rattle.lt_tree.specs.Typing.Entities.{Known, Fact}
use Rattle.lt_tree.specs.Typing.Expressions.{Use, is_read, own_type, has_pointer_to_function}
use Rattle.lt_tree.specs.Typing.Programs.{Program}
use Rattle.lt_tree.specs.Typing.UnitTyping.{IsProgramTo}
use Rattle.lt_typed_nodes.specs.Coming.{ComesToIt}

-- ---- arrays of functions

-- a function, or an array of functions or of such arrays, whatever qualifiers it has
abbrev pub is_of_functions : CType → Bool
is_of_functions (Function t ts dots) = true
is_of_functions (Array t n) = is_of_functions t
is_of_functions (Qualified q t) = is_of_functions t
is_of_functions _ = false

-- an array of functions, or of such arrays
abbrev pub is_array_of_functions : CType → Bool
is_array_of_functions (Array t n) = is_of_functions t
is_array_of_functions (Qualified q t) = is_array_of_functions t
is_array_of_functions _ = false

-- ---- laws

-- The program of a unit notes of no expression that it is an array of functions.
abbrev pub NoFactIsAnArrayOfFunctions : Type 0
NoFactIsAnArrayOfFunctions =
    (greatest : ℕ) (model : DataModel) (unit : c.Unit) (program : Program) → IsProgramTo greatest model unit program
    → AllByRecursion (λ (fact : Fact). is_array_of_functions fact.type ≡ false) program.facts

-- So the value of an expression to which typing comes where it is read, as a test is, is no pointer to a function.
abbrev pub NoTestIsAPointerToAFunction : Type 0
NoTestIsAPointerToAFunction =
    (greatest : ℕ) (model : DataModel) (unit : c.Unit) (program : Program) → IsProgramTo greatest model unit program
    → (role : Use) (known : Known) (e : c.Expression) → (there : ComesToIt program.facts known role e) → is_read role ≡ true
    → has_pointer_to_function (own_type there.found) ≡ false
