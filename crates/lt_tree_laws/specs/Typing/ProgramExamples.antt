-- Examples: what typed programs hold.
use Rattle.std.specs.Prelude.{◌≡◌, ℕ, pos, false, true, List, [], ◌∷◌, codes, slice_get, Option, Some, None, option_map, option_and_then}
use Rattle.lt_model.specs.declared.operator.Op.TheVariants as op
use Rattle.lt_model.specs.declared.scalar.Scalar.TheVariants as S
use Rattle.lt_model.specs.declared.cell.Shape.{Shape}
use Rattle.lt_model.specs.declared.cell.ShapeCell.{ShapeCell}
use Rattle.lt_model.specs.declared.cell.CellType.TheVariants as cell
use Rattle.lt_model.specs.declared.scalar.DataModel.{DataModel}
use Rattle.lt_model.specs.declared.scalar.DataModel.TheVariants.{Ilp32, Lp64}
use Rattle.lt_tree.specs.declared.expression.UnaryOp.TheVariants as unary
use Rattle.lt_tree.specs.Tree as c
use Rattle.lt_tree.specs.Tree.{Binary}
use Rattle.lt_tree_laws.specs.Examples.{a, b, just, missing, void, int, char, x, one, two, zero_constant, pointer}
use Rattle.lt_tree.specs.Typing.Types.{CType, Void, Num, Pointer, Array, Struct}
use Rattle.lt_tree.specs.Typing.Constants.{number, address}
use Rattle.lt_tree.specs.Typing.TypedTree.{Value, Place, Items, Part, Whole, Call, After, a_value, no_values, mark, no_bindings, to_void, a_label, Start, StartPart, Constant, Load, Decay, AddressOf, Convert, Arithmetic, Assign, Update, Step, to_integer, to_null, on_left, before, Object, Pointed, Element, stored, fixed, letters, no_items, a_local, a_statement, Evaluates, Return}
use Rattle.lt_tree.specs.Typing.Programs.{Program, Typing, typed, broken}
use Rattle.lt_tree.specs.Typing.UnitTyping.{typing}
use Rattle.lt_tree.specs.Typing.Shapes.{shape_of}
use Rattle.lt_tree_laws.specs.Typing.ExampleTexts.{name, long, declaration_of, object, object_from, value, braces_of_two, array_of_length, function, struct_specifiers, struct_tag, takes_int}

abbrev pub program_in : Typing → Option Program
program_in (typed program) = Some program
program_in (broken rule node) = None

abbrev pub programmed : DataModel → c.Unit → Option Program
programmed model unit = program_in (typing model unit)

-- the body of the first function that has one
abbrev pub first_body : c.Unit → Option Items
first_body unit = option_and_then (λ program. option_map (λ f. f.body) (slice_get program.functions 0)) (programmed Lp64 unit)

-- the object of this number, as it starts
abbrev pub start_of : c.Unit → ℕ → Option Start
start_of unit n = option_and_then (λ program. option_and_then (λ it. it.start) (slice_get program.objects n)) (programmed Lp64 unit)

-- what memory has of it
abbrev pub shape_in : DataModel → c.Unit → ℕ → Option Shape
shape_in model unit n =
    option_and_then (λ program. option_map (λ it. shape_of model program.structs program.types it.type) (slice_get program.objects n)) (programmed model unit)

abbrev pub an_int : CType
an_int = Num S.Int

abbrev pub y : c.Expression
y = name (codes "y")

-- the value of the parameter, which is the first object
abbrev pub loaded : ℕ → Value
loaded n = Load an_int (Object an_int n)

-- `int f(int x) { long y = x; y += x; x++; return y + 1; }`
abbrev pub ConversionsAreWrittenOut : Type 0
ConversionsAreWrittenOut =
    first_body (function (c.a_declaration (declaration_of long (codes "y") c.no_parts (Some (value x)))
    (c.a_statement (c.Evaluates (c.Assign (Some op.Add) y x))
    (c.a_statement (c.Evaluates (c.PostInc x))
    (c.a_statement (c.Return (Some (Binary op.Add y one))) c.no_items)))) ∷ [])
    ≡ Some (a_local (record { object = 1; start = Some (record { zeroed = false; parts = stored_at_start }) })
    (a_statement (Evaluates (Update a_long op.Add S.Long (Object a_long 1) (Convert to_integer a_long (loaded 0))))
    (a_statement (Evaluates (Step an_int before op.Add S.Int (Object an_int 0)))
    (a_statement (Return (Some (Convert to_integer an_int (Arithmetic a_long op.Add S.Long (Load a_long (Object a_long 1)) (Convert to_integer a_long (Constant an_int (pos 1))))))) no_items))))
  where
    a_long : CType
    a_long = Num S.Long

    stored_at_start : List StartPart
    stored_at_start = stored 0 (Convert to_integer a_long (loaded 0)) ∷ []

-- `int a[3]; int *p; int f(int x) { p = &a[x]; p = 0; return *p; }`
abbrev pub PlacesStayPlaces : Type 0
PlacesStayPlaces =
    first_body (object int (codes "a") (array_of_length (codes "3")) ∷ object int (codes "p") (pointer c.no_parts)
    ∷ function (c.a_statement (c.Evaluates (c.Assign None p (c.Unary unary.AddressOf (c.Index (name (codes "a")) x))))
    (c.a_statement (c.Evaluates (c.Assign None p zero_constant))
    (c.a_statement (c.Return (Some (c.Unary unary.Dereference p))) c.no_items))) ∷ [])
    ≡ Some (a_statement (Evaluates (Assign to_int (Object to_int 1) (AddressOf to_int (Element an_int 4 on_left (Decay to_int (Object (Array an_int 3) 0)) (loaded 2)))))
    (a_statement (Evaluates (Assign to_int (Object to_int 1) (Convert to_null to_int (Constant an_int (pos 0)))))
    (a_statement (Return (Some (Load an_int (Pointed an_int (Load to_int (Object to_int 1)))))) no_items)))
  where
    p : c.Expression
    p = name (codes "p")

    to_int : CType
    to_int = Pointer an_int

-- `struct s { int m; int n[2]; } a, b; int g(int x); int f(int x) { a = b; (void)g(a.n[1]); g(x); pc_label(x, 1, "A"); return pc_after(x, 2, "A"); }`
-- The parameter of the prototype is never made, but has a number too.
abbrev pub CallsAndMarksStay : Type 0
CallsAndMarksStay =
    first_body (object struct_specifiers (codes "a") c.no_parts ∷ object struct_tag (codes "b") c.no_parts ∷ object int (codes "g") takes_int
    ∷ function (c.a_statement (c.Evaluates (c.Assign None a b))
    (c.a_statement (c.Evaluates (c.Cast void missing (c.Call g (just (c.Index (c.Member a (codes "n")) one)))))
    (c.a_statement (c.Evaluates (c.Call g (just x)))
    (c.a_label (c.mark x (codes "1") (codes "A") c.no_bindings)
    (c.a_statement (c.Return (Some (c.After x (codes "2") (codes "A")))) c.no_items))))) ∷ [])
    ≡ Some (a_statement (Evaluates (Assign a_struct (Object a_struct 0) (Whole a_struct (Object a_struct 1))))
    (a_statement (Evaluates (Convert to_void Void (Call an_int (codes "g") (a_value (Load an_int second) no_values))))
    (a_statement (Evaluates (Call an_int (codes "g") (a_value (loaded 3) no_values)))
    (a_label (mark (loaded 3) 1 no_bindings)
    (a_statement (Return (Some (After an_int (loaded 3) 2))) no_items)))))
  where
    g : c.Expression
    g = name (codes "g")

    a_struct : CType
    a_struct = Struct 0

    second : Place
    second = Element an_int 4 on_left (Decay (Pointer an_int) (Part (Array an_int 2) 4 (Object a_struct 0))) (Constant an_int (pos 1))

-- `struct s { int m; int n[2]; } a = { 1, 2 };`, and with inner braces; `int *p = &a.n[1];`; `char t[3] = "ab";`
abbrev pub InitialisersAreSpread : Type 0
InitialisersAreSpread =
    (start_of (a_from (braces_of_two (value one) (value two)) ∷ []) 0 ≡ Some (record { zeroed = true; parts = fixed 0 an_int (number (pos 1)) ∷ fixed 4 an_int (number (pos 2)) ∷ [] }))
    × (start_of (a_from (braces_of_two (value two) (braces_of_two (value one) (value two))) ∷ []) 0
    ≡ Some (record { zeroed = true; parts = fixed 0 an_int (number (pos 2)) ∷ fixed 4 an_int (number (pos 1)) ∷ fixed 8 an_int (number (pos 2)) ∷ [] }))
    × (start_of (a_from (braces_of_two (value one) (value two)) ∷ object_from int (codes "p") (pointer c.no_parts) (value (c.Unary unary.AddressOf (c.Index (c.Member (name (codes "a")) (codes "n")) one))) ∷ []) 1
    ≡ Some (record { zeroed = false; parts = fixed 0 (Pointer an_int) (address 0 8) ∷ [] }))
    × (start_of (object_from char (codes "t") (array_of_length (codes "3")) (value (c.Text (codes "ab"))) ∷ []) 0
    ≡ Some (record { zeroed = true; parts = letters 0 S.Char (codes "ab") ∷ [] }))
  where
    a_from : c.Initialiser → c.External
    a_from start = object_from struct_specifiers (codes "a") c.no_parts start

-- `struct s { int m; int n[2]; } a;` and `int *p[2];`
abbrev pub ObjectsHaveCells : Type 0
ObjectsHaveCells =
    (shape_in Lp64 (object struct_specifiers (codes "a") c.no_parts ∷ []) 0 ≡ Some (record { cells = whole 0 ∷ whole 4 ∷ whole 8 ∷ []; size = 12 }))
    × (shape_in Lp64 pointers 0 ≡ Some (record { cells = pointing 0 ∷ pointing 8 ∷ []; size = 16 }))
    × (shape_in Ilp32 pointers 0 ≡ Some (record { cells = pointing 0 ∷ pointing 4 ∷ []; size = 8 }))
  where
    whole : ℕ → ShapeCell
    whole offset = record { offset = offset; ty = cell.Num S.Int }

    -- behind `int`, which it is made of
    pointing : ℕ → ShapeCell
    pointing offset = record { offset = offset; ty = cell.Pointer 1 }

    pointers : c.Unit
    pointers = object int (codes "p") (c.Array (c.present two) (pointer c.no_parts)) ∷ []
