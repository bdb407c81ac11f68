-- Examples: the use of a value that is missing, and what initialisers, assignments and copies meet, worked out.
use Rattle.std.specs.Prelude.{◌≡◌, ℕ, true, pos, List, [], ◌∷◌, codes, Some, None}
use Rattle.lt_model.specs.declared.operator.Op.TheVariants as op
use Rattle.lt_model.specs.declared.operator.Ub.TheVariants as U
use Rattle.lt_model.specs.declared.run.End.TheVariants.{Returned, Undefined}
use Rattle.lt_tree.specs.Tree as c
use Rattle.lt_tree.specs.declared.expression.UnaryOp.TheVariants as unary
use Rattle.lt_tree_laws.specs.Examples.{just, of_type, int, char, void, x, one, two, zero_constant, pointer, declares, abstract, missing, one_parameter}
use Rattle.lt_tree_laws.specs.Typing.ExampleTexts.{name, number, object, object_from, function, declaration_of, takes_int, takes_nothing, lone}
use Rattle.lt_meaning_runs.specs.Samples.{end_with, marks_with, returns_x}

-- a function that takes nothing
abbrev pub defined : c.Specifiers → List ℕ → c.Items → c.External
defined s w body = c.Defines s (declares w (takes_nothing c.no_parts)) body

abbrev pub call : List ℕ → c.Expressions → c.Expression
call w arguments = c.Call (name w) arguments

-- `h()`, where h comes to its end without a value
abbrev pub h : c.Expression
h = call (codes "h") c.no_expressions

-- `int h(void) { }` or `char h(void) { }`, and what stands behind it
abbrev pub behind_h : c.Specifiers → c.Unit → c.Unit
behind_h s rest = defined s (codes "h") c.no_items ∷ rest

abbrev pub returns_zero : c.Items
returns_zero = lone (c.Return (Some zero_constant))

abbrev pub evaluates_first : c.Expression → c.Items → c.Items
evaluates_first e rest = c.a_statement (c.Evaluates e) rest

abbrev pub IsMissing : c.Unit → ℕ → Type 0
IsMissing unit ticks = end_with unit (pos 1) ticks ≡ Some (Undefined U.NoValue)

-- `int h(void) { } int f(void) { return h(); }`, and with a conversion
abbrev pub MissingReturned : Type 0
MissingReturned = IsMissing (returning int) 100 × IsMissing (returning char) 100
  where
    returning : c.Specifiers → c.Unit
    returning s = behind_h s (defined int (codes "f") (lone (c.Return (Some h))) ∷ [])

-- `int g(int); int f(void) { return g(h()); }`, with and without a conversion, and with a body of g: before the tick of the call of g
abbrev pub MissingPassed : Type 0
MissingPassed = IsMissing (passing int without_body) 2 × IsMissing (passing char without_body) 2 × IsMissing (passing int with_body) 2
  where
    without_body : c.External
    without_body = object int (codes "g") (c.Function (c.Listed (one_parameter int missing)) c.no_parts)

    with_body : c.External
    with_body = c.Defines int (declares (codes "g") takes_int) returns_x

    passing : c.Specifiers → c.External → c.Unit
    passing s g = behind_h s (g ∷ defined int (codes "f") (lone (c.Return (Some (call (codes "g") (just h))))) ∷ [])

-- `void exit(int); int f(void) { exit(h()); return 0; }`
abbrev pub MissingForExit : Type 0
MissingForExit =
    IsMissing (behind_h int (object void (codes "exit") (c.Function (c.Listed (one_parameter int missing)) c.no_parts) ∷ defined int (codes "f") (evaluates_first (call (codes "exit") (just h)) returns_zero) ∷ [])) 100

-- `char h(void) { } int f(int x) { x ? h() : x; return 0; }`: the value of the branch is dropped, and so is its conversion
abbrev pub DroppedBranch : Type 0
DroppedBranch = end_with (behind_h char (function (evaluates_first (c.Conditional x h x) returns_zero) ∷ [])) (pos 1) 100 ≡ Some Returned

-- `int *main(void) { } int f(void) { return 1 / (main() == 0); }`
abbrev pub NullFromMain : Type 0
NullFromMain =
    end_with (c.Defines int (declares (codes "main") (takes_nothing (pointer c.no_parts))) c.no_items ∷ defined int (codes "f") (lone (c.Return (Some (c.Binary op.Div one (c.Binary op.Eq (call (codes "main") c.no_expressions) zero_constant))))) ∷ []) (pos 1) 100 ≡ Some Returned

-- `char h(int x) { } int f(int x) { (&x)[x = 0] = h(x); return x; }`: the clash comes before the conversion of the missing value.
abbrev pub ClashBeforeConversion : Type 0
ClashBeforeConversion =
    end_with (c.Defines char (declares (codes "h") takes_int) c.no_items ∷ function (evaluates_first (c.Assign None (c.Index (c.Unary unary.AddressOf x) (c.Assign None x zero_constant)) (call (codes "h") (just x))) returns_x) ∷ []) (pos 1) 100 ≡ Some (Undefined U.Unsequenced)

-- `int x = 1; int g(void) { x = 10; return 1; } int f(void) { x += g(); pc_label(x == 2, 1, "A"); return x; }`
abbrev pub ReadBeforeTheRightOperand : Type 0
ReadBeforeTheRightOperand = marks_with unit (pos 1) 100 ≡ Some ((1, true) ∷ [])
  where
    unit : c.Unit
    unit =
        object_from int (codes "x") c.no_parts (c.Value one) ∷ defined int (codes "g") (evaluates_first (c.Assign None x (number (codes "10"))) (lone (c.Return (Some one)))) ∷ defined int (codes "f") (evaluates_first (c.Assign (Some op.Add) x (call (codes "g") c.no_expressions)) (c.a_label (c.mark (c.Binary op.Eq x two) (codes "1") (codes "A") c.no_bindings) returns_x)) ∷ []

-- ---- structs

-- `struct s { int a; };`
abbrev pub struct_of : c.Specifiers → List ℕ → c.Specifiers
struct_of s w =
    of_type (c.Struct (Some (codes "s")) (c.a_member (c.member s (c.a_declarator (declares w c.no_parts) c.absent c.no_declarators)) c.no_members))

abbrev pub struct_s : c.Specifiers
struct_s = of_type (c.StructTag (codes "s"))

-- `struct s g[1];`
abbrev pub array_g : c.External
array_g = object struct_s (codes "g") (c.Array (c.present one) c.no_parts)

abbrev pub first_of_g : c.Expression → c.Expression
first_of_g index = c.Index (name (codes "g")) index

-- `struct s { int a; }; struct s g[1]; int f(void) { struct s x = g[x.a = 0]; return x.a; }`
abbrev pub FullExpressionOfAStart : Type 0
FullExpressionOfAStart = end_with unit (pos 1) 100 ≡ Some Returned
  where
    member : c.Expression
    member = c.Member x (codes "a")

    unit : c.Unit
    unit =
        c.Declared (record { specifiers = struct_of int (codes "a"); declarators = [] }) ∷ array_g ∷ defined int (codes "f") (c.a_declaration (declaration_of struct_s (codes "x") c.no_parts (Some (c.Value (first_of_g (c.Assign None member zero_constant))))) (lone (c.Return (Some member)))) ∷ []

-- `struct s { char c; }; struct s g[1]; int f(void) { int i; *(struct s *)&i = g[i = 0]; return 0; }`: the copy meets no cell.
abbrev pub CopyToOtherCells : Type 0
CopyToOtherCells = end_with unit (pos 1) 100 ≡ Some (Undefined U.NoCell)
  where
    i : c.Expression
    i = name (codes "i")

    unit : c.Unit
    unit =
        c.Declared (record { specifiers = struct_of char (codes "c"); declarators = [] }) ∷ array_g ∷ defined int (codes "f") (c.a_declaration (declaration_of int (codes "i") c.no_parts None) (evaluates_first (c.Assign None (c.Unary unary.Dereference (c.Cast struct_s (abstract (pointer c.no_parts)) (c.Unary unary.AddressOf i))) (first_of_g (c.Assign None i zero_constant))) returns_zero)) ∷ []

abbrev pub UsedValuesAreWorkedOut : Type 0
UsedValuesAreWorkedOut = MissingReturned × MissingPassed × MissingForExit × DroppedBranch × NullFromMain × ClashBeforeConversion × ReadBeforeTheRightOperand × FullExpressionOfAStart × CopyToOtherCells
