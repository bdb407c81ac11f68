-- Examples: small units with the marks of criteria, as they are written.
use Rattle.std.specs.Prelude.{◌≡◌, ℕ, ◌+◌, List, [], ◌∷◌, length, codes, true, false, Option, Some, None}
use Rattle.lt_model.specs.declared.operator.Op.TheVariants as op
use Rattle.lt_model.specs.declared.scalar.DataModel.{DataModel}
use Rattle.lt_model.specs.declared.scalar.DataModel.TheVariants.{Lp64, Lp64U}
use Rattle.lt_tree.specs.declared.expression.UnaryOp.TheVariants as unary
use Rattle.lt_tree.specs.declared.expression.LogicalOp.{LogicalOp}
use Rattle.lt_tree.specs.declared.expression.LogicalOp.TheVariants as logical
use Rattle.lt_tree.specs.declared.specifier.BasicType.TheVariants as basic
use Rattle.lt_tree.specs.declared.specifier.Storage.TheVariants as storage
use Rattle.lt_tree.specs.Grammar.{no_words, with_storage}
use Rattle.lt_tree.specs.Tree as c
use Rattle.lt_tree.specs.CanonUnits.{canon}
use Rattle.lt_tree_laws.specs.Examples.{just, pair, int, char, x, one, two, zero_constant, pointer, array_of_three, declares, a, b, missing}
use Rattle.lt_tree_laws.specs.WrittenStatements.{in_lines}
use Rattle.lt_tree_laws.specs.Typing.ExampleTexts.{name, number, object, declaration_of, basic_specifiers, qualified_int}
use Rattle.lt_tree.specs.Typing.Programs.{typed, broken}
use Rattle.lt_tree.specs.Typing.UnitTyping.{typing}
use Rattle.lt_objectives.specs.declared.criteria.Criterion.{Criterion}
use Rattle.lt_objectives.specs.declared.criteria.Criterion.TheVariants as C
use Rattle.lt_objectives.specs.Criteria.{bit_of}
use Rattle.lt_objectives.specs.Objectives.{objectives}
use Rattle.lt_objectives.specs.Marked.{marked}

-- the unit with the marks of a set of criteria, numbered from an id; nothing where a rule is broken
abbrev pub marked_from : ℕ → DataModel → c.Unit → ℕ → c.Unit
marked_from id model unit set = elim (typing model unit) [ typed program ↦ marked unit program set id | broken rule node ↦ [] ]

abbrev pub marked_in : DataModel → c.Unit → ℕ → c.Unit
marked_in = marked_from 1

abbrev pub IsMarkedAs : c.Unit → ℕ → List (List ℕ) → Type 0
IsMarkedAs unit set ls = canon (marked_in Lp64 unit set) ≡ in_lines ls

abbrev pub IsMarkedFrom : ℕ → c.Unit → ℕ → List (List ℕ) → Type 0
IsMarkedFrom id unit set ls = canon (marked_from id Lp64 unit set) ≡ in_lines ls

-- how many objectives of a criterion the unit has
abbrev pub count_of : c.Unit → Criterion → Option ℕ
count_of unit criterion = elim (typing Lp64 unit) [ typed program ↦ Some (length (objectives unit program criterion)) | broken rule node ↦ None ]

-- ---- texts

-- a function `f` of these parameters that gives an `int`
abbrev pub function_of : c.ParameterList → c.Items → c.External
function_of list body = c.Defines int (declares (codes "f") (c.Function (c.Listed list) c.no_parts)) body

abbrev pub parameter : c.Specifiers → List ℕ → c.Parts → c.ParameterList → c.ParameterList
parameter s w parts rest = c.a_parameter s (declares w parts) rest

abbrev pub takes_x : c.Specifiers → c.ParameterList
takes_x s = parameter s (codes "x") c.no_parts c.no_parameters

abbrev pub takes_a_and_b : c.ParameterList
takes_a_and_b = parameter int (codes "a") c.no_parts (parameter int (codes "b") c.no_parts c.no_parameters)

abbrev pub c_name : c.Expression
c_name = name (codes "c")

abbrev pub takes_a_b_and_c : c.ParameterList
takes_a_b_and_c =
    parameter int (codes "a") c.no_parts (parameter int (codes "b") c.no_parts (parameter int (codes "c") c.no_parts c.no_parameters))

abbrev pub returns : c.Expression → c.Items
returns e = c.a_statement (c.Return (Some e)) c.no_items

-- `if (test) return 1; return 0;`
abbrev pub decides_by : c.Expression → c.Items
decides_by test = c.a_statement (c.If test (c.Return (Some one))) (returns zero_constant)

abbrev pub is_positive : c.Expression → c.Expression
is_positive e = c.Binary op.Gt e zero_constant

abbrev pub both_or_either : LogicalOp → c.Unit
both_or_either op = function_of takes_a_and_b (decides_by (c.Logical op a b)) ∷ []

-- `int f(int x) { if (x > 0) return 1; return 0; }`
abbrev pub tests_x : c.Unit
tests_x = function_of (takes_x int) (decides_by (is_positive x)) ∷ []

-- `int f(int n) { int i; i = 0; while (i < n) i++; return i; }`
abbrev pub counts : c.Unit
counts =
    function_of (parameter int (codes "n") c.no_parts c.no_parameters)
    (c.a_declaration (declaration_of int (codes "i") c.no_parts None)
    (c.a_statement (c.Evaluates (c.Assign None i zero_constant))
    (c.a_statement (c.While (c.Binary op.Lt i (name (codes "n"))) (c.Evaluates (c.PostInc i))) (returns i)))) ∷ []
  where
    i : c.Expression
    i = name (codes "i")

-- `int f(int *p) { if (p && *p > 3) return 1; return 0; }`
abbrev pub follows_p : c.Unit
follows_p =
    function_of (parameter int (codes "p") (pointer c.no_parts) c.no_parameters)
    (decides_by (c.Logical logical.And p (c.Binary op.Gt (c.Unary unary.Dereference p) (number (codes "3"))))) ∷ []
  where
    p : c.Expression
    p = name (codes "p")

-- `int f(int a, int b) { return a + b; }`
abbrev pub adds : c.Unit
adds = function_of takes_a_and_b (returns (c.Binary op.Add a b)) ∷ []

-- `T f(T x) { return x; }`, but that it gives an `int`
abbrev pub gives_x : c.Specifiers → c.Unit
gives_x s = function_of (takes_x s) (returns x) ∷ []

-- `int g(int); int f(int x) { if (g(x) > 0) return 1; return 0; }`
abbrev pub asks_g : c.Unit
asks_g =
    object int (codes "g") (c.Function (c.Listed (c.a_parameter int missing c.no_parameters)) c.no_parts)
    ∷ function_of (takes_x int) (decides_by (is_positive (c.Call (name (codes "g")) (just x)))) ∷ []

-- `int g(void) { } int f(int x) { if (pc_after(g(), 1, "old")) return 1; return 0; }`
abbrev pub tests_nothing : c.Unit
tests_nothing =
    c.Defines int (declares (codes "g") (c.Function c.Void c.no_parts)) c.no_items
    ∷ function_of (takes_x int) (decides_by (c.After (c.Call (name (codes "g")) c.no_expressions) (codes "1") (codes "old"))) ∷ []

-- a label that the text has already
abbrev pub old_label : c.Expression → List ℕ → c.Mark
old_label predicate id = c.mark predicate id (codes "old") c.no_bindings

-- ---- decisions

abbrev pub DecisionsAreMarked : Type 0
DecisionsAreMarked =
    IsMarkedAs [] (bit_of C.Decision) []
    × IsMarkedAs tests_x (bit_of C.Decision)
    (codes "int f(int x) {"
    ∷ codes "  if (pc_label(x > 0, 1, \"DC\"), pc_label(!(x > 0), 2, \"DC\"), x > 0)"
    ∷ codes "    return 1;"
    ∷ codes "  return 0;"
    ∷ codes "}" ∷ [])
    × IsMarkedAs counts (bit_of C.Decision)
    (codes "int f(int n) {"
    ∷ codes "  int i;"
    ∷ codes "  i = 0;"
    ∷ codes "  while (pc_label(i < n, 1, \"DC\"), pc_label(!(i < n), 2, \"DC\"), i < n)"
    ∷ codes "    i++;"
    ∷ codes "  return i;"
    ∷ codes "}" ∷ [])
    × IsMarkedAs asks_g (bit_of C.Decision)
    (codes "int g(int);"
    ∷ codes "int f(int x) {"
    ∷ codes "  if (pc_decide(g(x) > 0, 1, 2, \"DC\"))"
    ∷ codes "    return 1;"
    ∷ codes "  return 0;"
    ∷ codes "}" ∷ [])

-- a decision and its one clause, which isn't pure: that of the clause stands inside
abbrev pub ClausesAreMarked : Type 0
ClausesAreMarked =
    IsMarkedAs asks_g (bit_of C.Decision + bit_of C.Condition)
    (codes "int g(int);"
    ∷ codes "int f(int x) {"
    ∷ codes "  if (pc_decide(pc_decide(g(x) > 0, 3, 4, \"CC\"), 1, 2, \"DC\"))"
    ∷ codes "    return 1;"
    ∷ codes "  return 0;"
    ∷ codes "}" ∷ [])
    × IsMarkedAs (both_or_either logical.And) (bit_of C.Condition)
    (codes "int f(int a, int b) {"
    ∷ codes "  if ((pc_label(a, 1, \"CC\"), pc_label(!a, 2, \"CC\"), a) && (pc_label(b, 3, \"CC\"), pc_label(!b, 4, \"CC\"), b))"
    ∷ codes "    return 1;"
    ∷ codes "  return 0;"
    ∷ codes "}" ∷ [])

-- ---- combinations of clauses

abbrev pub CombinationsAreMarked : Type 0
CombinationsAreMarked =
    IsMarkedAs (both_or_either logical.And) (bit_of C.MultipleCondition)
    (codes "int f(int a, int b) {"
    ∷ codes "  if (pc_label(a && b, 1, \"MCC\"), pc_label(a && !b, 2, \"MCC\"), pc_label(!a && b, 3, \"MCC\"), pc_label(!a && !b, 4, \"MCC\"), a && b)"
    ∷ codes "    return 1;"
    ∷ codes "  return 0;"
    ∷ codes "}" ∷ [])
    × IsMarkedAs (both_or_either logical.Or) (bit_of C.GeneralActiveClause)
    (codes "int f(int a, int b) {"
    ∷ codes "  if (pc_label(a && (1 || b) != (0 || b), 1, \"GACC\"), pc_label(!a && (1 || b) != (0 || b), 2, \"GACC\"), pc_label(b && (a || 1) != (a || 0), 3, \"GACC\"), pc_label(!b && (a || 1) != (a || 0), 4, \"GACC\"), a || b)"
    ∷ codes "    return 1;"
    ∷ codes "  return 0;"
    ∷ codes "}" ∷ [])

-- the clauses of a negation are those of its operand
abbrev pub ClausesOfNegationsAreReplaced : Type 0
ClausesOfNegationsAreReplaced =
    IsMarkedAs unit (bit_of C.GeneralActiveClause)
    (codes "int f(int a, int b, int c) {"
    ∷ codes "  if (pc_label(a && (1 && !(b || c)) != (0 && !(b || c)), 1, \"GACC\"), pc_label(!a && (1 && !(b || c)) != (0 && !(b || c)), 2, \"GACC\"), pc_label(b && (a && !(1 || c)) != (a && !(0 || c)), 3, \"GACC\"), pc_label(!b && (a && !(1 || c)) != (a && !(0 || c)), 4, \"GACC\"), pc_label(c && (a && !(b || 1)) != (a && !(b || 0)), 5, \"GACC\"), pc_label(!c && (a && !(b || 1)) != (a && !(b || 0)), 6, \"GACC\"), a && !(b || c))"
    ∷ codes "    return 1;"
    ∷ codes "  return 0;"
    ∷ codes "}" ∷ [])
  where
    unit : c.Unit
    unit = function_of takes_a_b_and_c (decides_by (c.Logical logical.And a (c.Unary unary.Not (c.Logical logical.Or b c_name)))) ∷ []

-- a constant clause has no labels of its own, but counts among the clauses of its decision
abbrev pub ConstantClausesCount : Type 0
ConstantClausesCount =
    IsMarkedAs unit (bit_of C.Condition)
    (codes "int f(int x) {"
    ∷ codes "  if ((pc_label(x, 1, \"CC\"), pc_label(!x, 2, \"CC\"), x) && 1)"
    ∷ codes "    return 1;"
    ∷ codes "  return 0;"
    ∷ codes "}" ∷ [])
    × IsMarkedAs unit (bit_of C.MultipleCondition)
    (codes "int f(int x) {"
    ∷ codes "  if (pc_label(x && 1, 1, \"MCC\"), pc_label(x && !1, 2, \"MCC\"), pc_label(!x && 1, 3, \"MCC\"), pc_label(!x && !1, 4, \"MCC\"), x && 1)"
    ∷ codes "    return 1;"
    ∷ codes "  return 0;"
    ∷ codes "}" ∷ [])
    × IsMarkedAs unit (bit_of C.GeneralActiveClause)
    (codes "int f(int x) {"
    ∷ codes "  if (pc_label(x && (1 && 1) != (0 && 1), 1, \"GACC\"), pc_label(!x && (1 && 1) != (0 && 1), 2, \"GACC\"), pc_label(1 && (x && 1) != (x && 0), 3, \"GACC\"), pc_label(!1 && (x && 1) != (x && 0), 4, \"GACC\"), x && 1)"
    ∷ codes "    return 1;"
    ∷ codes "  return 0;"
    ∷ codes "}" ∷ [])
  where
    unit : c.Unit
    unit = function_of (takes_x int) (decides_by (c.Logical logical.And x one)) ∷ []

-- a decision of 8 clauses has combinations, one of 9 has none; each clause has its labels in both
abbrev pub EightClausesAreTheMost : Type 0
EightClausesAreTheMost =
    (count_of (tests eight) C.MultipleCondition ≡ Some 256)
    × (count_of (tests eight) C.GeneralActiveClause ≡ Some 16)
    × (count_of (tests nine) C.MultipleCondition ≡ Some 0)
    × (count_of (tests nine) C.GeneralActiveClause ≡ Some 0)
    × (count_of (tests nine) C.Condition ≡ Some 18)
  where
    and : c.Expression → c.Expression → c.Expression
    and left right = c.Logical logical.And left right

    four : c.Expression
    four = and (and x x) (and x x)

    eight : c.Expression
    eight = and four four

    nine : c.Expression
    nine = and eight x

    tests : c.Expression → c.Unit
    tests test = function_of (takes_x int) (decides_by test) ∷ []

-- ---- the start of functions

abbrev pub StartsAreMarked : Type 0
StartsAreMarked =
    IsMarkedAs (function_of (parameter (basic_specifiers basic.Unsigned) (codes "u") c.no_parts c.no_parameters) (returns zero_constant) ∷ []) (bit_of C.InputDomain)
    (codes "int f(unsigned u) {"
    ∷ codes "  pc_label(u == 0, 1, \"IDC\");"
    ∷ codes "  pc_label(u > 0, 2, \"IDC\");"
    ∷ codes "  return 0;"
    ∷ codes "}" ∷ [])
    × IsMarkedAs (gives_x char) (bit_of C.Function + bit_of C.InputDomain)
    (codes "int f(char x) {"
    ∷ codes "  pc_label(1, 1, \"FC\");"
    ∷ codes "  pc_label(x < 0, 2, \"IDC\");"
    ∷ codes "  pc_label(x == 0, 3, \"IDC\");"
    ∷ codes "  pc_label(x > 0, 4, \"IDC\");"
    ∷ codes "  return x;"
    ∷ codes "}" ∷ [])
    -- where plain `char` is unsigned
    × (canon (marked_in Lp64U (gives_x char) (bit_of C.InputDomain + bit_of C.AbsoluteValue))
    ≡ in_lines (codes "int f(char x) {" ∷ codes "  pc_label(x == 0, 1, \"IDC\");" ∷ codes "  pc_label(x > 0, 2, \"IDC\");" ∷ codes "  return x;" ∷ codes "}" ∷ []))

-- Pointers, arrays among them, are null or not; `_Bool` is unsigned; what is volatile itself has no labels, a pointer to what is volatile has.
abbrev pub ParametersAreMarked : Type 0
ParametersAreMarked =
    IsMarkedAs (function_of list (returns zero_constant) ∷ []) (bit_of C.InputDomain)
    (codes "int f(int *p, int t[3], volatile int v, int *volatile q, volatile int *r, _Bool b) {"
    ∷ codes "  pc_label(p == 0, 1, \"IDC\");"
    ∷ codes "  pc_label(p != 0, 2, \"IDC\");"
    ∷ codes "  pc_label(t == 0, 3, \"IDC\");"
    ∷ codes "  pc_label(t != 0, 4, \"IDC\");"
    ∷ codes "  pc_label(r == 0, 5, \"IDC\");"
    ∷ codes "  pc_label(r != 0, 6, \"IDC\");"
    ∷ codes "  pc_label(b == 0, 7, \"IDC\");"
    ∷ codes "  pc_label(b > 0, 8, \"IDC\");"
    ∷ codes "  return 0;"
    ∷ codes "}" ∷ [])
  where
    volatile_int : c.Specifiers
    volatile_int = qualified_int false true

    list : c.ParameterList
    list =
        parameter int (codes "p") (pointer c.no_parts)
        (parameter int (codes "t") (array_of_three c.no_parts)
        (parameter volatile_int (codes "v") c.no_parts
        (parameter int (codes "q") (c.Pointer (record { constant = false; volatile = true }) c.no_parts)
        (parameter volatile_int (codes "r") (pointer c.no_parts)
        (parameter (basic_specifiers basic.Bool) (codes "b") c.no_parts c.no_parameters)))))

-- ---- mutants

abbrev pub MutantsAreMarked : Type 0
MutantsAreMarked =
    IsMarkedAs follows_p (bit_of C.RelationalOperator)
    (codes "int f(int *p) {"
    ∷ codes "  if (p && (pc_label(*p > 3 != *p < 3, 1, \"ROR\"), pc_label(*p > 3 != *p <= 3, 2, \"ROR\"), pc_label(*p > 3 != *p >= 3, 3, \"ROR\"), pc_label(*p > 3 != (*p == 3), 4, \"ROR\"), pc_label(*p > 3 != (*p != 3), 5, \"ROR\"), *p > 3))"
    ∷ codes "    return 1;"
    ∷ codes "  return 0;"
    ∷ codes "}" ∷ [])
    × IsMarkedAs adds (bit_of C.ArithmeticOperator)
    (codes "int f(int a, int b) {"
    ∷ codes "  return pc_label(a + b != a - b, 1, \"AOR\"), pc_label(a + b != a * b, 2, \"AOR\"), pc_label(a + b != a / b, 3, \"AOR\"), pc_label(a + b != a % b, 4, \"AOR\"), a + b;"
    ∷ codes "}" ∷ [])
    × IsMarkedAs (gives_x int) (bit_of C.AbsoluteValue)
    (codes "int f(int x) {"
    ∷ codes "  return pc_label(x != (x < 0 ? -x : x), 1, \"ABS\"), pc_label(x != -(x < 0 ? -x : x), 2, \"ABS\"), x;"
    ∷ codes "}" ∷ [])
    × IsMarkedAs (both_or_either logical.And) (bit_of C.Decision + bit_of C.LogicalConnector)
    (codes "int f(int a, int b) {"
    ∷ codes "  if (pc_label(a && b, 1, \"DC\"), pc_label(!(a && b), 2, \"DC\"), pc_label((a && b) != (a || b), 3, \"COR\"), a && b)"
    ∷ codes "    return 1;"
    ∷ codes "  return 0;"
    ∷ codes "}" ∷ [])

-- The type of a comma expression is that of its last part, whatever marks stand around that.
abbrev pub CommasHaveTheTypeOfTheirLastPart : Type 0
CommasHaveTheTypeOfTheirLastPart =
    IsMarkedAs (gives (c.Binary op.Add comma c_name)) (bit_of C.ArithmeticOperator)
    (codes "int f(int a, int b, int c) {"
    ∷ codes "  return pc_label((a, b) + c != (a, b) - c, 1, \"AOR\"), pc_label((a, b) + c != (a, b) * c, 2, \"AOR\"), pc_label((a, b) + c != (a, b) / c, 3, \"AOR\"), pc_label((a, b) + c != (a, b) % c, 4, \"AOR\"), (a, b) + c;"
    ∷ codes "}" ∷ [])
    × IsMarkedAs (gives (c.Binary op.Lt comma c_name)) (bit_of C.RelationalOperator)
    (codes "int f(int a, int b, int c) {"
    ∷ codes "  return pc_label((a, b) < c != (a, b) <= c, 1, \"ROR\"), pc_label((a, b) < c != (a, b) > c, 2, \"ROR\"), pc_label((a, b) < c != (a, b) >= c, 3, \"ROR\"), pc_label((a, b) < c != ((a, b) == c), 4, \"ROR\"), pc_label((a, b) < c != ((a, b) != c), 5, \"ROR\"), (a, b) < c;"
    ∷ codes "}" ∷ [])
    × IsMarkedAs (gives (c.Binary op.Eq comma c_name)) (bit_of C.RelationalOperator)
    (codes "int f(int a, int b, int c) {"
    ∷ codes "  return pc_label((a, b) == c != (a, b) < c, 1, \"ROR\"), pc_label((a, b) == c != (a, b) <= c, 2, \"ROR\"), pc_label((a, b) == c != (a, b) > c, 3, \"ROR\"), pc_label((a, b) == c != (a, b) >= c, 4, \"ROR\"), pc_label((a, b) == c != ((a, b) != c), 5, \"ROR\"), (a, b) == c;"
    ∷ codes "}" ∷ [])
    × IsMarkedFrom 6 (gives (c.Binary op.Rem c_name (c.Comma (pair a (c.Marked (c.a_mark (old_label a (codes "5")) c.no_marks) comma))))) (bit_of C.ArithmeticOperator)
    (codes "int f(int a, int b, int c) {"
    ∷ codes "  return pc_label(c % (a, (a, b)) != c + (a, (a, b)), 6, \"AOR\"), pc_label(c % (a, (a, b)) != c - (a, (a, b)), 7, \"AOR\"), pc_label(c % (a, (a, b)) != c * (a, (a, b)), 8, \"AOR\"), pc_label(c % (a, (a, b)) != c / (a, (a, b)), 9, \"AOR\"), c % (a, pc_label(a, 5, \"old\"), (a, b));"
    ∷ codes "}" ∷ [])
    × IsMarkedAs (function_of takes_p_and_a (returns (c.Binary op.Eq (c.Comma (pair a (name (codes "p")))) zero_constant)) ∷ []) (bit_of C.RelationalOperator)
    (codes "int f(int *p, int a) {" ∷ codes "  return pc_label((a, p) == 0 != ((a, p) != 0), 1, \"ROR\"), (a, p) == 0;" ∷ codes "}" ∷ [])
  where
    takes_p_and_a : c.ParameterList
    takes_p_and_a = parameter int (codes "p") (pointer c.no_parts) (parameter int (codes "a") c.no_parts c.no_parameters)

    comma : c.Expression
    comma = c.Comma (pair a b)

    gives : c.Expression → c.Unit
    gives e = function_of takes_a_b_and_c (returns e) ∷ []

-- pointers have one other relation, places and constants have no labels
abbrev pub OthersAreLeft : Type 0
OthersAreLeft =
    IsMarkedAs (function_of (parameter int (codes "p") (pointer c.no_parts) c.no_parameters) (returns (c.Binary op.Eq (name (codes "p")) zero_constant)) ∷ []) (bit_of C.RelationalOperator)
    (codes "int f(int *p) {" ∷ codes "  return pc_label(p == 0 != (p != 0), 1, \"ROR\"), p == 0;" ∷ codes "}" ∷ [])
    × IsMarkedAs (function_of (takes_x int) (c.a_statement (c.While one (c.Evaluates (c.PostInc x))) (returns (c.Unary unary.Dereference (c.Unary unary.AddressOf x)))) ∷ []) (bit_of C.Decision + bit_of C.AbsoluteValue)
    (codes "int f(int x) {"
    ∷ codes "  while (1)"
    ∷ codes "    x++;"
    ∷ codes "  return pc_label(* &x != (* &x < 0 ? -* &x : * &x), 1, \"ABS\"), pc_label(* &x != -(* &x < 0 ? -* &x : * &x), 2, \"ABS\"), * &x;"
    ∷ codes "}" ∷ [])

-- ---- what stands there already, and the order of the walk

-- New labels come after the old ones; old predicates have none.
abbrev pub OldMarksComeFirst : Type 0
OldMarksComeFirst =
    IsMarkedFrom 7 unit (bit_of C.Function + bit_of C.AbsoluteValue)
    (codes "int f(int x) {"
    ∷ codes "  pc_label(x, 5, \"old\");"
    ∷ codes "  pc_label(1, 7, \"FC\");"
    ∷ codes "  return pc_label(!x, 6, \"old\"), pc_label(-x + 1 != (-x + 1 < 0 ? -(-x + 1) : -x + 1), 8, \"ABS\"), pc_label(-x + 1 != -(-x + 1 < 0 ? -(-x + 1) : -x + 1), 9, \"ABS\"), -(pc_label(x != (x < 0 ? -x : x), 10, \"ABS\"), pc_label(x != -(x < 0 ? -x : x), 11, \"ABS\"), x) + 1;"
    ∷ codes "}" ∷ [])
  where
    unit : c.Unit
    unit =
        function_of (takes_x int)
        (c.a_label (old_label x (codes "5"))
        (returns (c.Marked (c.a_mark (old_label (c.Unary unary.Not x) (codes "6")) c.no_marks) (c.Binary op.Add (c.Unary unary.Minus x) one)))) ∷ []

-- New marks at an expression inside a `pc_decide` or a `pc_after` stand inside these, but a `pc_decide` around a `pc_after`.
abbrev pub OldMarksStandAround : Type 0
OldMarksStandAround =
    IsMarkedFrom 3 (function_of (takes_x int) (decides_by (old_decide (is_positive x))) ∷ []) (bit_of C.Decision)
    (codes "int f(int x) {"
    ∷ codes "  if (pc_decide((pc_label(x > 0, 3, \"DC\"), pc_label(!(x > 0), 4, \"DC\"), x > 0), 1, 2, \"old\"))"
    ∷ codes "    return 1;"
    ∷ codes "  return 0;"
    ∷ codes "}" ∷ [])
    × IsMarkedFrom 3 (function_of (takes_x int) (decides_by (old_decide (is_positive (c.PostInc x)))) ∷ []) (bit_of C.Decision)
    (codes "int f(int x) {"
    ∷ codes "  if (pc_decide(pc_decide(x++ > 0, 3, 4, \"DC\"), 1, 2, \"old\"))"
    ∷ codes "    return 1;"
    ∷ codes "  return 0;"
    ∷ codes "}" ∷ [])
    × IsMarkedFrom 2 (function_of takes_a_and_b (returns (old_after (c.Binary op.Add a b))) ∷ []) (bit_of C.ArithmeticOperator)
    (codes "int f(int a, int b) {"
    ∷ codes "  return pc_after((pc_label(a + b != a - b, 2, \"AOR\"), pc_label(a + b != a * b, 3, \"AOR\"), pc_label(a + b != a / b, 4, \"AOR\"), pc_label(a + b != a % b, 5, \"AOR\"), a + b), 1, \"old\");"
    ∷ codes "}" ∷ [])
    × IsMarkedFrom 2 (function_of (takes_x int) (decides_by (old_after (is_positive x))) ∷ []) (bit_of C.Condition)
    (codes "int f(int x) {"
    ∷ codes "  if (pc_after((pc_label(x > 0, 2, \"CC\"), pc_label(!(x > 0), 3, \"CC\"), x > 0), 1, \"old\"))"
    ∷ codes "    return 1;"
    ∷ codes "  return 0;"
    ∷ codes "}" ∷ [])
    × IsMarkedFrom 2 (function_of (takes_x int) (decides_by (old_after (is_positive (c.PostInc x)))) ∷ []) (bit_of C.Decision + bit_of C.Condition)
    (codes "int f(int x) {"
    ∷ codes "  if (pc_decide(pc_decide(pc_after(x++ > 0, 1, \"old\"), 4, 5, \"CC\"), 2, 3, \"DC\"))"
    ∷ codes "    return 1;"
    ∷ codes "  return 0;"
    ∷ codes "}" ∷ [])
  where
    old_after : c.Expression → c.Expression
    old_after e = c.After e (codes "1") (codes "old")

    old_decide : c.Expression → c.Expression
    old_decide e = c.Decide e (codes "1") (codes "2") (codes "old")

-- In a `for` the first expression comes first, then the test, the last expression and the body, as they stand in the text.
abbrev pub ForComesInOrder : Type 0
ForComesInOrder =
    IsMarkedAs unit (bit_of C.Decision)
    (codes "int f(int a, int b) {"
    ∷ codes "  for (b = (pc_label(a, 1, \"DC\"), pc_label(!a, 2, \"DC\"), a) ? 1 : 2; pc_label(b, 3, \"DC\"), pc_label(!b, 4, \"DC\"), b; (pc_label(a, 5, \"DC\"), pc_label(!a, 6, \"DC\"), a) ? b-- : 0)"
    ∷ codes "    if (pc_label(a, 7, \"DC\"), pc_label(!a, 8, \"DC\"), a)"
    ∷ codes "      return b;"
    ∷ codes "  return 0;"
    ∷ codes "}" ∷ [])
  where
    unit : c.Unit
    unit =
        function_of takes_a_and_b
        (c.a_statement (c.For (c.First (c.Assign None b (c.Conditional a one two))) (Some b) (Some (c.Conditional a (c.PostDec b) zero_constant)) (c.If a (c.Return (Some b))))
        (returns zero_constant)) ∷ []

-- The body of `do` comes before its test, and a decision before the decisions in it; the test of a `?:` is one.
abbrev pub DecisionsComeInOrder : Type 0
DecisionsComeInOrder =
    IsMarkedAs unit (bit_of C.Decision)
    (codes "int f(int x) {"
    ∷ codes "  do"
    ∷ codes "    if (pc_label(x, 1, \"DC\"), pc_label(!x, 2, \"DC\"), x)"
    ∷ codes "      x--;"
    ∷ codes "  while (pc_label(x ? x : 1, 3, \"DC\"), pc_label(!(x ? x : 1), 4, \"DC\"), (pc_label(x, 5, \"DC\"), pc_label(!x, 6, \"DC\"), x) ? x : 1);"
    ∷ codes "  return x;"
    ∷ codes "}" ∷ [])
  where
    unit : c.Unit
    unit =
        function_of (takes_x int)
        (c.a_statement (c.Do (c.If x (c.Evaluates (c.PostDec x))) (c.Conditional x x one)) (returns x)) ∷ []

-- Objects that are there from the start have constant initialisers; others have expressions like any.
abbrev pub InitialisersAreMarked : Type 0
InitialisersAreMarked =
    IsMarkedAs unit (bit_of C.AbsoluteValue)
    (codes "int g;"
    ∷ codes "int f(int x) {"
    ∷ codes "  static int *a = &g;"
    ∷ codes "  int b = (pc_label(x != (x < 0 ? -x : x), 1, \"ABS\"), pc_label(x != -(x < 0 ? -x : x), 2, \"ABS\"), x);"
    ∷ codes "  return sizeof x;"
    ∷ codes "}" ∷ [])
  where
    unit : c.Unit
    unit =
        object int (codes "g") c.no_parts
        ∷ function_of (takes_x int)
        (c.a_declaration (declaration_of (c.specifiers (with_storage storage.Static no_words) (c.a_type (c.Basic basic.Int) c.no_types)) (codes "a") (pointer c.no_parts) (Some (c.Value (c.Unary unary.AddressOf (name (codes "g"))))))
        (c.a_declaration (declaration_of int (codes "b") c.no_parts (Some (c.Value x)))
        (returns (c.SizeofExpr x)))) ∷ []

abbrev pub PlacesAreMarked : Type 0
PlacesAreMarked = OldMarksComeFirst × OldMarksStandAround × ForComesInOrder × DecisionsComeInOrder × InitialisersAreMarked

abbrev pub ObjectivesAreMarked : Type 0
ObjectivesAreMarked =
    DecisionsAreMarked × ClausesAreMarked × CombinationsAreMarked × ClausesOfNegationsAreReplaced × ConstantClausesCount × EightClausesAreTheMost
    × StartsAreMarked × ParametersAreMarked × MutantsAreMarked × CommasHaveTheTypeOfTheirLastPart × OthersAreLeft × PlacesAreMarked
