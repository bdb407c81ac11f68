-- Examples: whole units and marks, as the annotators give them.
use Rattle.std.specs.Prelude.{◌≡◌, ℕ, List, [], ◌∷◌, codes, Option, Some, None}
use Rattle.lt_model.specs.declared.operator.Op.{Op}
use Rattle.lt_model.specs.declared.operator.Op.TheVariants as op
use Rattle.lt_tree.specs.declared.expression.UnaryOp.TheVariants as unary
use Rattle.lt_tree.specs.declared.expression.LogicalOp.TheVariants as logical
use Rattle.lt_tree.specs.declared.specifier.Storage.{Storage}
use Rattle.lt_tree.specs.declared.specifier.Storage.TheVariants as storage
use Rattle.lt_tree.specs.declared.specifier.BasicType.TheVariants as basic
use Rattle.lt_tree.specs.Tree as c
use Rattle.lt_tree.specs.Tree.{Constant, Unary, Binary, Logical, Marked, After, Evaluates, If, Return}
use Rattle.lt_tree.specs.Grammar.{no_words, with_storage}
use Rattle.lt_tree.specs.Pieces.{text_of}
use Rattle.lt_tree.specs.Canon.{mark}
use Rattle.lt_tree.specs.CanonUnits.{canon}
use Rattle.lt_tree_laws.specs.Examples.{a, b, x, one, zero_constant, of_type, int, pointer, constant_only, declares, one_parameter}
use Rattle.lt_tree_laws.specs.WrittenExpressions.{IsWritten}
use Rattle.lt_tree_laws.specs.WrittenStatements.{in_lines, sets}

-- the canonical text of this unit
abbrev pub IsUnit : c.Unit → List (List ℕ) → Type 0
IsUnit unit ls = canon unit ≡ in_lines ls

abbrev pub label : c.Expression → List ℕ → List ℕ → c.Mark
label predicate id tag = c.mark predicate id tag c.no_bindings

abbrev pub marked_once : c.Mark → c.Expression → c.Expression
marked_once m e = Marked (c.a_mark m c.no_marks) e

-- `int f(int x)`
abbrev pub function_of_one : c.Declarator
function_of_one = declares (codes "f") (c.Function (c.Listed (one_parameter int (declares (codes "x") c.no_parts))) c.no_parts)

abbrev pub positive : c.Expression
positive = Binary op.Gt x zero_constant

-- a decision whose two values are labels
abbrev pub DecisionsAreMarked : Type 0
DecisionsAreMarked =
    IsUnit (c.Defines int function_of_one (c.a_statement (If decision (Return (Some one))) (c.a_statement (Return (Some zero_constant)) c.no_items)) ∷ [])
    (codes "int f(int x) {" ∷ codes "  if (pc_label(x > 0, 1, \"DC\"), pc_label(!(x > 0), 2, \"DC\"), x > 0)" ∷ codes "    return 1;" ∷ codes "  return 0;" ∷ codes "}" ∷ [])
  where
    decision : c.Expression
    decision = Marked (c.a_mark (label positive (codes "1") (codes "DC")) (c.a_mark (label (Unary unary.Not positive) (codes "2") (codes "DC")) c.no_marks)) positive

-- a relation whose five mutants are labels
abbrev pub RelationsAreMarked : Type 0
RelationsAreMarked =
    IsWritten (Logical logical.And p (Marked (mutant op.Lt 49 (mutant op.Le 50 (mutant op.Ge 51 (mutant op.Eq 52 (mutant op.Ne 53 c.no_marks))))) (relation op.Gt)))
    (codes "p && (pc_label(*p > 3 != *p < 3, 1, \"ROR\"), pc_label(*p > 3 != *p <= 3, 2, \"ROR\"), pc_label(*p > 3 != *p >= 3, 3, \"ROR\"), pc_label(*p > 3 != (*p == 3), 4, \"ROR\"), pc_label(*p > 3 != (*p != 3), 5, \"ROR\"), *p > 3)")
  where
    p : c.Expression
    p = c.Name (codes "p")

    relation : Op → c.Expression
    relation o = Binary o (Unary unary.Dereference p) (Constant (codes "3"))

    mutant : Op → ℕ → c.Marks → c.Marks
    mutant o digit rest = c.a_mark (label (Binary op.Ne (relation op.Gt) (relation o)) (digit ∷ []) (codes "ROR")) rest

-- a label that binds a name
abbrev pub BoundNamesAreWritten : Type 0
BoundNamesAreWritten =
    text_of (mark 0 (c.mark (Logical logical.And a (Binary op.Ne (Logical logical.And one b) (Logical logical.And zero_constant b))) (codes "1") (codes "CACC")
    (c.a_binding (codes "v1") (Unary unary.Not (Unary unary.Not (Logical logical.And a b))) c.no_bindings)))
    ≡ codes "pc_label_bind(a && (1 && b) != (0 && b), 1, \"CACC\", v1, !!(a && b))"

-- marks as items, in an initialiser, at a use and behind an assignment
abbrev pub DefinitionsAndUsesAreMarked : Type 0
DefinitionsAndUsesAreMarked =
    IsUnit (c.Defines int function_of_one (c.a_label (used 49) (c.a_declaration start (c.a_statement choice (c.a_statement (Return (Some (marked_once (used 54) y))) c.no_items)))) ∷ [])
    (codes "int f(int x) {"
    ∷ codes "  pc_label(1, 1, \"AU\");"
    ∷ codes "  int y = pc_after((pc_label(1, 3, \"AU\"), x), 2, \"AU\");"
    ∷ codes "  if ((pc_label(1, 4, \"AU\"), x) > 0)"
    ∷ codes "    pc_after(y = 1, 5, \"AU\");"
    ∷ codes "  return pc_label(1, 6, \"AU\"), y;"
    ∷ codes "}" ∷ [])
  where
    y : c.Expression
    y = c.Name (codes "y")

    used : ℕ → c.Mark
    used digit = label one (digit ∷ []) (codes "AU")

    start : c.Declaration
    start = record {
      specifiers = int;
      declarators = record {
        declarator = declares (codes "y") c.no_parts;
        initialiser = Some (c.Value (After (marked_once (used 51) x) (codes "2") (codes "AU")));
      } ∷ [];
    }

    choice : c.Statement
    choice = If (Binary op.Gt (marked_once (used 52) x) zero_constant) (Evaluates (After (c.Assign None y one) (codes "5") (codes "AU")))

-- ---- a unit with a typedef, a prototype, a struct, an object and a function

abbrev pub n : c.Expression
n = c.Name (codes "n")

abbrev pub s : c.Expression
s = c.Name (codes "s")

abbrev pub value_of_node : c.Expression
value_of_node = c.Arrow n (codes "val")

abbrev pub node_type : c.Specifiers
node_type = of_type (c.StructTag (codes "node"))

abbrev pub declared : c.Specifiers → c.Declarator → Option c.Initialiser → c.Declaration
declared ss d i = record { specifiers = ss; declarators = record { declarator = d; initialiser = i } ∷ [] }

abbrev pub stored : Storage → c.TypeSpecifier → c.Specifiers
stored class type = c.specifiers (with_storage class no_words) (c.a_type type c.no_types)

abbrev pub list_loop : c.Statement
list_loop =
    c.While (Binary op.Ne n zero_constant) (c.Compound
    (c.a_statement (c.IfElse (Binary op.Gt value_of_node (c.Name (codes "limit"))) print add)
    (c.a_statement (sets n (c.Arrow n (codes "next"))) c.no_items)))
  where
    print : c.Statement
    print = Evaluates (c.Call (c.Name (codes "printf")) (c.an_expression (c.Text (codes "big %d\n")) (c.an_expression value_of_node c.no_expressions)))

    add : c.Statement
    add = Evaluates (c.Assign (Some op.Add) s value_of_node)

abbrev pub list_unit : c.Unit
list_unit =
    c.Declared (declared (stored storage.Typedef (c.Basic basic.UnsignedLong)) (declares (codes "size_t") c.no_parts) None)
    ∷ c.Declared (declared (stored storage.Extern (c.Basic basic.Int)) (declares (codes "printf") (c.Function (c.Open (one_parameter text_type (declares (codes "__format") (pointer c.no_parts)))) c.no_parts)) None)
    ∷ c.Declared (record { specifiers = of_type (c.Struct (Some (codes "node")) members); declarators = [] })
    ∷ c.Declared (declared (stored storage.Static (c.Basic basic.Int)) (declares (codes "limit") c.no_parts) (Some (c.Value (Constant (codes "10")))))
    ∷ c.Defines int (declares (codes "sum") (c.Function (c.Listed (one_parameter node_type (declares (codes "n") (pointer c.no_parts)))) c.no_parts)) body
    ∷ []
  where
    text_type : c.Specifiers
    text_type = c.specifiers (record no_words { qualifiers = constant_only }) (c.a_type (c.Basic basic.Char) c.no_types)

    one_member : c.Specifiers → c.Declarator → c.Members → c.Members
    one_member ss d rest = c.a_member (c.member ss (c.a_declarator d c.absent c.no_declarators)) rest

    members : c.Members
    members = one_member int (declares (codes "val") c.no_parts) (one_member node_type (declares (codes "next") (pointer c.no_parts)) c.no_members)

    body : c.Items
    body =
        c.a_label (label one (codes "1") (codes "FC"))
        (c.a_declaration (declared int (declares (codes "s") c.no_parts) (Some (c.Value zero_constant)))
        (c.a_statement list_loop
        (c.a_statement (Return (Some s)) c.no_items)))

abbrev pub UnitsAreWritten : Type 0
UnitsAreWritten =
    IsUnit [] []
    × IsUnit list_unit
    (codes "typedef unsigned long size_t;"
    ∷ codes "extern int printf(const char *__format, ...);"
    ∷ codes "struct node {"
    ∷ codes "  int val;"
    ∷ codes "  struct node *next;"
    ∷ codes "};"
    ∷ codes "static int limit = 10;"
    ∷ codes "int sum(struct node *n) {"
    ∷ codes "  pc_label(1, 1, \"FC\");"
    ∷ codes "  int s = 0;"
    ∷ codes "  while (n != 0) {"
    ∷ codes "    if (n->val > limit)"
    ∷ codes "      printf(\"big %d\\n\", n->val);"
    ∷ codes "    else"
    ∷ codes "      s += n->val;"
    ∷ codes "    n = n->next;"
    ∷ codes "  }"
    ∷ codes "  return s;"
    ∷ codes "}" ∷ [])
