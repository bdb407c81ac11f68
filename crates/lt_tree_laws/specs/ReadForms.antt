-- Examples: every form of expression, statement and declaration, as the grammar derives it from tokens, with the byte at which each node begins.
use Rattle.std.specs.Prelude.{List, [], ◌∷◌, codes, Some, None}
use Rattle.lt_model.specs.declared.operator.Op.TheVariants as op
use Rattle.lt_tree.specs.declared.expression.UnaryOp.TheVariants as unary
use Rattle.lt_tree.specs.declared.expression.LogicalOp.TheVariants as logical
use Rattle.lt_tree.specs.declared.specifier.Storage.TheVariants as storage
use Rattle.lt_tree.specs.declared.specifier.BasicType.TheVariants as basic
use Rattle.lt_tree.specs.Tree as c
use Rattle.lt_tree.specs.Tree.{Index, Call, Member, Arrow, PostInc, PostDec, PreInc, PreDec, Unary, SizeofExpr, SizeofType, Cast, Binary, Logical, Conditional, Assign, Comma, Marked, Decide, After, Text}
use Rattle.lt_tree_laws.specs.Examples.{a, b, x, one, two, zero_constant, pair, of_type, int, char, pointer, abstract, missing, declares, one_parameter}
use Rattle.lt_tree_laws.specs.WrittenUnits.{stored, label}
use Rattle.lt_tree_laws.specs.ReadTexts.{identifier, keyword, integer, literal, punctuator, ReadsExpression, ReadsStatement, ReadsUnit}

-- expressions in a row
abbrev pub row : List c.Expression → c.Expressions
row [] = c.no_expressions
row (e ∷ es) = c.an_expression e (row es)

-- what stands behind an operand
abbrev pub PostfixesAreRead : Type 0
PostfixesAreRead =
    ReadsExpression (codes "a[1], a(b, x), a(), a.x, a->x, a++, a--")
    (identifier (codes "a") 0 ∷ punctuator (codes "[") 1 ∷ integer (codes "1") 2 ∷ punctuator (codes "]") 3 ∷ punctuator (codes ",") 4
    ∷ identifier (codes "a") 6 ∷ punctuator (codes "(") 7 ∷ identifier (codes "b") 8 ∷ punctuator (codes ",") 9 ∷ identifier (codes "x") 11
    ∷ punctuator (codes ")") 12 ∷ punctuator (codes ",") 13 ∷ identifier (codes "a") 15 ∷ punctuator (codes "(") 16 ∷ punctuator (codes ")") 17
    ∷ punctuator (codes ",") 18 ∷ identifier (codes "a") 20 ∷ punctuator (codes ".") 21 ∷ identifier (codes "x") 22 ∷ punctuator (codes ",") 23
    ∷ identifier (codes "a") 25 ∷ punctuator (codes "->") 26 ∷ identifier (codes "x") 28 ∷ punctuator (codes ",") 29 ∷ identifier (codes "a") 31
    ∷ punctuator (codes "++") 32 ∷ punctuator (codes ",") 34 ∷ identifier (codes "a") 36 ∷ punctuator (codes "--") 37 ∷ [])
    (Comma (row (Index a one ∷ Call a (pair b x) ∷ Call a c.no_expressions ∷ Member a (codes "x") ∷ Arrow a (codes "x") ∷ PostInc a ∷ PostDec a ∷ [])))
    (0 ∷ 0 ∷ 0 ∷ 2 ∷ 6 ∷ 6 ∷ 8 ∷ 11 ∷ 15 ∷ 15 ∷ 20 ∷ 20 ∷ 25 ∷ 25 ∷ 31 ∷ 31 ∷ 36 ∷ 36 ∷ [])

-- what stands before an operand
abbrev pub PrefixesAreRead : Type 0
PrefixesAreRead =
    ReadsExpression (codes "++a, --a, -!a, sizeof a, sizeof(int *), (int)a, *&a")
    (punctuator (codes "++") 0 ∷ identifier (codes "a") 2 ∷ punctuator (codes ",") 3 ∷ punctuator (codes "--") 5 ∷ identifier (codes "a") 7
    ∷ punctuator (codes ",") 8 ∷ punctuator (codes "-") 10 ∷ punctuator (codes "!") 11 ∷ identifier (codes "a") 12 ∷ punctuator (codes ",") 13
    ∷ keyword (codes "sizeof") 15 ∷ identifier (codes "a") 22 ∷ punctuator (codes ",") 23 ∷ keyword (codes "sizeof") 25 ∷ punctuator (codes "(") 31
    ∷ keyword (codes "int") 32 ∷ punctuator (codes "*") 36 ∷ punctuator (codes ")") 37 ∷ punctuator (codes ",") 38 ∷ punctuator (codes "(") 40
    ∷ keyword (codes "int") 41 ∷ punctuator (codes ")") 44 ∷ identifier (codes "a") 45 ∷ punctuator (codes ",") 46 ∷ punctuator (codes "*") 48
    ∷ punctuator (codes "&") 49 ∷ identifier (codes "a") 50 ∷ [])
    (Comma (row (PreInc a ∷ PreDec a ∷ Unary unary.Minus (Unary unary.Not a) ∷ SizeofExpr a ∷ SizeofType int (abstract (pointer c.no_parts)) ∷ Cast int missing a ∷ Unary unary.Dereference (Unary unary.AddressOf a) ∷ [])))
    (0 ∷ 0 ∷ 2 ∷ 5 ∷ 7 ∷ 10 ∷ 11 ∷ 12 ∷ 15 ∷ 22 ∷ 25 ∷ 36 ∷ 40 ∷ 45 ∷ 48 ∷ 49 ∷ 50 ∷ [])

-- choices, assignments, adjacent strings and connectives
abbrev pub ChoicesAndTextsAreRead : Type 0
ChoicesAndTextsAreRead =
    ReadsExpression (codes "a ? b : x, a += b = x, \"a\" \"\\x42\", a && b")
    (identifier (codes "a") 0 ∷ punctuator (codes "?") 2 ∷ identifier (codes "b") 4 ∷ punctuator (codes ":") 6 ∷ identifier (codes "x") 8
    ∷ punctuator (codes ",") 9 ∷ identifier (codes "a") 11 ∷ punctuator (codes "+=") 13 ∷ identifier (codes "b") 16 ∷ punctuator (codes "=") 18
    ∷ identifier (codes "x") 20 ∷ punctuator (codes ",") 21 ∷ literal (codes "\"a\"") 23 ∷ literal (codes "\"\\x42\"") 27 ∷ punctuator (codes ",") 33
    ∷ identifier (codes "a") 35 ∷ punctuator (codes "&&") 37 ∷ identifier (codes "b") 40 ∷ [])
    (Comma (row (Conditional a b x ∷ Assign (Some op.Add) a (Assign None b x) ∷ Text (codes "aB") ∷ Logical logical.And a b ∷ [])))
    (0 ∷ 0 ∷ 0 ∷ 4 ∷ 8 ∷ 11 ∷ 11 ∷ 16 ∷ 16 ∷ 20 ∷ 23 ∷ 35 ∷ 35 ∷ 40 ∷ [])

-- marks before an expression and in it
abbrev pub MarksAreRead : Type 0
MarksAreRead =
    ReadsExpression (codes "pc_label(a, 1, \"T\"), pc_label_bind(a, 2, \"T\", v, b, w, x), pc_decide(a, 3, 4, \"T\") + pc_after(b, 5, \"T\")")
    (identifier (codes "pc_label") 0 ∷ punctuator (codes "(") 8 ∷ identifier (codes "a") 9 ∷ punctuator (codes ",") 10 ∷ integer (codes "1") 12
    ∷ punctuator (codes ",") 13 ∷ literal (codes "\"T\"") 15 ∷ punctuator (codes ")") 18 ∷ punctuator (codes ",") 19
    ∷ identifier (codes "pc_label_bind") 21 ∷ punctuator (codes "(") 34 ∷ identifier (codes "a") 35 ∷ punctuator (codes ",") 36 ∷ integer (codes "2") 38
    ∷ punctuator (codes ",") 39 ∷ literal (codes "\"T\"") 41 ∷ punctuator (codes ",") 44 ∷ identifier (codes "v") 46 ∷ punctuator (codes ",") 47
    ∷ identifier (codes "b") 49 ∷ punctuator (codes ",") 50 ∷ identifier (codes "w") 52 ∷ punctuator (codes ",") 53 ∷ identifier (codes "x") 55
    ∷ punctuator (codes ")") 56 ∷ punctuator (codes ",") 57 ∷ identifier (codes "pc_decide") 59 ∷ punctuator (codes "(") 68 ∷ identifier (codes "a") 69
    ∷ punctuator (codes ",") 70 ∷ integer (codes "3") 72 ∷ punctuator (codes ",") 73 ∷ integer (codes "4") 75 ∷ punctuator (codes ",") 76
    ∷ literal (codes "\"T\"") 78 ∷ punctuator (codes ")") 81 ∷ punctuator (codes "+") 83 ∷ identifier (codes "pc_after") 85 ∷ punctuator (codes "(") 93
    ∷ identifier (codes "b") 94 ∷ punctuator (codes ",") 95 ∷ integer (codes "5") 97 ∷ punctuator (codes ",") 98 ∷ literal (codes "\"T\"") 100
    ∷ punctuator (codes ")") 103 ∷ [])
    (Marked
    (c.a_mark (label a (codes "1") (codes "T")) (c.a_mark (c.mark a (codes "2") (codes "T") (c.a_binding (codes "v") b (c.a_binding (codes "w") x c.no_bindings))) c.no_marks))
    (Binary op.Add (Decide a (codes "3") (codes "4") (codes "T")) (After b (codes "5") (codes "T"))))
    (0 ∷ 0 ∷ 9 ∷ 21 ∷ 35 ∷ 49 ∷ 55 ∷ 59 ∷ 59 ∷ 69 ∷ 85 ∷ 94 ∷ [])

-- statements, a block with a label as an item
abbrev pub StatementsAreRead : Type 0
StatementsAreRead =
    ReadsStatement (codes "{ for (int i = 0; i < 3; i++) continue; for (;;) ; do ; while (a); while (a) { } switch (a) { case 1: default: break; } pc_label(a, 1, \"T\"); return; }")
    (punctuator (codes "{") 0 ∷ keyword (codes "for") 2 ∷ punctuator (codes "(") 6 ∷ keyword (codes "int") 7 ∷ identifier (codes "i") 11
    ∷ punctuator (codes "=") 13 ∷ integer (codes "0") 15 ∷ punctuator (codes ";") 16 ∷ identifier (codes "i") 18 ∷ punctuator (codes "<") 20
    ∷ integer (codes "3") 22 ∷ punctuator (codes ";") 23 ∷ identifier (codes "i") 25 ∷ punctuator (codes "++") 26 ∷ punctuator (codes ")") 28
    ∷ keyword (codes "continue") 30 ∷ punctuator (codes ";") 38 ∷ keyword (codes "for") 40 ∷ punctuator (codes "(") 44 ∷ punctuator (codes ";") 45
    ∷ punctuator (codes ";") 46 ∷ punctuator (codes ")") 47 ∷ punctuator (codes ";") 49 ∷ keyword (codes "do") 51 ∷ punctuator (codes ";") 54
    ∷ keyword (codes "while") 56 ∷ punctuator (codes "(") 62 ∷ identifier (codes "a") 63 ∷ punctuator (codes ")") 64 ∷ punctuator (codes ";") 65
    ∷ keyword (codes "while") 67 ∷ punctuator (codes "(") 73 ∷ identifier (codes "a") 74 ∷ punctuator (codes ")") 75 ∷ punctuator (codes "{") 77
    ∷ punctuator (codes "}") 79 ∷ keyword (codes "switch") 81 ∷ punctuator (codes "(") 88 ∷ identifier (codes "a") 89 ∷ punctuator (codes ")") 90
    ∷ punctuator (codes "{") 92 ∷ keyword (codes "case") 94 ∷ integer (codes "1") 99 ∷ punctuator (codes ":") 100 ∷ keyword (codes "default") 102
    ∷ punctuator (codes ":") 109 ∷ keyword (codes "break") 111 ∷ punctuator (codes ";") 116 ∷ punctuator (codes "}") 118
    ∷ identifier (codes "pc_label") 120 ∷ punctuator (codes "(") 128 ∷ identifier (codes "a") 129 ∷ punctuator (codes ",") 130 ∷ integer (codes "1") 132
    ∷ punctuator (codes ",") 133 ∷ literal (codes "\"T\"") 135 ∷ punctuator (codes ")") 138 ∷ punctuator (codes ";") 139 ∷ keyword (codes "return") 141
    ∷ punctuator (codes ";") 147 ∷ punctuator (codes "}") 149 ∷ [])
    (c.Compound
    (c.a_statement (c.For (c.Declares counter) (Some (Binary op.Lt i (c.Constant (codes "3")))) (Some (PostInc i)) c.Continue)
    (c.a_statement (c.For c.Nothing None None c.Null)
    (c.a_statement (c.Do c.Null a)
    (c.a_statement (c.While a (c.Compound c.no_items))
    (c.a_statement (c.Switch a (c.a_case (c.Case one ∷ c.Default ∷ []) c.Break c.no_cases))
    (c.a_label (label a (codes "1") (codes "T"))
    (c.a_statement (c.Return None) c.no_items))))))))
    (0 ∷ 2 ∷ 2 ∷ 11 ∷ 15 ∷ 15 ∷ 18 ∷ 18 ∷ 22 ∷ 25 ∷ 25 ∷ 30 ∷ 40 ∷ 40 ∷ 49 ∷ 51 ∷ 51 ∷ 54 ∷ 63 ∷ 67 ∷ 67 ∷ 74 ∷ 77 ∷ 81 ∷ 81 ∷ 89 ∷ 94 ∷ 99 ∷ 102 ∷ 111 ∷ 120 ∷ 120 ∷ 129 ∷ 141 ∷ 141 ∷ [])
  where
    i : c.Expression
    i = c.Name (codes "i")

    counter : c.Declaration
    counter = record { specifiers = int; declarators = record { declarator = declares (codes "i") c.no_parts; initialiser = Some (c.Value zero_constant) } ∷ [] }

-- a struct with a bit-field, an enum, an open list of parameters, braces, and a lone `;`
abbrev pub DeclarationsAreRead : Type 0
DeclarationsAreRead =
    ReadsUnit (codes "struct s { int a : 1, *b; }; enum e { A = 1, B, }; extern int g(char, int (*)[], ...); int v[2] = {1, {2}, }; ;")
    (keyword (codes "struct") 0 ∷ identifier (codes "s") 7 ∷ punctuator (codes "{") 9 ∷ keyword (codes "int") 11 ∷ identifier (codes "a") 15
    ∷ punctuator (codes ":") 17 ∷ integer (codes "1") 19 ∷ punctuator (codes ",") 20 ∷ punctuator (codes "*") 22 ∷ identifier (codes "b") 23
    ∷ punctuator (codes ";") 24 ∷ punctuator (codes "}") 26 ∷ punctuator (codes ";") 27 ∷ keyword (codes "enum") 29 ∷ identifier (codes "e") 34
    ∷ punctuator (codes "{") 36 ∷ identifier (codes "A") 38 ∷ punctuator (codes "=") 40 ∷ integer (codes "1") 42 ∷ punctuator (codes ",") 43
    ∷ identifier (codes "B") 45 ∷ punctuator (codes ",") 46 ∷ punctuator (codes "}") 48 ∷ punctuator (codes ";") 49 ∷ keyword (codes "extern") 51
    ∷ keyword (codes "int") 58 ∷ identifier (codes "g") 62 ∷ punctuator (codes "(") 63 ∷ keyword (codes "char") 64 ∷ punctuator (codes ",") 68
    ∷ keyword (codes "int") 70 ∷ punctuator (codes "(") 74 ∷ punctuator (codes "*") 75 ∷ punctuator (codes ")") 76 ∷ punctuator (codes "[") 77
    ∷ punctuator (codes "]") 78 ∷ punctuator (codes ",") 79 ∷ punctuator (codes "...") 81 ∷ punctuator (codes ")") 84 ∷ punctuator (codes ";") 85
    ∷ keyword (codes "int") 87 ∷ identifier (codes "v") 91 ∷ punctuator (codes "[") 92 ∷ integer (codes "2") 93 ∷ punctuator (codes "]") 94
    ∷ punctuator (codes "=") 96 ∷ punctuator (codes "{") 98 ∷ integer (codes "1") 99 ∷ punctuator (codes ",") 100 ∷ punctuator (codes "{") 102
    ∷ integer (codes "2") 103 ∷ punctuator (codes "}") 104 ∷ punctuator (codes ",") 105 ∷ punctuator (codes "}") 107 ∷ punctuator (codes ";") 108
    ∷ punctuator (codes ";") 110 ∷ [])
    (c.Declared (record { specifiers = of_type (c.Struct (Some (codes "s")) members); declarators = [] })
    ∷ c.Declared (record { specifiers = of_type (c.Enum (Some (codes "e")) enumerators); declarators = [] })
    ∷ c.Declared (record { specifiers = stored storage.Extern (c.Basic basic.Int); declarators = record { declarator = declares (codes "g") (c.Function (c.Open parameters) c.no_parts); initialiser = None } ∷ [] })
    ∷ c.Declared (record { specifiers = int; declarators = record { declarator = declares (codes "v") (c.Array (c.present two) c.no_parts); initialiser = Some values } ∷ [] })
    ∷ [])
    (0 ∷ 11 ∷ 15 ∷ 19 ∷ 22 ∷ 29 ∷ 38 ∷ 42 ∷ 45 ∷ 51 ∷ 62 ∷ 74 ∷ 87 ∷ 91 ∷ 93 ∷ 98 ∷ 99 ∷ 99 ∷ 102 ∷ 103 ∷ 103 ∷ [])
  where
    members : c.Members
    members =
        c.a_member (c.member int (c.a_declarator (declares (codes "a") c.no_parts) (c.present one) (c.a_declarator (declares (codes "b") (pointer c.no_parts)) c.absent c.no_declarators)))
        c.no_members

    enumerators : c.Enumerators
    enumerators = c.an_enumerator (codes "A") (c.present one) (c.an_enumerator (codes "B") c.absent c.no_enumerators)

    parameters : c.ParameterList
    parameters = c.a_parameter char missing (one_parameter int (abstract (pointer (c.Array c.absent c.no_parts))))

    values : c.Initialiser
    values = c.Braces (c.an_initialiser (c.Value one) (c.an_initialiser (c.Braces (c.an_initialiser (c.Value two) c.no_initialisers)) c.no_initialisers))
