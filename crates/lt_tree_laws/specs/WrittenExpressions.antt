-- Examples: how expressions and the types in them are written.
use Rattle.std.specs.Prelude.{◌≡◌, ℕ, List, [], ◌∷◌, codes, Some, None}
use Rattle.lt_model.specs.declared.operator.Op.TheVariants as op
use Rattle.lt_tree.specs.declared.expression.UnaryOp.TheVariants as unary
use Rattle.lt_tree.specs.declared.expression.LogicalOp.TheVariants as logical
use Rattle.lt_tree.specs.declared.specifier.BasicType.TheVariants as basic
use Rattle.lt_tree.specs.Tree as c
use Rattle.lt_tree.specs.Tree.{Constant, Text, Index, Call, Member, Arrow, PostInc, PostDec, PreInc, PreDec, Unary, SizeofExpr, SizeofType, Cast, Binary, Logical, Conditional, Assign, Comma, Marked, Decide, After}
use Rattle.lt_tree.specs.Grammar.{no_words, with_const}
use Rattle.lt_tree.specs.Pieces.{text_of}
use Rattle.lt_tree.specs.Canon.{expression}
use Rattle.lt_tree_laws.specs.Examples.{a, b, x, one, two, pair, of_type, int, pointer, constant_only, abstract, missing}

-- the canonical text of this expression
abbrev pub IsWritten : c.Expression → List ℕ → Type 0
IsWritten e text = text_of (expression 0 e) ≡ text

abbrev pub ParenthesesStandWhereNeeded : Type 0
ParenthesesStandWhereNeeded =
    IsWritten (Binary op.Sub (Binary op.Sub a a) a) (codes "a - a - a")
    × IsWritten (Binary op.Sub a (Binary op.Sub a a)) (codes "a - (a - a)")
    × IsWritten (Binary op.Mul (Binary op.Add a b) x) (codes "(a + b) * x")
    × IsWritten (Binary op.Add a (Binary op.Mul b x)) (codes "a + b * x")
    × IsWritten (Binary op.Shl a (Binary op.Lt b x)) (codes "a << (b < x)")
    × IsWritten (Binary op.Or (Binary op.And a b) (Binary op.Xor b x)) (codes "a & b | b ^ x")
    × IsWritten (Logical logical.And (Logical logical.Or a b) x) (codes "(a || b) && x")
    × IsWritten (Logical logical.Or (Logical logical.And a b) x) (codes "a && b || x")
    × IsWritten (Assign None a (Assign (Some op.Add) b x)) (codes "a = b += x")
    × IsWritten (Assign None a (Comma (pair b x))) (codes "a = (b, x)")
    × IsWritten (Comma (c.an_expression a (pair b x))) (codes "a, b, x")
    × IsWritten (Comma (pair a (Comma (pair b x)))) (codes "a, (b, x)")
    × IsWritten (Conditional (Conditional a b x) a (Conditional b x a)) (codes "(a ? b : x) ? a : b ? x : a")
    × IsWritten (Conditional a (Comma (pair b x)) (Assign None b x)) (codes "a ? b, x : (b = x)")

abbrev pub PrefixesKeepApart : Type 0
PrefixesKeepApart =
    IsWritten (Unary unary.Minus (Unary unary.Minus a)) (codes "- -a")
    × IsWritten (Unary unary.Plus (Unary unary.Plus a)) (codes "+ +a")
    × IsWritten (Unary unary.Minus (PreDec a)) (codes "- --a")
    × IsWritten (PreInc (Unary unary.Plus a)) (codes "++ +a")
    × IsWritten (Binary op.And a (Unary unary.AddressOf b)) (codes "a & &b")
    × IsWritten (Unary unary.Dereference (Unary unary.AddressOf a)) (codes "* &a")
    × IsWritten (Unary unary.Dereference (Unary unary.Dereference a)) (codes "**a")
    × IsWritten (Binary op.Div a (Unary unary.Dereference b)) (codes "a / *b")
    × IsWritten (Unary unary.Not (Unary unary.Not (Logical logical.And a b))) (codes "!!(a && b)")
    × IsWritten (Unary unary.Minus (Binary op.Add a b)) (codes "-(a + b)")
    × IsWritten (Unary unary.Complement (Cast int missing a)) (codes "~(int)a")
    × IsWritten (PreInc (Unary unary.Dereference a)) (codes "++*a")

abbrev pub OperandsStandBeforeTheirSuffixes : Type 0
OperandsStandBeforeTheirSuffixes =
    IsWritten (Member one (codes "x")) (codes "1 .x")
    × IsWritten (Member (Constant (codes "'a'")) (codes "x")) (codes "'a'.x")
    × IsWritten (Member (Member a (codes "b")) (codes "x")) (codes "a.b.x")
    × IsWritten (Arrow (PostDec a) (codes "x")) (codes "a--->x")
    × IsWritten (Index (Unary unary.Dereference a) (Comma (pair b x))) (codes "(*a)[b, x]")
    × IsWritten (Unary unary.Dereference (Index a b)) (codes "*a[b]")
    × IsWritten (PostInc (Unary unary.Dereference a)) (codes "(*a)++")
    × IsWritten (Unary unary.Dereference (PostInc a)) (codes "*a++")
    × IsWritten (Call a c.no_expressions) (codes "a()")
    × IsWritten (Call (Unary unary.Dereference a) (pair (Comma (pair b x)) (Assign None b x))) (codes "(*a)((b, x), b = x)")

abbrev pub TypesStandInParentheses : Type 0
TypesStandInParentheses =
    IsWritten (Cast int missing a) (codes "(int)a")
    × IsWritten (Cast int missing (Binary op.Add a b)) (codes "(int)(a + b)")
    × IsWritten (Binary op.Add (Cast int missing a) b) (codes "(int)a + b")
    × IsWritten (Cast (of_type (c.StructTag (codes "s"))) (abstract (pointer c.no_parts)) a) (codes "(struct s *)a")
    × IsWritten (Cast (c.specifiers (with_const no_words) (c.a_type (c.Basic basic.UnsignedChar) c.no_types)) (abstract (c.Pointer constant_only c.no_parts)) a)
    (codes "(const unsigned char *const)a")
    × IsWritten (Index (Cast int (abstract (pointer c.no_parts)) a) b) (codes "((int *)a)[b]")
    × IsWritten (SizeofType int (abstract (pointer c.no_parts))) (codes "sizeof(int *)")
    × IsWritten (SizeofExpr a) (codes "sizeof a")
    × IsWritten (SizeofExpr (Unary unary.Minus a)) (codes "sizeof -a")
    × IsWritten (SizeofExpr (Cast int missing a)) (codes "sizeof ((int)a)")
    × IsWritten (Binary op.Mul (SizeofType int missing) two) (codes "sizeof(int) * 2")

-- printable bytes as they are, the rest by escapes, octal ones with three digits
abbrev pub StringsAreEscaped : Type 0
StringsAreEscaped =
    IsWritten (Text []) (codes "\"\"")
    × IsWritten (Text (codes "big %d\n")) (codes "\"big %d\\n\"")
    × IsWritten (Text (9 ∷ 34 ∷ 92 ∷ 39 ∷ 63 ∷ [])) (codes "\"\\t\\\"\\\\'?\"")
    × IsWritten (Text (0 ∷ 49 ∷ 13 ∷ 127 ∷ 255 ∷ 126 ∷ [])) (codes "\"\\0001\\015\\177\\377~\"")
