-- Examples: what the grammar derives from the tokens of some texts, with the byte at which each node begins.
use Rattle.std.specs.Prelude.{◌≡◌, ℕ, List, [], ◌∷◌, codes, length, take, drop, map, Some, None}
use Rattle.lt_model.specs.declared.operator.Op.TheVariants as op
use Rattle.lt_token.specs.declared.kind.Kind.TheVariants as kind
use Rattle.lt_token.specs.Tokens.{Token}
use Rattle.lt_tree.specs.declared.specifier.Storage.TheVariants as storage
use Rattle.lt_tree.specs.declared.specifier.BasicType.TheVariants as basic
use Rattle.lt_tree.specs.Tree as c
use Rattle.lt_tree.specs.Tree.{Assign, Binary, Comma, Evaluates, If, IfElse, Return}
use Rattle.lt_tree.specs.Symbols.{symbols}
use Rattle.lt_tree.specs.Grammar.{IsWhole}
use Rattle.lt_tree.specs.Statements.{IsStatement}
use Rattle.lt_tree.specs.Units.{Derives}
use Rattle.lt_tree_laws.specs.Examples.{a, b, x, one, two, pair, of_type, int, pointer, array_of_three, missing, declares, one_parameter}
use Rattle.lt_tree_laws.specs.WrittenDeclarations.{plain}
use Rattle.lt_tree_laws.specs.WrittenStatements.{sets}
use Rattle.lt_tree_laws.specs.WrittenUnits.{stored}

-- ---- tokens of each kind

abbrev pub identifier : List ℕ → ℕ → Token
identifier text at = record { kind = kind.Identifier; text = text; at = at }

abbrev pub keyword : List ℕ → ℕ → Token
keyword text at = record { kind = kind.Keyword; text = text; at = at }

abbrev pub integer : List ℕ → ℕ → Token
integer text at = record { kind = kind.Integer; text = text; at = at }

abbrev pub literal : List ℕ → ℕ → Token
literal text at = record { kind = kind.Text; text = text; at = at }

abbrev pub punctuator : List ℕ → ℕ → Token
punctuator text at = record { kind = kind.Punctuator; text = text; at = at }

-- these tokens stand in the text where they say
abbrev pub StandIn : List ℕ → List Token → Type 0
StandIn text tokens = map (λ t. take (length t.text) (drop t.at text)) tokens ≡ map (λ t. t.text) tokens

-- the tokens of this text are the whole expression
abbrev pub ReadsExpression : List ℕ → List Token → c.Expression → List ℕ → Type 0
ReadsExpression text tokens e spots = StandIn text tokens × IsWhole [] (symbols tokens) e [] spots []

abbrev pub ReadsStatement : List ℕ → List Token → c.Statement → List ℕ → Type 0
ReadsStatement text tokens s spots = StandIn text tokens × IsStatement [] (symbols tokens) s [] spots []

abbrev pub ReadsUnit : List ℕ → List Token → c.Unit → List ℕ → Type 0
ReadsUnit text tokens unit spots = StandIn text tokens × Derives tokens unit spots

-- ---- expressions

-- operators of one level group to the left
abbrev pub DifferencesGroupLeft : Type 0
DifferencesGroupLeft =
    ReadsExpression (codes "a - a - a")
    (identifier (codes "a") 0 ∷ punctuator (codes "-") 2 ∷ identifier (codes "a") 4 ∷ punctuator (codes "-") 6 ∷ identifier (codes "a") 8 ∷ [])
    (Binary op.Sub (Binary op.Sub a a) a)
    (0 ∷ 0 ∷ 0 ∷ 4 ∷ 8 ∷ [])

-- a comma expression that begins another is part of it
abbrev pub CommasJoin : Type 0
CommasJoin =
    ReadsExpression (codes "(a, b), x")
    (punctuator (codes "(") 0 ∷ identifier (codes "a") 1 ∷ punctuator (codes ",") 2 ∷ identifier (codes "b") 4 ∷ punctuator (codes ")") 5 ∷ punctuator (codes ",") 6 ∷ identifier (codes "x") 8 ∷ [])
    (Comma (c.an_expression a (pair b x)))
    (0 ∷ 1 ∷ 4 ∷ 8 ∷ [])
    × ReadsExpression (codes "a, b, x")
    (identifier (codes "a") 0 ∷ punctuator (codes ",") 1 ∷ identifier (codes "b") 3 ∷ punctuator (codes ",") 4 ∷ identifier (codes "x") 6 ∷ [])
    (Comma (c.an_expression a (pair b x)))
    (0 ∷ 0 ∷ 3 ∷ 6 ∷ [])

-- ---- statements

-- an `else` belongs to the nearest `if`
abbrev pub ElseIsNearest : Type 0
ElseIsNearest =
    ReadsStatement (codes "if (a) if (a) a = 1; else a = 2;")
    (keyword (codes "if") 0 ∷ punctuator (codes "(") 3 ∷ identifier (codes "a") 4 ∷ punctuator (codes ")") 5
    ∷ keyword (codes "if") 7 ∷ punctuator (codes "(") 10 ∷ identifier (codes "a") 11 ∷ punctuator (codes ")") 12
    ∷ identifier (codes "a") 14 ∷ punctuator (codes "=") 16 ∷ integer (codes "1") 18 ∷ punctuator (codes ";") 19
    ∷ keyword (codes "else") 21 ∷ identifier (codes "a") 26 ∷ punctuator (codes "=") 28 ∷ integer (codes "2") 30 ∷ punctuator (codes ";") 31 ∷ [])
    (If a (IfElse a (sets a one) (sets a two)))
    (0 ∷ 4 ∷ 7 ∷ 11 ∷ 14 ∷ 14 ∷ 14 ∷ 18 ∷ 26 ∷ 26 ∷ 26 ∷ 30 ∷ [])

-- ---- units

-- the words of a type stand in any order
abbrev pub TypeWordsGather : Type 0
TypeWordsGather =
    ReadsUnit (codes "long int unsigned x;")
    (keyword (codes "long") 0 ∷ keyword (codes "int") 5 ∷ keyword (codes "unsigned") 9 ∷ identifier (codes "x") 18 ∷ punctuator (codes ";") 19 ∷ [])
    (c.Declared (record { specifiers = of_type (c.Basic basic.UnsignedLong); declarators = plain (codes "x") ∷ [] }) ∷ [])
    (0 ∷ 18 ∷ [])

-- a declarator is read from its name outwards
abbrev pub DeclaratorsTurnInsideOut : Type 0
DeclaratorsTurnInsideOut =
    ReadsUnit (codes "int (*f(int))(void), *a[3];")
    (keyword (codes "int") 0 ∷ punctuator (codes "(") 4 ∷ punctuator (codes "*") 5 ∷ identifier (codes "f") 6 ∷ punctuator (codes "(") 7 ∷ keyword (codes "int") 8 ∷ punctuator (codes ")") 11
    ∷ punctuator (codes ")") 12 ∷ punctuator (codes "(") 13 ∷ keyword (codes "void") 14 ∷ punctuator (codes ")") 18 ∷ punctuator (codes ",") 19
    ∷ punctuator (codes "*") 21 ∷ identifier (codes "a") 22 ∷ punctuator (codes "[") 23 ∷ integer (codes "3") 24 ∷ punctuator (codes "]") 25 ∷ punctuator (codes ";") 26 ∷ [])
    (c.Declared (record {
      specifiers = int;
      declarators =
          record { declarator = declares (codes "f") (c.Function (c.Listed (one_parameter int missing)) (pointer (c.Function c.Void c.no_parts))); initialiser = None }
          ∷ record { declarator = declares (codes "a") (array_of_three (pointer c.no_parts)); initialiser = None } ∷ [];
    }) ∷ [])
    (0 ∷ 4 ∷ 21 ∷ 24 ∷ [])

-- a typedef name, and an object of that name in an inner scope
abbrev pub InnerNamesHideTypes : Type 0
InnerNamesHideTypes =
    ReadsUnit (codes "typedef int T; int f(void) { T T; T = 1; return T; }")
    (keyword (codes "typedef") 0 ∷ keyword (codes "int") 8 ∷ identifier (codes "T") 12 ∷ punctuator (codes ";") 13
    ∷ keyword (codes "int") 15 ∷ identifier (codes "f") 19 ∷ punctuator (codes "(") 20 ∷ keyword (codes "void") 21 ∷ punctuator (codes ")") 25 ∷ punctuator (codes "{") 27
    ∷ identifier (codes "T") 29 ∷ identifier (codes "T") 31 ∷ punctuator (codes ";") 32
    ∷ identifier (codes "T") 34 ∷ punctuator (codes "=") 36 ∷ integer (codes "1") 38 ∷ punctuator (codes ";") 39
    ∷ keyword (codes "return") 41 ∷ identifier (codes "T") 48 ∷ punctuator (codes ";") 49 ∷ punctuator (codes "}") 51 ∷ [])
    (c.Declared (record { specifiers = stored storage.Typedef (c.Basic basic.Int); declarators = plain (codes "T") ∷ [] })
    ∷ c.Defines int (declares (codes "f") (c.Function c.Void c.no_parts))
    (c.a_declaration (record { specifiers = of_type (c.Named (codes "T")); declarators = plain (codes "T") ∷ [] })
    (c.a_statement (sets t one)
    (c.a_statement (Return (Some t)) c.no_items)))
    ∷ [])
    (0 ∷ 12 ∷ 15 ∷ 19 ∷ 29 ∷ 31 ∷ 34 ∷ 34 ∷ 34 ∷ 34 ∷ 38 ∷ 41 ∷ 41 ∷ 48 ∷ [])
  where
    t : c.Expression
    t = c.Name (codes "T")

-- in a parameter a typedef name in parentheses is a type
abbrev pub TypesInParenthesesAreParameters : Type 0
TypesInParenthesesAreParameters =
    ReadsUnit (codes "typedef int T; int f(int (T));")
    (keyword (codes "typedef") 0 ∷ keyword (codes "int") 8 ∷ identifier (codes "T") 12 ∷ punctuator (codes ";") 13
    ∷ keyword (codes "int") 15 ∷ identifier (codes "f") 19 ∷ punctuator (codes "(") 20 ∷ keyword (codes "int") 21 ∷ punctuator (codes "(") 25 ∷ identifier (codes "T") 26 ∷ punctuator (codes ")") 27
    ∷ punctuator (codes ")") 28 ∷ punctuator (codes ";") 29 ∷ [])
    (c.Declared (record { specifiers = stored storage.Typedef (c.Basic basic.Int); declarators = plain (codes "T") ∷ [] })
    ∷ c.Declared (record {
      specifiers = int;
      declarators = record {
        declarator = declares (codes "f")
            (c.Function (c.Listed (one_parameter int (c.declarator None (c.Function (c.Listed (one_parameter (of_type (c.Named (codes "T"))) missing)) c.no_parts)))) c.no_parts);
        initialiser = None;
      } ∷ [];
    })
    ∷ [])
    (0 ∷ 12 ∷ 15 ∷ 19 ∷ 25 ∷ [])
