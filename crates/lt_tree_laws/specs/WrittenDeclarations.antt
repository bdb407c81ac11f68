-- Examples: how declarators, specifiers and declarations are written.
use Rattle.std.specs.Prelude.{◌≡◌, ℕ, true, List, [], ◌∷◌, codes, Some, None}
use Rattle.lt_tree.specs.declared.specifier.Storage.TheVariants as storage
use Rattle.lt_tree.specs.declared.specifier.TypeWord.TheVariants as w
use Rattle.lt_tree.specs.Tree as c
use Rattle.lt_tree.specs.Grammar.{no_words}
use Rattle.lt_tree.specs.TypeWords.{gathered}
use Rattle.lt_tree.specs.Pieces.{text_of}
use Rattle.lt_tree.specs.Canon.{apart, specifiers, declarator}
use Rattle.lt_tree.specs.CanonUnits.{declaration}
use Rattle.lt_tree_laws.specs.Examples.{a, b, one, two, of_type, int, char, pointer, constant_only, array_of_three, abstract, missing, declares, one_parameter}

-- the canonical text of this declarator behind `int`
abbrev pub IsDeclared : c.Declarator → List ℕ → Type 0
IsDeclared d text = text_of (apart (specifiers 0 int) (declarator 0 d)) ≡ text

abbrev pub volatile_too : c.Qualifiers
volatile_too = record { constant = true; volatile = true }

-- a `*` under `[]` or `()` is in parentheses, and nothing else is
abbrev pub DeclaratorsReadFromTheirNames : Type 0
DeclaratorsReadFromTheirNames =
    IsDeclared (declares (codes "p") (pointer (array_of_three c.no_parts))) (codes "int (*p)[3]")
    × IsDeclared (declares (codes "a") (array_of_three (pointer c.no_parts))) (codes "int *a[3]")
    × IsDeclared (declares (codes "a") (c.Array c.absent (array_of_three c.no_parts))) (codes "int a[][3]")
    × IsDeclared (declares (codes "f") (c.Function (c.Listed (one_parameter int missing)) (pointer (c.Function c.Void c.no_parts)))) (codes "int (*f(int))(void)")
    × IsDeclared (declares (codes "f") (c.Function c.Unstated c.no_parts)) (codes "int f()")
    × IsDeclared (declares (codes "f") (c.Function (c.Open (c.a_parameter char (declares (codes "a") (pointer c.no_parts)) (one_parameter int (declares (codes "b") c.no_parts)))) c.no_parts))
    (codes "int f(char *a, int b, ...)")
    × IsDeclared (declares (codes "p") (pointer (array_of_three (pointer (c.Function c.Void c.no_parts))))) (codes "int (*(*p)[3])(void)")
    × IsDeclared (declares (codes "p") (c.Pointer constant_only (pointer c.no_parts))) (codes "int **const p")
    × IsDeclared (declares (codes "p") (pointer (c.Pointer volatile_too c.no_parts))) (codes "int *const volatile *p")
    × IsDeclared (declares (codes "p") (c.Pointer constant_only (array_of_three c.no_parts))) (codes "int (*const p)[3]")
    × IsDeclared missing (codes "int")
    × IsDeclared (abstract (c.Pointer constant_only c.no_parts)) (codes "int *const")
    × IsDeclared (abstract (array_of_three c.no_parts)) (codes "int [3]")
    × IsDeclared (abstract (pointer (c.Function (c.Listed (one_parameter int missing)) c.no_parts))) (codes "int (*)(int)")
    × IsDeclared (abstract (c.Function c.Unstated (pointer c.no_parts))) (codes "int *()")

-- the canonical text of this declaration
abbrev pub IsDeclaration : c.Declaration → List ℕ → Type 0
IsDeclaration d text = text_of (declaration 0 d) ≡ text

abbrev pub plain : List ℕ → c.InitDeclarator
plain name = record { declarator = declares name c.no_parts; initialiser = None }

abbrev pub starting : c.Declarator → c.Initialiser → c.InitDeclarator
starting d i = record { declarator = d; initialiser = Some i }

-- an enumerator with a value or without one
abbrev pub with_value : List ℕ → c.Expression → c.Enumerators → c.Enumerators
with_value name e rest = c.an_enumerator name (c.present e) rest

abbrev pub without_value : List ℕ → c.Enumerators → c.Enumerators
without_value name rest = c.an_enumerator name c.absent rest

-- `int a : 1, b;`, then `struct { enum e { c = 2, d } *x; } s[3];`
abbrev pub members : c.Members
members =
    c.a_member (c.member int (c.a_declarator (declares (codes "a") c.no_parts) (c.present one) (c.a_declarator (declares (codes "b") c.no_parts) c.absent c.no_declarators)))
    (c.a_member (c.member (of_type (c.Struct None inner)) (c.a_declarator (declares (codes "s") (array_of_three c.no_parts)) c.absent c.no_declarators)) c.no_members)
  where
    enumerators : c.Enumerators
    enumerators = with_value (codes "c") two (without_value (codes "d") c.no_enumerators)

    inner : c.Members
    inner = c.a_member (c.member (of_type (c.Enum (Some (codes "e")) enumerators)) (c.a_declarator (declares (codes "x") (pointer c.no_parts)) c.absent c.no_declarators)) c.no_members

abbrev pub DeclarationsAreWritten : Type 0
DeclarationsAreWritten =
    IsDeclaration (record { specifiers = c.specifiers no_words (gathered (c.a_type (c.Word w.Long) (c.a_type (c.Word w.Int) (c.a_type (c.Word w.Unsigned) c.no_types)))); declarators = plain (codes "x") ∷ [] })
    (codes "unsigned long x;")
    × IsDeclaration (record { specifiers = c.specifiers no_words (gathered (c.a_type (c.Word w.Long) (c.a_type (c.Word w.Float) c.no_types))); declarators = plain (codes "x") ∷ [] })
    (codes "long float x;")
    × IsDeclaration
    (record {
      specifiers = c.specifiers (record { storage = storage.Static ∷ []; inline = true; noreturn = true; qualifiers = volatile_too }) (c.a_type (c.Named (codes "T")) c.no_types);
      declarators = plain (codes "a") ∷ plain (codes "b") ∷ [];
    })
    (codes "static inline _Noreturn const volatile T a, b;")
    × IsDeclaration (record { specifiers = of_type (c.StructTag (codes "s")); declarators = [] }) (codes "struct s;")
    × IsDeclaration
    (record {
      specifiers = int;
      declarators =
          starting (declares (codes "a") (array_of_three c.no_parts))
          (c.Braces (c.an_initialiser (c.Value one) (c.an_initialiser (c.Braces (c.an_initialiser (c.Value (c.Assign None a b)) c.no_initialisers)) c.no_initialisers)))
          ∷ starting (declares (codes "b") c.no_parts) (c.Value (c.Comma (c.an_expression one (c.an_expression two c.no_expressions)))) ∷ [];
    })
    (codes "int a[3] = {1, {a = b}}, b = (1, 2);")
    × IsDeclaration (record { specifiers = of_type (c.Struct (Some (codes "t")) members); declarators = plain (codes "x") ∷ [] })
    (codes "struct t {\n  int a : 1, b;\n  struct {\n    enum e {\n      c = 2,\n      d\n    } *x;\n  } s[3];\n} x;")
