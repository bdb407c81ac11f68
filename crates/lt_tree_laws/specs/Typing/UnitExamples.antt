-- Examples: units that break a rule, with its node, each beside one that is near it and breaks none.
use Rattle.std.specs.Prelude.{◌≡◌, length, ℕ, false, List, [], ◌∷◌, codes, Some, None}
use Rattle.lt_model.specs.declared.operator.Op.TheVariants as op
use Rattle.lt_model.specs.declared.scalar.DataModel.TheVariants.{Lp64}
use Rattle.lt_tree.specs.declared.expression.UnaryOp.TheVariants as unary
use Rattle.lt_tree.specs.declared.specifier.BasicType.TheVariants as basic
use Rattle.lt_tree.specs.declared.specifier.Storage.TheVariants as storage
use Rattle.lt_tree.specs.Tree as c
use Rattle.lt_tree.specs.Tree.{Binary, Assign, Unary, Conditional, Return, If, Switch, Case}
use Rattle.lt_tree.specs.Nodes.{nodes, Node, a_declarator, an_initialiser, an_enumerator, a_label, a_statement, an_expression, a_mark}
use Rattle.lt_tree_laws.specs.WrittenUnits.{list_unit}
use Rattle.lt_tree_laws.specs.Examples.{int, void, of_type, x, one, two, zero_constant, pointer, declares, missing, one_parameter}
use Rattle.lt_tree.specs.Typing.Rules.{Rule, undeclared_name, declared_twice, no_type, incomplete_type, floating_type, bad_length, bit_field, function_as_value, bad_definition, function_disagrees, not_scalar, bad_assignment, constant_too_large, bad_case, stray_jump, bad_return, bad_initialiser, no_body, bad_mark, number_of}
use Rattle.lt_tree.specs.Typing.Programs.{broken}
use Rattle.lt_tree.specs.Typing.UnitTyping.{typing}
use Rattle.lt_tree_laws.specs.Typing.ExampleTexts.{behind, breaks, has_program, IsTyped, name, number, long, floating, declaration_of, object, object_from, value, braces_of_two, array_of_length, takes_int, takes_nothing, function, lone, evaluates, gives, struct_specifiers, struct_tag}

abbrev pub Broken : c.Unit → Rule → Node → Type 0
Broken unit rule node = IsTyped Lp64 unit (breaks rule (Some node))

abbrev pub Fine : c.Unit → Type 0
Fine unit = IsTyped Lp64 unit has_program

abbrev pub y : c.Expression
y = name (codes "y")

-- `int y` and the like
abbrev pub y_object : c.External
y_object = object int (codes "y") c.no_parts

-- ---- names

-- `int f(void) { return y; }`: the number of the rule, and the number of the node
abbrev pub FirstRuleIsAnswered : Type 0
FirstRuleIsAnswered =
    (typing Lp64 (c.Defines int (declares (codes "f") (takes_nothing c.no_parts)) (lone (Return (Some y))) ∷ []) ≡ broken undeclared_name 4)
    × (number_of undeclared_name ≡ 1)
    × Broken (gives y ∷ []) undeclared_name (an_expression y)
    × Fine (y_object ∷ gives y ∷ [])

-- an object may be declared again with its type, and initialised once; a local one may not
abbrev pub NamesAreDeclaredOnce : Type 0
NamesAreDeclaredOnce =
    Broken (y_object ∷ object long (codes "y") c.no_parts ∷ []) declared_twice (a_declarator (declares (codes "y") c.no_parts))
    × Fine (y_object ∷ y_object ∷ object_from int (codes "y") c.no_parts (value one) ∷ [])
    × Broken (object_from int (codes "y") c.no_parts (value one) ∷ object_from int (codes "y") c.no_parts (value one) ∷ []) declared_twice (a_declarator (declares (codes "y") c.no_parts))
    × Broken (function (c.a_declaration (declaration_of int (codes "x") c.no_parts None) c.no_items) ∷ []) declared_twice (a_declarator (declares (codes "x") c.no_parts))
    × Fine (function (lone (c.Compound (c.a_declaration (declaration_of int (codes "x") c.no_parts None) c.no_items))) ∷ [])

-- the declarations of a function agree, and it has one body
abbrev pub FunctionsAgree : Type 0
FunctionsAgree =
    Broken (object long (codes "f") takes_int ∷ gives x ∷ []) declared_twice (a_declarator (declares (codes "f") takes_int))
    × Fine (object int (codes "f") takes_int ∷ gives x ∷ [])
    × Broken (gives x ∷ gives x ∷ []) function_disagrees (a_declarator (declares (codes "f") takes_int))
    × Broken (c.Defines int (declares (codes "f") nameless) c.no_items ∷ []) bad_definition (a_declarator (declares (codes "f") nameless))
    × Fine (object int (codes "f") nameless ∷ [])
  where
    nameless : c.Parts
    nameless = c.Function (c.Listed (one_parameter int missing)) c.no_parts

-- A whole file breaks no rule, and the nodes that are gone over are those of the walk.
abbrev pub FilesAreTyped : Type 0
FilesAreTyped = Fine list_unit × ((behind Lp64 list_unit).next ≡ length (nodes list_unit))

-- ---- types

-- specifiers name one type, and have at most one storage class; objects are complete, and have no floating type
abbrev pub TypesAreNamed : Type 0
TypesAreNamed =
    Broken (object words_of_none (codes "y") c.no_parts ∷ []) no_type (a_declarator (declares (codes "y") c.no_parts))
    × Broken (object struct_tag (codes "y") c.no_parts ∷ []) incomplete_type (a_declarator (declares (codes "y") c.no_parts))
    × Fine (object struct_tag (codes "y") (pointer c.no_parts) ∷ [])
    × Broken (object floating (codes "y") c.no_parts ∷ []) floating_type (a_declarator (declares (codes "y") c.no_parts))
    × Fine (object floating (codes "y") (pointer c.no_parts) ∷ [])
    × Broken (object int (codes "y") (pointer (takes_nothing c.no_parts)) ∷ []) function_as_value (a_declarator (declares (codes "y") (pointer (takes_nothing c.no_parts))))
    × Fine (object int (codes "y") (takes_nothing (pointer c.no_parts)) ∷ [])
  where
    words_of_none : c.Specifiers
    words_of_none = c.specifiers (record { storage = storage.Static ∷ storage.Extern ∷ []; inline = false; noreturn = false; qualifiers = record { constant = false; volatile = false } }) (c.a_type (c.Basic basic.Int) c.no_types)

abbrev pub a_of_length : List ℕ → c.External
a_of_length n = object int (codes "a") (array_of_length n)

-- an array has 1 to 1,048,576 elements, a type as many cells; a member is no bit-field
abbrev pub LengthsAreBounded : Type 0
LengthsAreBounded =
    Fine (a_of_length (codes "1048576") ∷ [])
    × Broken (a_of_length (codes "1048577") ∷ []) bad_length (a_declarator (declares (codes "a") (array_of_length (codes "1048577"))))
    × Broken (a_of_length (codes "0") ∷ []) bad_length (a_declarator (declares (codes "a") (array_of_length (codes "0"))))
    × Broken (object struct_specifiers (codes "a") (array_of_length (codes "400000")) ∷ []) bad_length (a_declarator (declares (codes "a") (array_of_length (codes "400000"))))
    × Fine (object struct_specifiers (codes "a") (array_of_length (codes "300000")) ∷ [])
    × Fine (object int (codes "a") (length_of (Conditional one two divided)) ∷ [])
    × Broken (object int (codes "a") (length_of divided) ∷ []) bad_length (a_declarator (declares (codes "a") (length_of divided)))
    × Broken (object (of_type (c.Struct None (c.a_member narrow c.no_members))) (codes "b") c.no_parts ∷ []) bit_field (a_declarator (declares (codes "w") c.no_parts))
  where
    divided : c.Expression
    divided = Binary op.Div one zero_constant

    length_of : c.Expression → c.Parts
    length_of e = c.Array (c.present e) c.no_parts

    narrow : c.StructMember
    narrow = c.member int (c.a_declarator (declares (codes "w") c.no_parts) (c.present one) c.no_declarators)

-- ---- initialisers

abbrev pub huge : c.Expression
huge = number (codes "99999999999999999999")

-- an initialiser has no more parts than its object, and is constant where the object is there from the start
abbrev pub InitialisersFit : Type 0
InitialisersFit =
    Broken (object_from int (codes "a") (array_of_length (codes "1")) (braces_of_two (value one) (value two)) ∷ []) bad_initialiser (an_initialiser (braces_of_two (value one) (value two)))
    × Fine (object_from int (codes "a") (array_of_length (codes "2")) (braces_of_two (value one) (value two)) ∷ [])
    × Fine (object_from struct_specifiers (codes "a") c.no_parts (braces_of_two (value one) (braces_of_two (value one) (value two))) ∷ [])
    × Broken (object_from struct_specifiers (codes "a") c.no_parts (braces_of_two (braces_of_two (value one) (value two)) (value one)) ∷ []) bad_initialiser (an_initialiser (braces_of_two (value one) (value two)))
    × Broken (y_object ∷ object_from int (codes "a") c.no_parts (value y) ∷ []) bad_initialiser (an_initialiser (value y))
    × Fine (y_object ∷ object_from int (codes "a") (pointer c.no_parts) (value (Unary unary.AddressOf y)) ∷ [])
    × Broken (y_object ∷ object_from int (codes "a") c.no_parts (value (Unary unary.AddressOf y)) ∷ []) bad_assignment (an_initialiser (value (Unary unary.AddressOf y)))
    × Broken (object_from int (codes "y") c.no_parts (value huge) ∷ []) constant_too_large (an_expression huge)

-- ---- statements

abbrev pub one_case : c.Expression → c.Cases → c.Cases
one_case e rest = c.a_case (Case e ∷ []) c.Null rest

abbrev pub two_cases : c.Expression → c.Expression → c.External
two_cases first second = function (lone (Switch x (one_case first (one_case second c.no_cases))))

-- tests are scalars, cases are constants that differ, jumps have a loop around them, and functions give what they promise
abbrev pub StatementsFit : Type 0
StatementsFit =
    Broken (object struct_specifiers (codes "y") c.no_parts ∷ function (lone choice) ∷ []) not_scalar (a_statement choice)
    × Fine (y_object ∷ function (lone choice) ∷ [])
    × Broken (two_cases one (Binary op.Sub two one) ∷ []) bad_case (a_label (Case (Binary op.Sub two one)))
    × Fine (two_cases one two ∷ [])
    × Broken (two_cases one x ∷ []) bad_case (a_label (Case x))
    × Broken (enum_from (number (codes "2147483647")) ∷ []) bad_case (an_enumerator (codes "B") c.absent)
    × Fine (enum_from (number (codes "2147483646")) ∷ [])
    × Broken (function (lone c.Break) ∷ []) stray_jump (a_statement c.Break)
    × Fine (function (lone (c.While x c.Break)) ∷ [])
    × Broken (function (lone (Return None)) ∷ []) bad_return (a_statement (Return None))
    × Fine (c.Defines void (declares (codes "f") takes_int) (lone (Return None)) ∷ [])
    × Broken (c.Defines int (declares (codes "f") (takes_nothing (pointer c.no_parts))) (lone (Return (Some one))) ∷ []) bad_assignment (a_statement (Return (Some one)))
  where
    choice : c.Statement
    choice = If y c.Null

    enum_from : c.Expression → c.External
    enum_from e = c.Declared (record { specifiers = of_type (c.Enum None (c.an_enumerator (codes "A") (c.present e) (c.an_enumerator (codes "B") c.absent c.no_enumerators))); declarators = [] })

-- ---- functions without a body, addresses and marks

abbrev pub call_of_g : c.Expression
call_of_g = c.Call (name (codes "g")) c.no_expressions

-- what has no body gives an integer; what has one later may give a pointer
abbrev pub CallsAreAnswered : Type 0
CallsAreAnswered =
    Broken (g_declared ∷ evaluates call_of_g ∷ []) no_body (an_expression call_of_g)
    × Fine (g_declared ∷ evaluates call_of_g ∷ c.Defines int (declares (codes "g") (takes_nothing (pointer c.no_parts))) (lone (Return (Some zero_constant))) ∷ [])
    × Fine (object int (codes "g") (takes_nothing c.no_parts) ∷ evaluates call_of_g ∷ [])
  where
    g_declared : c.External
    g_declared = object int (codes "g") (takes_nothing (pointer c.no_parts))

abbrev pub label : c.Expression → List ℕ → c.Mark
label predicate id = c.mark predicate id (codes "A") c.no_bindings

abbrev pub decided : c.Expression
decided = c.Decide x (codes "1") (codes "2") (codes "A")

abbrev pub behind_mark : c.Expression → c.Expression
behind_mark e = c.After e (codes "1") (codes "A")

-- ids stand once, predicates are pure, and each form of mark has its places
abbrev pub MarksFit : Type 0
MarksFit =
    Fine (function (c.a_label (label x (codes "1")) (c.a_label (label x (codes "2")) c.no_items)) ∷ [])
    × Broken (function (c.a_label (label x (codes "1")) (c.a_label (label one (codes "1")) c.no_items)) ∷ []) bad_mark (a_mark (label one (codes "1")))
    × Broken (function (c.a_label (label (c.PostInc x) (codes "1")) c.no_items) ∷ []) bad_mark (a_mark (label (c.PostInc x) (codes "1")))
    × Broken (function (c.a_label (label x (codes "1000000001")) c.no_items) ∷ []) bad_mark (a_mark (label x (codes "1000000001")))
    × Fine (function (lone (If decided c.Null)) ∷ [])
    × Broken (gives decided ∷ []) bad_mark (an_expression decided)
    × Fine (gives (behind_mark x) ∷ [])
    × Broken (evaluates (Assign None (behind_mark x) one) ∷ []) bad_mark (an_expression (behind_mark x))
    × Broken (gives (c.SizeofExpr (behind_mark x)) ∷ []) bad_mark (an_expression (behind_mark x))
    × Fine (object int (codes "p") (pointer c.no_parts) ∷ evaluates (Assign None (name (codes "p")) (behind_mark zero_constant)) ∷ [])
