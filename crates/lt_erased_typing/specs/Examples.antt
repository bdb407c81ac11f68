-- Texts that are typed with marks, and not without them, or with another type.
use Rattle.std.specs.Prelude.{ℕ, true, false, List, [], ◌∷◌, codes, Some, None}
use Rattle.lt_model.specs.declared.operator.Op.TheVariants as op
use Rattle.lt_model.specs.declared.scalar.Scalar.TheVariants as S
use Rattle.lt_model.specs.declared.scalar.DataModel.TheVariants.{Lp64}
use Rattle.lt_tree.specs.declared.expression.UnaryOp.TheVariants as unary
use Rattle.lt_tree.specs.declared.specifier.Storage.TheVariants as storage
use Rattle.lt_tree.specs.Tree as c
use Rattle.lt_tree.specs.Nodes.{an_expression}
use Rattle.lt_tree.specs.Erasure.{erased}
use Rattle.lt_tree.specs.Grammar.{no_words}
use Rattle.lt_tree.specs.Typing.Types.{CType, Num, Pointer, Qualified}
use Rattle.lt_tree.specs.Typing.Rules.{Rule, volatile_access, bad_comparison, bad_address}
use Rattle.lt_tree_laws.specs.Examples.{char, int, void, x, one, zero_constant, pointer, constant_only, abstract, declares}
use Rattle.lt_tree_laws.specs.Typing.ExampleTexts.{has_type, breaks, IsTypedBehind, IsTyped, name, qualified_int, stored_int, declaration_of, array_of_length, object, function}

-- `pc_label(1, 1, "A")` in front of an expression
abbrev pub marked : c.Expression → c.Expression
marked e = c.Marked (c.a_mark (c.mark one (codes "1") (codes "A") c.no_bindings) c.no_marks) e

abbrev pub struct_of : List ℕ → c.Words → c.Specifiers → List ℕ → c.Parts → c.Specifiers
struct_of tag words s w parts =
    c.specifiers words (c.a_type (c.Struct (Some tag) (c.a_member (c.member s (c.a_declarator (declares w parts) c.absent c.no_declarators)) c.no_members)) c.no_types)

-- `int x; int *p; char *q; struct t { volatile int m; } t; const struct s { int n[2]; } s;`
abbrev pub objects : c.Unit
objects =
    object int (codes "x") c.no_parts
    ∷ object int (codes "p") (pointer c.no_parts)
    ∷ object char (codes "q") (pointer c.no_parts)
    ∷ object (struct_of (codes "t") no_words (qualified_int false true) (codes "m") c.no_parts) (codes "t") c.no_parts
    ∷ object (struct_of (codes "s") (record no_words { qualifiers = constant_only }) int (codes "n") (array_of_length (codes "2"))) (codes "s") c.no_parts
    ∷ []

abbrev pub Has : c.Expression → CType → Type 0
Has e t = IsTypedBehind Lp64 objects e (has_type t)

abbrev pub Breaks : c.Expression → Rule → Type 0
Breaks e rule = IsTypedBehind Lp64 objects e (breaks rule (Some (an_expression e)))

-- `(x ? p : (pc_label(1, 1, "A"), (void *)0)) == q`
abbrev pub null_compared : c.Expression
null_compared = c.Binary op.Eq (c.Conditional x (name (codes "p")) (marked (c.Cast void (abstract (pointer c.no_parts)) zero_constant))) (name (codes "q"))

-- `(pc_label(1, 1, "A"), t).m` and `(pc_label(1, 1, "A"), s).n`, each added to 0
abbrev pub volatile_member : c.Expression
volatile_member = c.Member (marked (name (codes "t"))) (codes "m")

abbrev pub constant_member : c.Expression
constant_member = c.Binary op.Add (c.Member (marked (name (codes "s"))) (codes "n")) zero_constant

-- A mark hides a null pointer constant from `?:`, and an lvalue from `.`.
abbrev pub MarksHideOperands : Type 0
MarksHideOperands =
    Has null_compared (Num S.Int) × Breaks (erased null_compared) bad_comparison
    × IsTypedBehind Lp64 objects volatile_member (has_type (Qualified (record { constant = false; volatile = true }) (Num S.Int)))
    × Has (c.Binary op.Add volatile_member zero_constant) (Num S.Int)
    × IsTypedBehind Lp64 objects (erased (c.Binary op.Add volatile_member zero_constant)) (breaks volatile_access (Some (an_expression (erased volatile_member))))
    × Has constant_member (Pointer (Num S.Int)) × Has (erased constant_member) (Pointer (Qualified constant_only (Num S.Int)))

-- `&..[1]` and `int f(int x) { register int a[2]; &..[1]; }` with this in the place of the dots
abbrev pub address_in : c.Expression → c.Expression
address_in whole = c.Unary unary.AddressOf (c.Index whole one)

abbrev pub takes_address : c.Expression → c.Unit
takes_address e =
    function
    (c.a_declaration (declaration_of (stored_int storage.Register) (codes "a") (array_of_length (codes "2")) None)
    (c.a_statement (c.Evaluates (address_in e)) c.no_items)) ∷ []

abbrev pub IsRefusedIn : c.Expression → Type 0
IsRefusedIn e = IsTyped Lp64 (takes_address e) (breaks bad_address (Some (an_expression (address_in e))))

-- It doesn't hide from `&` that an array is declared `register`.
abbrev pub MarksShowRegisters : Type 0
MarksShowRegisters = IsRefusedIn (marked (name (codes "a"))) × IsRefusedIn (name (codes "a"))
