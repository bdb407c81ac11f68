-- Examples: types of expressions, and rules that they break, in both data models where these differ.
use Rattle.std.specs.Prelude.{ℕ, true, false, List, [], ◌∷◌, codes, Some, None}
use Rattle.lt_model.specs.declared.operator.Op.TheVariants as op
use Rattle.lt_model.specs.declared.scalar.Scalar.TheVariants as S
use Rattle.lt_model.specs.declared.scalar.DataModel.TheVariants.{Ilp32, Lp64}
use Rattle.lt_tree.specs.declared.expression.UnaryOp.TheVariants as unary
use Rattle.lt_tree.specs.Tree as c
use Rattle.lt_tree.specs.Tree.{Binary, Assign, Unary, Cast, SizeofType, Conditional}
use Rattle.lt_tree.specs.Nodes.{an_expression}
use Rattle.lt_tree_laws.specs.Examples.{int, char, void, x, one, zero_constant, pointer, constant_only, missing, abstract, just, pair}
use Rattle.lt_tree.specs.Typing.Types.{CType, Void, Num, Pointer, Array, Struct, Qualified, no_qualifiers}
use Rattle.lt_tree.specs.Typing.Rules.{Rule, undeclared_name, floating_type, function_as_value, volatile_access, operand_not_integer, bad_sum, bad_comparison, bad_choice, bad_assignment, not_modifiable, bad_address, no_member, bad_call, bad_cast, no_size, constant_too_large}
use Rattle.lt_tree_laws.specs.Typing.ExampleTexts.{has_type, breaks, IsTypedBehind, name, number, floating, qualified_int, object, struct_specifiers, takes_int}

-- ---- constants

abbrev pub IsConstant : List ℕ → CType → CType → Type 0
IsConstant text small large = IsTypedBehind Ilp32 [] (number text) (has_type small) × IsTypedBehind Lp64 [] (number text) (has_type large)

-- a constant has the first type of its list that has its value
abbrev pub ConstantsHaveTheirTypes : Type 0
ConstantsHaveTheirTypes =
    IsConstant (codes "2147483647") (Num S.Int) (Num S.Int)
    × IsConstant (codes "2147483648") (Num S.LLong) (Num S.Long)
    × IsConstant (codes "0xFFFFFFFF") (Num S.UInt) (Num S.UInt)
    × IsConstant (codes "037777777777") (Num S.UInt) (Num S.UInt)
    × IsConstant (codes "4294967296u") (Num S.ULLong) (Num S.ULong)
    × IsConstant (codes "0x8000000000000000") (Num S.ULLong) (Num S.ULong)
    × IsConstant (codes "1l") (Num S.Long) (Num S.Long)
    × IsConstant (codes "1LLu") (Num S.ULLong) (Num S.ULLong)
    × IsConstant (codes "'a'") (Num S.Int) (Num S.Int)
    × IsTypedBehind Lp64 [] (number (codes "9223372036854775808")) (breaks constant_too_large (Some (an_expression (number (codes "9223372036854775808")))))

-- ---- operators

abbrev pub p : c.Expression
p = name (codes "p")

abbrev pub q : c.Expression
q = name (codes "q")

abbrev pub r : c.Expression
r = name (codes "r")

abbrev pub s : c.Expression
s = name (codes "s")

abbrev pub three : c.Expression
three = number (codes "3")

-- `int x; int *p; const int *q; void *r; struct s { int m; int n[2]; } s; int f(int x); const int k; volatile int v; float *d;`
abbrev pub objects : c.Unit
objects =
    object int (codes "x") c.no_parts
    ∷ object int (codes "p") (pointer c.no_parts)
    ∷ object (qualified_int true false) (codes "q") (pointer c.no_parts)
    ∷ object void (codes "r") (pointer c.no_parts)
    ∷ object struct_specifiers (codes "s") c.no_parts
    ∷ object int (codes "f") takes_int
    ∷ object (qualified_int true false) (codes "k") c.no_parts
    ∷ object (qualified_int false true) (codes "v") c.no_parts
    ∷ object floating (codes "d") (pointer c.no_parts)
    ∷ []

abbrev pub Has : c.Expression → CType → Type 0
Has e t = IsTypedBehind Lp64 objects e (has_type t)

-- the rule is broken by the expression itself
abbrev pub Breaks : c.Expression → Rule → Type 0
Breaks e rule = IsTypedBehind Lp64 objects e (breaks rule (Some (an_expression e)))

-- or by a part of it
abbrev pub BreaksAt : c.Expression → Rule → c.Expression → Type 0
BreaksAt e rule part = IsTypedBehind Lp64 objects e (breaks rule (Some (an_expression part)))

-- names, and the first of two rules that are broken: a part's comes before that of the whole
abbrev pub NamesAreSought : Type 0
NamesAreSought =
    BreaksAt (Binary op.Mul p (name (codes "y"))) undeclared_name (name (codes "y"))
    × BreaksAt (Binary op.Add (Binary op.Mul p x) (name (codes "y"))) operand_not_integer (Binary op.Mul p x)
    × Has (name (codes "q")) (Pointer (Qualified constant_only (Num S.Int)))
    × BreaksAt (Binary op.Add (name (codes "f")) one) function_as_value (name (codes "f"))
    × Has (name (codes "v")) (Qualified (record no_qualifiers { volatile = true }) (Num S.Int))
    × BreaksAt (Binary op.Add (name (codes "v")) one) volatile_access (name (codes "v"))

-- sums, differences and comparisons of pointers
abbrev pub PointersAreMovedAndCompared : Type 0
PointersAreMovedAndCompared =
    Has (Binary op.Sub p q) (Num S.Long)
    × IsTypedBehind Ilp32 objects (Binary op.Sub p q) (has_type (Num S.Int))
    × Breaks (Binary op.Add p q) bad_sum
    × Has (Binary op.Add x p) (Pointer (Num S.Int))
    × Breaks (Binary op.Sub x p) bad_sum
    × Breaks (Binary op.Add r one) bad_sum
    × Breaks (Binary op.Eq p x) bad_comparison
    × Has (Binary op.Eq p zero_constant) (Num S.Int)
    × Has (Binary op.Eq p r) (Num S.Int)
    × Breaks (Binary op.Lt p r) bad_comparison
    × Has (Conditional x p q) (Pointer (Qualified constant_only (Num S.Int)))
    × Has (Conditional x p zero_constant) (Pointer (Num S.Int))
    × Has (Conditional x p r) (Pointer Void)
    × Breaks (Conditional x p one) bad_choice

-- integers are promoted, and brought to one type
abbrev pub IntegersAreConverted : Type 0
IntegersAreConverted =
    Has (Binary op.Add x (number (codes "1l"))) (Num S.Long)
    × Has (Binary op.Shl x (number (codes "1l"))) (Num S.Int)
    × Has (Binary op.Lt x (number (codes "1l"))) (Num S.Int)
    × Has (Unary unary.Minus (Cast char missing x)) (Num S.Int)
    × Breaks (Unary unary.Minus p) operand_not_integer

-- what may stand on the left of an assignment, and what fits there
abbrev pub AssignmentsFit : Type 0
AssignmentsFit =
    Has (Assign None p zero_constant) (Pointer (Num S.Int))
    × Breaks (Assign None p one) bad_assignment
    × Has (Assign None q p) (Pointer (Qualified constant_only (Num S.Int)))
    × Breaks (Assign None p q) bad_assignment
    × Has (Assign None p r) (Pointer (Num S.Int))
    × Breaks (Assign None (name (codes "k")) one) not_modifiable
    × Breaks (Assign None one one) not_modifiable
    × Has (Assign None s s) (Struct 0)
    × Breaks (Assign (Some op.Mul) p one) operand_not_integer
    × Has (Assign (Some op.Add) p one) (Pointer (Num S.Int))
    × Breaks (Assign None (name (codes "v")) one) volatile_access

-- members, elements, calls, casts and sizes
abbrev pub PartsAreFound : Type 0
PartsAreFound =
    Has (c.Member s (codes "m")) (Num S.Int)
    × Has (c.Member s (codes "n")) (Array (Num S.Int) 2)
    × Breaks (c.Member s (codes "o")) no_member
    × Breaks (c.Arrow p (codes "m")) no_member
    × Has (c.Index q one) (Qualified constant_only (Num S.Int))
    × Breaks (c.Index x one) bad_sum
    × Has (Unary unary.Dereference q) (Qualified constant_only (Num S.Int))
    × Breaks (Unary unary.Dereference r) bad_address
    × Breaks (Unary unary.Dereference (name (codes "d"))) floating_type
    × Breaks (Unary unary.AddressOf one) bad_address
    × Has (c.Call (name (codes "f")) (just one)) (Num S.Int)
    × Breaks (c.Call (name (codes "f")) (pair one one)) bad_call
    × Breaks (c.Call (name (codes "f")) (just p)) bad_assignment
    × Breaks (c.Call x (just one)) bad_call
    × Breaks (Cast int missing p) bad_cast
    × Has (Cast char (abstract (pointer c.no_parts)) p) (Pointer (Num S.Char))
    × Has (Cast int (abstract (pointer c.no_parts)) zero_constant) (Pointer (Num S.Int))
    × Breaks (Cast int (abstract (pointer c.no_parts)) one) bad_cast
    × Has (SizeofType int missing) (Num S.ULong)
    × IsTypedBehind Ilp32 objects (SizeofType int missing) (has_type (Num S.UInt))
    × Breaks (SizeofType void missing) no_size
    × Breaks (SizeofType floating missing) no_size
