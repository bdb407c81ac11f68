-- Mutants of expressions, after Offutt's sufficient operators: absolute values, and other operators of the same kind.
use Rattle.std.specs.Prelude.{Bool, true, false, not, ◌&&◌, if◌then◌else◌, List, [], ◌∷◌, map, filter, Some, None}
use Rattle.std.specs.List.{list_any}
use denote.Enum.Bare.{sameb}
use Rattle.lt_model.specs.declared.scalar.DataModel.{DataModel}
use Rattle.lt_model.specs.Scalar.{is_signed}
use Rattle.lt_model.specs.declared.operator.Op.{Op}
use Rattle.lt_model.specs.declared.operator.Op.TheVariants as O
use Rattle.lt_model.specs.contracts.operator.Op.{the_type}
use Rattle.lt_tree.specs.declared.expression.UnaryOp.TheVariants as unary
use Rattle.lt_tree.specs.declared.expression.LogicalOp.{LogicalOp}
use Rattle.lt_tree.specs.declared.expression.LogicalOp.TheVariants as logical
use Rattle.lt_tree.specs.Tree as c
use Rattle.lt_tree.specs.Typing.Types.{CType, scalar_of, is_integer}
use Rattle.lt_objectives.specs.Decisions.{zero_constant}

abbrev pub same_op : Op → Op → Bool
same_op = sameb the_type

abbrev pub is_one_of : Op → List Op → Bool
is_one_of op ops = list_any (same_op op) ops

abbrev pub arithmetic : List Op
arithmetic = O.Add ∷ O.Sub ∷ O.Mul ∷ O.Div ∷ O.Rem ∷ []

abbrev pub relations : List Op
relations = O.Lt ∷ O.Le ∷ O.Gt ∷ O.Ge ∷ O.Eq ∷ O.Ne ∷ []

-- the same operands with each other operator of these, if the operator is one of them
abbrev pub with_others : List Op → Op → c.Expression → c.Expression → List c.Expression
with_others ops op left right =
    if is_one_of op ops then map (λ other. c.Binary other left right) (filter (λ other. not (same_op op other)) ops) else []

-- ---- absolute values

abbrev pub is_signed_integer : DataModel → CType → Bool
is_signed_integer m t = elim (scalar_of t) [ None ↦ false | Some s ↦ is_signed m s ]

-- names, subscripts, members, indirections and arithmetic
abbrev pub is_fitting : c.Expression → Bool
is_fitting (c.Name name) = true
is_fitting (c.Index whole index) = true
is_fitting (c.Member whole name) = true
is_fitting (c.Arrow pointer name) = true
is_fitting (c.Unary unary.Dereference e) = true
is_fitting (c.Binary op left right) = is_one_of op arithmetic
is_fitting e = false

abbrev pub minus : c.Expression → c.Expression
minus e = c.Unary unary.Minus e

-- `e < 0 ? -e : e`
abbrev pub absolute : c.Expression → c.Expression
absolute e = c.Conditional (c.Binary O.Lt e zero_constant) (minus e) e

-- an expression of this type as its absolute value, and as that with a minus
abbrev pub absolute_mutants : DataModel → CType → c.Expression → List c.Expression
absolute_mutants m t e = if is_fitting e && is_signed_integer m t then absolute e ∷ minus (absolute e) ∷ [] else []

-- ---- operators; with the types of both operands

abbrev pub arithmetic_mutants : (left right : CType) → c.Expression → List c.Expression
arithmetic_mutants t u (c.Binary op left right) = if is_integer t && is_integer u then with_others arithmetic op left right else []
arithmetic_mutants t u e = []

abbrev pub other_connector : LogicalOp → LogicalOp
other_connector logical.And = logical.Or
other_connector logical.Or = logical.And

abbrev pub connector_mutants : c.Expression → List c.Expression
connector_mutants (c.Logical op left right) = c.Logical (other_connector op) left right ∷ []
connector_mutants e = []

-- of pointers `==` and `!=` are exchanged
abbrev pub pointer_relations : List Op
pointer_relations = O.Eq ∷ O.Ne ∷ []

abbrev pub relational_mutants : (left right : CType) → c.Expression → List c.Expression
relational_mutants t u (c.Binary op left right) =
    with_others (if is_integer t && is_integer u then relations else pointer_relations) op left right
relational_mutants t u e = []
