-- That the label of a mutant tells it from its expression exactly: it is true exactly where both have a value and the values differ.
use Rattle.std.specs.Prelude.{◌≡◌, ◌⊎◌, ℕ, ◌+◌, ℤ, Bool, true, false, not, if◌then◌else◌, List, [], ◌∷◌, Option, Some, None}
use Rattle.std.specs.Ordering.{int_eq}
use Rattle.lt_model.specs.declared.scalar.DataModel.{DataModel}
use Rattle.lt_model.specs.declared.scalar.Scalar.{Scalar}
use Rattle.lt_model.specs.Operators.{is_value}
use Rattle.lt_tree.specs.Tree as c
use Rattle.lt_tree.specs.Typing.Types.{CType, scalar_of}
use Rattle.lt_tree.specs.Typing.TypedTree as e
use Rattle.lt_tree.specs.Typing.TypedTree.{Value, type_of}
use Rattle.lt_tree.specs.Typing.Entities.{Known}
use Rattle.lt_tree.specs.Typing.Steps.{Goes}
use Rattle.lt_tree.specs.Typing.Expressions.{Typed, as_value, value_in}
use Rattle.lt_tree.specs.Typing.ExpressionTyping.{expression}
use Rattle.lt_ir.specs.Running.{At, marks}
use Rattle.lt_meaning.specs.Expressions.{Around, marked}
use Rattle.lt_objectives.specs.declared.criteria.Criterion.{Criterion}
use Rattle.lt_objectives.specs.declared.criteria.Criterion.TheVariants as C
use Rattle.lt_objectives.specs.Decisions.{inequality}
use Rattle.lt_objectives.specs.Mutants.{absolute_mutants, arithmetic_mutants, connector_mutants, relational_mutants}
use Rattle.lt_mark_laws.specs.Laws.{is_quietly_true, number_at}

-- ---- mutants

-- the criteria whose labels are of mutants
abbrev pub IsOfMutants : Criterion → Type 0
IsOfMutants C.AbsoluteValue = Unit {0}
IsOfMutants C.ArithmeticOperator = Unit {0}
IsOfMutants C.LogicalConnector = Unit {0}
IsOfMutants C.RelationalOperator = Unit {0}
IsOfMutants _ = ⊥

-- the mutants that a criterion makes of an expression of this type, whose operands are of these
abbrev pub mutants_by : Criterion → DataModel → (type left right : CType) → c.Expression → List c.Expression
mutants_by C.AbsoluteValue m type left right it = absolute_mutants m type it
mutants_by C.ArithmeticOperator m type left right it = arithmetic_mutants left right it
mutants_by C.LogicalConnector m type left right it = connector_mutants it
mutants_by C.RelationalOperator m type left right it = relational_mutants left right it
mutants_by _ m type left right it = []

-- it is one of these
abbrev pub IsOneOf : c.Expression → List c.Expression → Type 0
IsOneOf it [] = ⊥
IsOneOf it (first ∷ rest) = (first ≡ it) ⊎ IsOneOf it rest

-- The second is a mutant of the first by this criterion, for some types.
abbrev pub IsMutant : Criterion → (it other : c.Expression) → Type 0
IsMutant criterion it other = (m : DataModel) × (type : CType) × (left : CType) × (right : CType) × IsOneOf other (mutants_by criterion m type left right it)

-- ---- values

-- a number that a scalar type has
abbrev pub of_scalar : DataModel → Option Scalar → Option ℤ → Option ℤ
of_scalar m (Some s) (Some z) = if is_value m s z then Some z else None
of_scalar m s z = None

-- The value that an expression of an integer type has here, if it has one: a number of this type. (A difference of pointers that its type doesn't have is no value.)
abbrev pub value_at : Around → Value → At → Option ℤ
value_at here v at = of_scalar here.program.model (scalar_of (type_of v)) (number_at here v at)

-- whether there are two values that differ
abbrev pub differ_as_values : Option ℤ → Option ℤ → Bool
differ_as_values (Some m) (Some n) = not (int_eq m n)
differ_as_values m n = false

-- where the parts of a node begin
abbrev pub entered : Known → Known
entered known = record known { next = known.next + 1 }

-- What typing makes of it that an expression and another differ: each is typed, one behind the other; and it is true exactly where both have a value and these
-- differ. So a label with it as predicate, and without bound names, notes just that.
pub record IsDifference (known : Known) (it other : c.Expression) (z : Typed) : Type 0 where
  pub left : Typed
  pub right : Typed
  pub between : Known
  pub behind : Known
  pub left_typed : expression it as_value (entered known) ≡ Goes left between
  pub right_typed : expression other as_value between ≡ Goes right behind
  pub truth : (here : Around) (at : At) → here.program.model ≡ known.model
      → is_quietly_true here (value_in z) at ≡ differ_as_values (value_at here (value_in left) at) (value_at here (value_in right) at)
  pub noted : (here : Around) (at : At) (id : ℕ) → here.program.model ≡ known.model
      → marked here (e.mark (value_in z) id e.no_bindings) at ≡ marks id (differ_as_values (value_at here (value_in left) at) (value_at here (value_in right) at)) [] at

-- where it is typed that they differ, it is such a difference
abbrev pub AreToldApart : Known → c.Expression → c.Expression → Type 0
AreToldApart known it other = (z : Typed) (behind : Known) → expression (inequality it other) as_value known ≡ Goes z behind → IsDifference known it other z
