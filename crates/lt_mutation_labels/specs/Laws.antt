-- That the label of a mutant is true exactly where the expression and its mutant both have a value and the values differ.
use Rattle.std.specs.Prelude.{◌≡◌, ◌&&◌, true, List, ◌++◌, Some}
use Rattle.std.specs.List.{AllByRecursion}
use Rattle.lt_model.specs.declared.scalar.DataModel.{DataModel}
use Rattle.lt_model.specs.declared.scalar.Scalar.{Scalar}
use Rattle.lt_tree.specs.Tree as c
use Rattle.lt_tree.specs.Purity.{is_pure}
use Rattle.lt_tree.specs.Typing.Types.{CType, scalar_of, is_integer}
use Rattle.lt_tree.specs.Typing.Entities.{Known, Object}
use Rattle.lt_tree.specs.Typing.Steps.{Goes}
use Rattle.lt_tree.specs.Typing.Expressions.{Typed, as_value, own_type}
use Rattle.lt_tree.specs.Typing.ExpressionTyping.{expression}
use Rattle.lt_object_laws.specs.Further.{IsFurther}
use Rattle.lt_mark_laws.specs.Mutants.{AreToldApart}
use Rattle.lt_objectives.specs.Mutants.{absolute_mutants, arithmetic_mutants, connector_mutants, relational_mutants}

-- More is known than here: facts, and objects that are string literals or are never made.
abbrev pub IsLater : Known → Known → Type 0
IsLater known k = (more : List Object) × AllByRecursion IsFurther more × (k ≡ record known { next = k.next; objects = known.objects ++ more; facts = k.facts })

-- Wherever more is known than here, an expression is typed as an integer of one type, and more than here is known behind it.
pub record StaysInteger (known : Known) (it : c.Expression) : Type 0 where
  pub scalar : Scalar
  pub typed : (k : Known) → IsLater known k → (x : Typed) × (behind : Known) × (expression it as_value k ≡ Goes x behind) × IsLater known behind × (scalar_of (own_type x) ≡ Some scalar)

-- the operands of an operator do so
abbrev pub OperandsStayIntegers : Known → c.Expression → Type 0
OperandsStayIntegers known (c.Binary op left right) = StaysInteger known left × StaysInteger known right
OperandsStayIntegers known it = Unit {0}

-- A pure expression and each of its mutants are told apart exactly: conversions that the comparison makes change no value. Of the types by which mutants are made
-- nothing is said but that what they say are integers stays so.
abbrev pub MutantsAreToldApart : Type 0
MutantsAreToldApart =
    (known : Known) (it : c.Expression) → is_pure it ≡ true
    → AllByRecursion (AreToldApart known it) (connector_mutants it)
    × ((t u : CType) → AllByRecursion (AreToldApart known it) (relational_mutants t u it))
    × ((t u : CType) → (is_integer t && is_integer u ≡ true → OperandsStayIntegers known it) → AllByRecursion (AreToldApart known it) (arithmetic_mutants t u it))
    × ((model : DataModel) (t : CType) → (is_integer t ≡ true → StaysInteger known it) → AllByRecursion (AreToldApart known it) (absolute_mutants model t it))
