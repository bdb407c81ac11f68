-- The laws of other crates on which the marks of objectives rest.
use Rattle.std.specs.Prelude.{◌≡◌, ℕ, Bool, List, Option}
use Rattle.lt_tree.specs.Tree as c
use Rattle.lt_tree.specs.Typing.Rules.{Rule}
use Rattle.lt_tree.specs.Typing.Entities.{Known}
use Rattle.lt_tree.specs.Typing.Steps.{Outcome, Goes}
use Rattle.lt_tree.specs.Typing.Expressions.{Use}
use Rattle.lt_tree.specs.Typing.Specifying.{Specified, Setting}
use Rattle.lt_tree.specs.Typing.Declarators.{Built}
use Rattle.lt_tree.specs.Typing.ExpressionTyping as typing
use Rattle.lt_tree_laws.specs.Typing.NodeNumbers.{PartsAreNumbered}
use Rattle.lt_objective_places.specs.Laws.{ConstantsAreClosed, PiecesStand, ObjectivesStandWhereTheyMay, MarksAreOfOneNode}
use Rattle.lt_objective_typing.specs.Laws.{MarkedExpressionsHavePredicates, MarkedExpressionsKeepTheirTypes, LabelsOfObjectivesAreNew}
use Rattle.lt_mutation_labels.specs.Laws.{MutantsAreToldApart}
use Rattle.lt_erased_typing.specs.Laws.{CopiesWithLiteralsCanBeErased, TruthsAreTypedAsValues}
use Rattle.lt_simple_copies.specs.Laws.{CopiesAreSimple}
use Rattle.lt_typed_nodes.specs.Laws.{ConstantsStay, ValuesHaveTheirTypes}
use Rattle.lt_made_types.specs.Laws.{NoTestIsAPointerToAFunction}
use Rattle.lt_typed_nodes.specs.Coming.{OperandsAreComeTo, WhatIsComeToIsKnown}

-- typing takes labels behind a part as it does before it
abbrev pub KeepsUnmarked : {A : Type 0} → Known → Outcome A → Type 0
KeepsUnmarked {A} known o = (a : A) (behind : Known) → o ≡ Goes a behind → behind.is_unmarked ≡ known.is_unmarked

-- so it does behind expressions, and what stands before their operands
pub record KeptUnmarked : Type 0 where
  pub expression : (it : c.Expression) (role : Use) (known : Known) → KeepsUnmarked known (typing.expression it role known)
  pub marks : (them : c.Marks) (known : Known) → KeepsUnmarked known (typing.marks them known)
  pub specifiers : (it : c.Specifiers) (setting : Setting) (known : Known) → KeepsUnmarked known (typing.specifiers it setting known)
  pub declarator : (it : c.Declarator) (of : Specified) (is_definition : Bool) (judge : Option (List ℕ) → Known → Built → List Rule) (known : Known)
      → KeepsUnmarked known (typing.declarator it of is_definition judge known)

pub record Given : Type 0 where
  pub numbered : PartsAreNumbered
  pub stand : PiecesStand
  pub may_stand : ObjectivesStandWhereTheyMay
  pub one_node : MarksAreOfOneNode
  pub predicates : MarkedExpressionsHavePredicates
  pub types : MarkedExpressionsKeepTheirTypes
  pub labels : LabelsOfObjectivesAreNew
  pub told : MutantsAreToldApart
  pub truths : TruthsAreTypedAsValues
  pub values : ValuesHaveTheirTypes
  pub operands : OperandsAreComeTo
  pub known : WhatIsComeToIsKnown
  pub constants : ConstantsStay
  pub closed : ConstantsAreClosed
  pub copies : CopiesWithLiteralsCanBeErased
  pub simple : CopiesAreSimple
  pub tests : NoTestIsAPointerToAFunction
  pub unmarked : KeptUnmarked
