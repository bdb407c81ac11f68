-- Where the labels of a unit with marks added come from, and that what is told apart in the unit is so with marks added.
use Rattle.std.specs.Prelude.{◌≡◌, ℕ, Bool, true, List, [], filter_map}
use Rattle.lt_model.specs.declared.scalar.DataModel.{DataModel}
use Rattle.lt_tree.specs.Tree as c
use Rattle.lt_tree.specs.Nodes.{in_expression, in_mark}
use Rattle.lt_tree.specs.Purity.{is_pure}
use Rattle.lt_tree.specs.Typing.Entities.{Known, greatest_label_id, starting}
use Rattle.lt_tree.specs.Typing.Steps.{Goes}
use Rattle.lt_tree.specs.Typing.Expressions.{Typed, as_value}
use Rattle.lt_tree.specs.Typing.ExpressionTyping.{expression}
use Rattle.lt_tree.specs.Typing.UnitTyping.{defined_in, IsProgramTo}
use Rattle.lt_tree.specs.Typing.Programs.{Program}
use Rattle.lt_objectives.specs.Decisions.{inequality}
use Rattle.lt_typed_nodes.specs.Reaching.{IsLabelAt}
use Rattle.lt_mark_laws.specs.Mutants.{AreToldApart}
use Rattle.lt_mark_typing.specs.Beside.{IsBeside}
use Rattle.lt_mark_typing.specs.Placed.{AreOld, AreNewLabels}
use Rattle.lt_mark_typing.specs.PlacedUnits.{AddsToUnit}

-- A label to which typing comes in a unit with marks added stands in the unit without them, where the same is known, or is one of those that were added.
pub data ComesFrom (new : ℕ → Bool) (greatest : ℕ) (model : DataModel) (unit : c.Unit) (label : c.Mark) (there : Known) : Type 0 where
  of_unit : {used : List ℕ} {further : List Bool} {known : Known}
      → IsLabelAt greatest model unit label known → AreOld new (in_mark label) → IsBeside new used further known there → ComesFrom new greatest model unit label there
  is_added : {used : List ℕ} {further : List Bool} {known : Known} (after : List ℕ) (rest : c.Marks)
      → AreNewLabels new used after known (c.a_mark label rest) → IsBeside new used further known there → ComesFrom new greatest model unit label there

abbrev pub LabelsComeFromUnits : Type 0
LabelsComeFromUnits =
    (new : ℕ → Bool) (greatest : ℕ) (model : DataModel) (unit marked : c.Unit) (after : List ℕ) (program : Program) → IsProgramTo greatest model unit program
    → AddsToUnit new [] after (starting greatest model (filter_map defined_in unit)) unit marked → filter_map defined_in marked ≡ filter_map defined_in unit
    → (label : c.Mark) (there : Known) → IsLabelAt greatest_label_id model marked label there → ComesFrom new greatest model unit label there

-- Where two pure expressions without new marks are told apart, they are so at the same place of the text with marks added.
abbrev pub DifferencesStay : Type 0
DifferencesStay =
    (new : ℕ → Bool) (used : List ℕ) (further : List Bool) (known there behind : Known) (it other : c.Expression) (z : Typed)
    → is_pure it ≡ true → is_pure other ≡ true → AreOld new (in_expression (inequality it other)) → IsBeside new used further known there
    → expression (inequality it other) as_value known ≡ Goes z behind → AreToldApart known it other → AreToldApart there it other
