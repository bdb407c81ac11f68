-- What is given of the unit with labels, and of its text.
use Rattle.std.specs.Prelude.{◌≡◌, ◌<◌, ◌≤◌, ℕ, List, Result, Ok, Err}
use Rattle.std.specs.Global.{Vec}
use Rattle.lt_model.specs.declared.scalar.DataModel.{DataModel}
use Rattle.lt_token.specs.Nest.{deepest}
use Rattle.lt_nest.specs.Greatest.{NestsTo}
use Rattle.lt_tree.specs.Tree.{Unit as SourceUnit}
use Rattle.lt_tree.specs.UnitView.{unit_of}
use Rattle.lt_tree.specs.Typing.Programs.{Program}
use Rattle.lt_tree.specs.declared.unit.Unit.{Unit}
use Rattle.lt_objectives.specs.Criteria.{criteria_in}
use Rattle.lt_objectives.specs.Marked.{marked}
use Rattle.lt_survey.specs.Marking.{IdsPass}
use Rattle.lt_answers.specs.Annotations.{first_id, HasAnnotation, RefusesAnnotation}
use Rattle.lt_answers.specs.declared.status.Refusal.{Refusal}
use Rattle.lt_answers.specs.declared.status.Refusal.TheVariants.{Grown}
use Rattle.ltest.specs.Stages.{StopsBy}
use Rattle.ltest.specs.declared.stops.TextStop.{TextStop}

-- ---- labels

-- No id of the marks of a set of criteria passes the greatest.
abbrev pub HasIds : SourceUnit → Program → (set : ℕ) → Type 0
HasIds unit program set = IdsPass (criteria_in set) unit program (first_id unit) → ⊥

-- the unit with the marks of a set of criteria
abbrev pub HasLabels : SourceUnit → Program → (set : ℕ) → Unit → Type 0
HasLabels unit program set it = unit_of it ≡ marked unit program set (first_id unit)

-- the annotated unit of a text, or why it has none
abbrev pub GivesAnnotated : DataModel → (set : ℕ) → List ℕ → Result Unit TextStop → Type 0
GivesAnnotated model set text (Ok it) = HasAnnotation model set text (unit_of it)
GivesAnnotated model set text (Err stop) = StopsBy (RefusesAnnotation model set text) stop

-- ---- their text

-- The text doesn't nest too deeply.
pub record IsShallowText (text : List ℕ) (out : Vec ℕ) : Type 0 where
  pub is : out.items ≡ text
  pub shallow : (nest : ℕ) → NestsTo text nest → nest ≤ deepest

-- why a text isn't put: it nests so deep
pub data IsDeepText (text : List ℕ) : Refusal → Type 0 where
  deep_text : {nest : ℕ} → NestsTo text nest → deepest < nest → IsDeepText text (Grown nest)

-- the text, if it doesn't nest too deeply
abbrev pub GivesShallow : List ℕ → Result (Vec ℕ) TextStop → Type 0
GivesShallow text (Ok out) = IsShallowText text out
GivesShallow text (Err stop) = StopsBy (IsDeepText text) stop
