-- The text with the marks of criteria that `annotate` puts, or the refusal that comes first.
use Rattle.std.specs.Prelude.{◌≡◌, ◌<◌, ◌≤◌, ℕ, suc, List}
use Rattle.lt_model.specs.declared.scalar.DataModel.{DataModel}
use Rattle.lt_token.specs.Nest.{deepest}
use Rattle.lt_nest.specs.Greatest.{NestsTo}
use Rattle.lt_tree.specs.Tree.{Unit as SourceUnit}
use Rattle.lt_tree.specs.Ids.{ids_of_unit, greatest_id}
use Rattle.lt_tree.specs.CanonUnits.{canon}
use Rattle.lt_tree.specs.Erasure.{erased_unit}
use Rattle.lt_tree.specs.Typing.Entities.{greatest_label_id}
use Rattle.lt_tree.specs.Typing.Programs.{Program}
use Rattle.lt_print.specs.Laws.{IsOfUnitAlone}
use Rattle.lt_objectives.specs.Marked.{marked}
use Rattle.lt_mark_typing.specs.MarkedRuns.{is_from, RunsAs}
use Rattle.lt_mark_typing.specs.MutationLabels.{MutationLabelsAreExact}
use Rattle.lt_answers.specs.Programs.{IsProgram, HasNoProgram}
use Rattle.lt_answers.specs.declared.status.Refusal.{Refusal}
use Rattle.lt_answers.specs.declared.status.Refusal.TheVariants.{Grown}

-- ---- the annotated unit

-- new ids go on from the greatest one of the unit's marks, or begin at 1 where it has none
abbrev pub first_id : SourceUnit → ℕ
first_id unit = suc (greatest_id (ids_of_unit unit))

-- The text spells a unit that has a typed program, and this is the unit with the marks of a set of criteria.
pub record HasAnnotation (model : DataModel) (set : ℕ) (text : List ℕ) (annotated : SourceUnit) : Type 0 where
  pub program : Program
  pub is_program : IsProgram model text program
  pub is : annotated ≡ marked is_program.unit program set (first_id is_program.unit)

-- ---- what is put

-- `out` is the canonical text of the annotated unit, and doesn't nest too deeply. Its tokens derive this unit and no other, which without its marks is the
-- unit of the text without its marks. It runs as the unit of the text does, new marks and string literals in their predicates aside, where these have room.
pub record IsAnnotation (model : DataModel) (set : ℕ) (text out : List ℕ) : Type 0 where
  pub annotated : SourceUnit
  pub has : HasAnnotation model set text annotated
  pub is : out ≡ canon annotated
  pub shallow : (nest : ℕ) → NestsTo out nest → nest ≤ deepest
  pub alone : IsOfUnitAlone out annotated
  pub same : erased_unit annotated ≡ erased_unit has.is_program.unit
  pub runs : RunsAs (is_from (first_id has.is_program.unit)) model has.program annotated
  -- Each new label of a mutant is true exactly where the expression and the mutant both have a value and the values differ.
  pub mutants : MutationLabelsAreExact (is_from (first_id has.is_program.unit)) greatest_label_id model annotated

-- ---- refusals

-- Why no text is put: the text has no program, or the text that would be put nests too deeply.
pub data RefusesAnnotation (model : DataModel) (set : ℕ) (text : List ℕ) : Refusal → Type 0 where
  no_program : {why : Refusal} → HasNoProgram model text why → RefusesAnnotation model set text why
  grown : {annotated : SourceUnit} {nest : ℕ} → HasAnnotation model set text annotated → NestsTo (canon annotated) nest → deepest < nest
      → RefusesAnnotation model set text (Grown nest)
