-- The stages of an annotation, one after the other.
use Rattle.std.proofs.Common.{◌≡◌, ◌≤◌, ℕ, suc, ◌+◌, List, length, None, refl, sym, ap, subst, ◌∙◌, arith}
use Rattle.std.specs.Prelude.{◌<◌, ◌^◌, All, Result, Ok, Err}
use Rattle.std.specs.Global.{Vec}
use Rattle.lt_model.specs.declared.scalar.DataModel.{DataModel}
use Rattle.lt_token.specs.Laws.{AtMostOneReading}
use Rattle.lt_token.specs.Nest.{deepest}
use Rattle.lt_token.specs.Tokens.{Lexes}
use Rattle.lt_nest.specs.Greatest.{NestsTo}
use Rattle.lt_tree.specs.Tree.{Unit as SourceUnit}
use Rattle.lt_tree.specs.UnitView.{unit_of}
use Rattle.lt_tree.specs.CanonUnits.{canon}
use Rattle.lt_tree.specs.Erasure.{erased_unit}
use Rattle.lt_tree.specs.Ids.{ids_of_unit}
use Rattle.lt_tree.specs.Units.{IsWellMade}
use Rattle.lt_tree.specs.declared.unit.Unit.{Unit}
use Rattle.lt_tree.specs.Typing.Entities.{greatest_label_id}
use Rattle.lt_tree.specs.Typing.Programs.{Program}
use Rattle.lt_answers.specs.Programs.{IsProgram, HasNoProgram, SpellsNone, spells_none}
use Rattle.lt_print.specs.Laws.{IsOfUnitAlone}
use Rattle.lt_objectives.specs.Criteria.{criteria_in}
use Rattle.lt_objectives.specs.Laws.{MarksAreErased}
use Rattle.lt_numbering.specs.Numbering.{most_id}
use Rattle.lt_survey.specs.Marking.{IdsPass, next_behind}
use Rattle.lt_label_counts.specs.Laws.{IdsNeverPass}
use Rattle.lt_mark_typing.specs.MarkedRuns.{is_from, RunsAs}
use Rattle.lt_mark_typing.specs.MutationLabels.{MutationLabelsAreExact}
use Rattle.lt_objective_marks.specs.Mutants.{MarkedUnitsTellMutantsApart}
use Rattle.lt_objective_marks.specs.Rounds.{MarkedUnitsOfSetsRunAsTheyDid}
use Rattle.lt_marked_texts.specs.Laws.{AnnotatedTextsAreOfUnitsAlone}
use Rattle.lt_answers.specs.Answers.{most_bytes}
use Rattle.lt_answers.specs.Annotations.{first_id, HasAnnotation, RefusesAnnotation, no_program, grown}
use Rattle.lt_answers.specs.declared.status.Refusal.{Refusal}
use Rattle.lt_answers.proofs.Annotated.{shallow_at}
use Rattle.ltest.specs.Stages.{StopsBy}
use Rattle.ltest.specs.Labels.{HasLabels, GivesShallow, IsShallowText, IsDeepText, deep_text}
use Rattle.ltest.specs.Texts.{IsAnnotationAnswer}
use Rattle.ltest.specs.declared.stops.TextStop.{TextStop}
use Rattle.ltest.specs.declared.stops.TextStop.TheVariants.{Refused, NoMemory}
use Rattle.ltest.proofs.Stages.{weaker}
use Rattle.ltest.proofs.Marking.{no_greater_id, behind_low}

-- ---- the unit

-- a text that spells no unit
pub unspelled : (model : DataModel) (set : ℕ) (text : List ℕ) (stop : TextStop) → StopsBy (SpellsNone text) stop → StopsBy (RefusesAnnotation model set text) stop
unspelled model set text stop is = weaker stop (λ why none. no_program (spells_none none)) is

-- a text that has no program
pub untyped : (model : DataModel) (set : ℕ) (text : List ℕ) (stop : TextStop) → StopsBy (HasNoProgram model text) stop → StopsBy (RefusesAnnotation model set text) stop
untyped model set text stop is = weaker stop (λ why none. no_program none) is

-- The unit with the labels of a set is the annotated unit of the text.
pub annotated_so : (model : DataModel) (set : ℕ) (text : List ℕ) (program : Program) (is : IsProgram model text program) (it : Unit) → HasLabels is.unit program set it
    → HasAnnotation model set text (unit_of it)
annotated_so model set text program is it has = record { program = program; is_program = is; is = has }

-- ---- its text

-- a text whose greatest nest isn't too great
pub shallow_text : AtMostOneReading → (out : Vec ℕ) (nest : ℕ) → NestsTo out.items nest → nest ≤ deepest → IsShallowText out.items out
shallow_text readings out nest nests low = record { is = refl; shallow = shallow_at readings out.items nest nests low }

-- a text that has none
pub no_nest_text : (out : Vec ℕ) → ((nest : ℕ) → NestsTo out.items nest → ⊥) → IsShallowText out.items out
no_nest_text out none = record { is = refl; shallow = λ nest nests. absurd (none nest nests) }

too_deep : (model : DataModel) (set : ℕ) (text : List ℕ) (unit : SourceUnit) (bytes : List ℕ) (why : Refusal) → HasAnnotation model set text unit → bytes ≡ canon unit
    → IsDeepText bytes why → RefusesAnnotation model set text why
too_deep model set text unit bytes why has is (deep_text {nest = nest} nests deep) = grown has (subst (λ t. NestsTo t nest) is nests) deep

-- ids of new labels are small numbers
small_id : (n : ℕ) → n ≤ most_id + 1 → n ≤ 2 ^ 64
small_id n low = omega arith

-- No id of the new labels passes the greatest.
low_so : IdsNeverPass → (model : DataModel) (set : ℕ) (text : List ℕ) (unit : SourceUnit) → length text ≤ most_bytes → (has : HasAnnotation model set text unit)
    → next_behind (criteria_in set) has.is_program.unit has.program (first_id has.is_program.unit) ≤ most_id + 1
low_so never model set text unit short has =
    let it = has.is_program in
    let none = λ (pass : IdsPass (criteria_in set) it.unit has.program (first_id it.unit)).
    never model text it.spells.tokens it.unit it.spots has.program set short it.spells.lexes.0 it.spells.derives it.typed pass in
    let greatest = no_greater_id (ids_of_unit it.unit) in
    let first : first_id it.unit ≤ most_id + 1 = omega arith in
    behind_low (criteria_in set) it.unit has.program (first_id it.unit) first none

-- The annotated unit runs as the unit of the text.
pub runs_so : IdsNeverPass → MarkedUnitsOfSetsRunAsTheyDid → (model : DataModel) (set : ℕ) (text : List ℕ) (unit : SourceUnit) → length text ≤ most_bytes → (has : HasAnnotation model set text unit)
    → RunsAs (is_from (first_id has.is_program.unit)) model has.program unit
runs_so never law model set text unit short has =
    let it = has.is_program in
    let low = low_so never model set text unit short has in
    let last : next_behind (criteria_in set) it.unit has.program (first_id it.unit) ≤ suc greatest_label_id = low in
    subst (RunsAs (is_from (first_id it.unit)) model has.program) (sym has.is) (law model it.unit has.program set it.typed last)

-- Its labels of mutants are exact.
pub exact_so : IdsNeverPass → MarkedUnitsTellMutantsApart → (model : DataModel) (set : ℕ) (text : List ℕ) (unit : SourceUnit) → length text ≤ most_bytes → (has : HasAnnotation model set text unit)
    → MutationLabelsAreExact (is_from (first_id has.is_program.unit)) greatest_label_id model unit
exact_so never law model set text unit short has =
    let it = has.is_program in
    let low = low_so never model set text unit short has in
    let last : next_behind (criteria_in set) it.unit has.program (first_id it.unit) ≤ suc greatest_label_id = low in
    subst (MutationLabelsAreExact (is_from (first_id it.unit)) greatest_label_id model) (sym has.is) (law model it.unit has.program set it.typed last)

-- The tokens of the annotated unit's text derive no other unit.
pub alone_so : IdsNeverPass → AnnotatedTextsAreOfUnitsAlone → (model : DataModel) (set : ℕ) (text : List ℕ) (unit : SourceUnit) → length text ≤ most_bytes → All (λ b. b < 256) text
    → HasAnnotation model set text unit → IsOfUnitAlone (canon unit) unit
alone_so never law model set text unit short bytes has =
    let it = has.is_program in
    let lexes : Lexes text it.spells.tokens None = it.spells.lexes.0 in
    let good : IsWellMade it.unit = record { text = text; bytes = bytes; tokens = it.spells.tokens; lexes = lexes; spots = it.spots; derives = it.spells.derives } in
    let low = low_so never model set text unit short has in
    subst (λ u. IsOfUnitAlone (canon u) u) (sym has.is)
    (law model it.unit has.program set (first_id it.unit) good it.typed (small_id (next_behind (criteria_in set) it.unit has.program (first_id it.unit)) low))

-- Without marks it is the unit of the text without its marks.
pub same_so : MarksAreErased → (model : DataModel) (set : ℕ) (text : List ℕ) (unit : SourceUnit) (has : HasAnnotation model set text unit) → erased_unit unit ≡ erased_unit has.is_program.unit
same_so law model set text unit has = ap erased_unit has.is ∙ law.1 has.is_program.unit has.program set (first_id has.is_program.unit)

-- What is given of the unit's text is the answer.
pub put_so : (model : DataModel) (set : ℕ) (text : List ℕ) (unit : SourceUnit) (bytes : List ℕ) (given : Result (Vec ℕ) TextStop) (has : HasAnnotation model set text unit)
    → IsOfUnitAlone (canon unit) unit → erased_unit unit ≡ erased_unit has.is_program.unit
    → RunsAs (is_from (first_id has.is_program.unit)) model has.program unit → MutationLabelsAreExact (is_from (first_id has.is_program.unit)) greatest_label_id model unit
    → bytes ≡ canon unit → GivesShallow bytes given → IsAnnotationAnswer model set text given
put_so model set text unit bytes (Ok out) has alone same runs exact is it = record {
  annotated = unit;
  has = has;
  is = it.is ∙ is;
  shallow = subst (λ t. (nest : ℕ) → NestsTo t nest → nest ≤ deepest) (sym it.is) it.shallow;
  alone = subst (λ t. IsOfUnitAlone t unit) (sym (it.is ∙ is)) alone;
  same = same;
  runs = runs;
  mutants = exact;
}
put_so model set text unit bytes (Err (Refused why)) has alone same runs exact is it = too_deep model set text unit bytes why has is it
put_so model set text unit bytes (Err NoMemory) has alone same runs exact is it = tt
