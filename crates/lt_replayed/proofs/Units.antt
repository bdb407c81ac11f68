-- Programs whose runs are the same have the same coverage.
use Rattle.std.proofs.Common.{◌≡◌, ℕ, Bool, true, false, List, [], ◌∷◌, refl, sym, ap, subst, ◌∙◌}
use Rattle.std.specs.Prelude.{◌↔◌, All, Contains, IsTrue}
use Rattle.lt_model.specs.declared.input.Input.{Input}
use Rattle.lt_model.specs.declared.input.Spec.{Spec}
use Rattle.lt_model.specs.State.{Made}
use Rattle.lt_tree.specs.Tree.{Unit as SourceUnit}
use Rattle.lt_tree.specs.Typing.Entities.{Function, Fact}
use Rattle.lt_tree.specs.Typing.Programs.{Program}
use Rattle.lt_meaning.specs.Runs.{run}
use Rattle.lt_entry.specs.declared.test.Test.{Test}
use Rattle.lt_cover.specs.declared.rows.TestEnd.{TestEnd}
use Rattle.lt_cover.specs.declared.rows.TestEnd.TheVariants.{Ran}
use Rattle.lt_cover.specs.declared.rows.TestRow.{TestRow}
use Rattle.lt_cover.specs.declared.rows.LabelRow.{LabelRow}
use Rattle.lt_mark_laws.specs.Added.{AddsProgram}
use Rattle.lt_mark_laws.specs.Laws.{without_new, AreAlike, MarksChangeNothing, ProgramsAreThemselves}
use Rattle.lt_replayed.specs.Replayed.{Setting, IsOverSo, is_run, is_outside, run_of, has_ended, MakesTrue, Covers, IsRowOf, IsCoveredBy, IsTableOf}
use Rattle.lt_replayed.specs.Laws.{CoverageNeedsNoUnit}

-- no mark is new
abbrev none_is_new : ℕ → Bool
none_is_new id = false

all_are_old : (mades : List Made) → without_new none_is_new mades ≡ mades
all_are_old [] = refl
all_are_old (made ∷ mades) = ap (λ rest. made ∷ rest) (all_are_old mades)

-- how a run is over, and its marks
record SameRun (p q : Program) : Type 0 where
  end : (f : Function) (input : Input) (ticks : ℕ) → (run p f input ticks).end ≡ (run q f input ticks).end
  marks : (f : Function) (input : Input) (ticks : ℕ) → (run p f input ticks).at.marks ≡ (run q f input ticks).at.marks

turned : {p q : Program} → SameRun p q → SameRun q p
turned same = record { end = λ f input ticks. sym (same.end f input ticks); marks = λ f input ticks. sym (same.marks f input ticks) }

abbrev setting_of : Program → Function → Spec → (steps : ℕ) → Setting
setting_of program fun spec steps = record { program = program; entry = fun; spec = spec; steps = steps }

module _ (p q : Program) (same : SameRun p q) (f : Function) (spec : Spec) (steps : ℕ) where
  abbrev Before : Setting
  Before = setting_of p f spec steps

  abbrev Behind : Setting
  Behind = setting_of q f spec steps

  same_end : (test : Test) → (run_of Before test).end ≡ (run_of Behind test).end
  same_end test = same.end f _ steps

  over_so : (test : Test) (end : TestEnd) → IsOverSo Before test end → IsOverSo Behind test end
  over_so test end (is_run inside) = subst (λ it. IsOverSo Behind test (Ran it)) (sym (same_end test)) (is_run inside)
  over_so test end (is_outside none) = is_outside none

  covers : (id : ℕ) (test : Test) → Covers Before id test → Covers Behind id test
  covers id test it = record {
    inside = it.inside;
    ended = subst (λ end. IsTrue (has_ended end)) (same_end test) it.ended;
    mark = subst (λ mades. MakesTrue mades id) (same.marks f _ steps) it.mark;
  }

  row_of : (tests : List Test) (row : TestRow) → IsRowOf Before tests row → IsRowOf Behind tests row
  row_of tests row (test, has, name, over) = (test, has, name, over_so test row.end over)

  covered_by : (tests : List Test) (id : ℕ) (name : List ℕ)
      → (test : Test) × Contains tests test × (test.name ≡ name) × Covers Before id test
      → (test : Test) × Contains tests test × (test.name ≡ name) × Covers Behind id test
  covered_by tests id name (test, has, named, it) = (test, has, named, covers id test it)

-- neither the unit nor what is known of expressions changes a run
same_without_unit : MarksChangeNothing → ProgramsAreThemselves → (program : Program) (unit : SourceUnit) (facts : List Fact) → SameRun (record program { unit = unit; facts = facts }) program
same_without_unit nothing_changes themselves program unit facts = record { end = λ f input ticks. (alike f input ticks).end; marks = λ f input ticks. sym (all_are_old _) ∙ (alike f input ticks).marks ∙ all_are_old _ }
  where
    itself : AddsProgram none_is_new program program
    itself = (themselves none_is_new).0 program

    adds : AddsProgram none_is_new (record program { unit = unit; facts = facts }) program
    adds = record { model = itself.model; structs = itself.structs; objects = itself.objects; types = itself.types; functions = itself.functions }

    alike : (f : Function) (input : Input) (ticks : ℕ) → AreAlike none_is_new (run (record program { unit = unit; facts = facts }) f input ticks) (run program f input ticks)
    alike f input ticks = nothing_changes none_is_new (record program { unit = unit; facts = facts }) program f f input ticks adds ((themselves none_is_new).1 f)

pub coverage_without_unit : MarksChangeNothing → ProgramsAreThemselves → CoverageNeedsNoUnit
coverage_without_unit nothing_changes themselves program unit facts spec suite steps table is =
    let p = record program { unit = unit; facts = facts } in
    let same = same_without_unit nothing_changes themselves program unit facts in
    let f = is.entry in
    record {
      entry = f;
      named = is.named;
      table = record {
        ordered = is.table.ordered;
        tests = λ row. (
          (λ has. row_of p program same f spec steps suite.tests row ((is.table.tests row).0 has)),
          (λ row_is. (is.table.tests row).1 (row_of program p (turned same) f spec steps suite.tests row row_is)),
        );
        labels = is.table.labels;
        covered = λ k d within. λ name. (
          (λ has. covered_by p program same f spec steps suite.tests _ name ((is.table.covered k d within name).0 has)),
          (λ tests. (is.table.covered k d within name).1 (covered_by program p (turned same) f spec steps suite.tests _ name tests)),
        );
        hypers = is.table.hypers;
      };
    }
