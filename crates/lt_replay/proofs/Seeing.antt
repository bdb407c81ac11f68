-- What is seen of runs.
use Rattle.std.proofs.Common.{◌≡◌, ℕ, zero, suc, ◌<◌, List, [], ◌∷◌, map, length, get_or, slice_get, Some, Bool, true, false, ◌&&◌, ◌||◌, ◌↔◌, refl, sym, subst, ap, ◌∙◌, arith}
use Rattle.std.specs.Prelude.{Contains, IsTrue, ◌==◌}
use Rattle.std.specs.List.{list_any}
use Rattle.std.specs.Ordering.{nat_cmp, is_eq}
use Rattle.std.specs.BTreeMap.{is_at}
use Rattle.std.specs.BTreeSet.{BTreeSet, contains}
use Rattle.std.proofs.lemmas.Bool.{and_parts, eqb-true, eq-eqb}
use Rattle.std.proofs.lemmas.Cmp.{nat_eq_equiv}
use Rattle.lt_model.specs.declared.run.Mark.{Mark}
use Rattle.lt_model.specs.declared.input.Input.{Input}
use Rattle.lt_model.specs.declared.input.Spec.{Spec}
use Rattle.lt_model.specs.State.{Made}
use Rattle.lt_tree.specs.Typing.Entities.{Function}
use Rattle.lt_tree.specs.Typing.Programs.{Program}
use Rattle.lt_ir.specs.declared.graph.Graph.{Graph}
use Rattle.lt_ir.specs.Running.{Over}
use Rattle.lt_ir.specs.Graph.{Runs}
use Rattle.lt_ir.specs.Outcomes as outcomes
use Rattle.lt_ir.specs.Outcomes.{mark_of}
use Rattle.lt_code.specs.Bodies.{HasProgram}
use Rattle.lt_code.specs.Laws.{GraphsRunInNoOtherWay}
use Rattle.lt_mach.specs.declared.outcome.Brief.{Brief}
use Rattle.lt_mach.specs.Seeing.{SawAll}
use Rattle.lt_mach.specs.Promise.{RunsInto}
use Rattle.lt_entry.specs.declared.test.Test.{Test}
use Rattle.lt_entry.specs.Meeting.{Meets}
use Rattle.lt_entry.specs.Inputs.{built}
use Rattle.lt_cover.specs.declared.rows.TestEnd.{TestEnd}
use Rattle.lt_cover.specs.declared.rows.TestEnd.TheVariants.{Ran, Outside}
use Rattle.lt_replay.specs.declared.marks.TrueMarks.{TrueMarks}
use Rattle.lt_replay.specs.declared.seen.Seen.{Seen}
use Rattle.lt_replayed.specs.Replayed.{Setting, IsInside, run_of, IsOverSo, is_run, is_outside, has_ended, MakesTrue, Covers}
use Rattle.lt_replay.specs.Marks.{is_true_of, makes_true, Sees}
use Rattle.lt_replay.specs.Seen.{covers, IsSeenRun, IsSeen, of_run, of_outside}
use Rattle.lt_replay.proofs.Rows.{found_as}

-- ---- marks

or_nothing : (a : Bool) → (a || false) ≡ a
or_nothing true = refl
or_nothing false = refl

grouped : (a b c : Bool) → ((a || b) || c) ≡ (a || (b || c))
grouped true b c = refl
grouped false b c = refl

-- along the marks of a run
pub saw_all :
    (old : TrueMarks) (marks : List Mark) (new : TrueMarks) → SawAll Sees old marks new
    → (id : ℕ) → contains nat_cmp new.ids id ≡ (contains nat_cmp old.ids id || makes_true marks id)
saw_all old [] new is id = ap (λ (it : TrueMarks). contains nat_cmp it.ids id) is ∙ sym (or_nothing (contains nat_cmp old.ids id))
saw_all old (mark ∷ marks) new (between, sees, rest) id =
    saw_all between marks new rest id ∙ ap (λ b. b || makes_true marks id) (sees id)
    ∙ grouped (contains nat_cmp old.ids id) (is_true_of id mark) (makes_true marks id)

none_in : (ids : BTreeSet ℕ) (id : ℕ) → ids.keys ≡ [] → contains nat_cmp ids id ≡ false
none_in ids id none = ap (list_any (is_at (nat_cmp id))) none

-- ---- a run

-- a run that ended
pub run_ended :
    (graph : Graph) (entry : ℕ) (input : Input) (steps : ℕ) (brief : Brief) (old new : TrueMarks) (seen : Seen)
    → RunsInto Sees graph entry input steps brief old new → old.ids.keys ≡ [] → has_ended brief.end ≡ true
    → seen.end ≡ Ran brief.end → seen.covered ≡ new.ids → IsSeenRun graph entry input steps seen
run_ended graph entry input steps brief old new seen ran none ended end covered = record {
  over = ran.over;
  runs = ran.runs;
  end = end ∙ ap Ran ran.end;
  covered = λ id.
      ap (λ (ids : BTreeSet ℕ). contains nat_cmp ids id) covered
      ∙ saw_all old (outcomes.run_of steps ran.over).marks new ran.watched id
      ∙ ap (λ b. b || makes_true (outcomes.run_of steps ran.over).marks id) (none_in old.ids id none)
      ∙ ap (λ b. b && makes_true (outcomes.run_of steps ran.over).marks id) (sym (ap has_ended (sym ran.end) ∙ ended));
}

-- a run that didn't
pub run_stopped :
    (graph : Graph) (entry : ℕ) (input : Input) (steps : ℕ) (brief : Brief) (old new : TrueMarks) (seen : Seen)
    → RunsInto Sees graph entry input steps brief old new → has_ended brief.end ≡ false
    → seen.end ≡ Ran brief.end → seen.covered.keys ≡ [] → IsSeenRun graph entry input steps seen
run_stopped graph entry input steps brief old new seen ran stopped end covered = record {
  over = ran.over;
  runs = ran.runs;
  end = end ∙ ap Ran ran.end;
  covered = λ id.
      none_in seen.covered id covered
      ∙ ap (λ b. b && makes_true (outcomes.run_of steps ran.over).marks id) (sym (ap has_ended (sym ran.end) ∙ stopped));
}

-- ---- runs of programs

made_true : (marks : List Made) (id : ℕ) → makes_true (map mark_of marks) id ≡ true → MakesTrue marks id
made_true [] id is = absurd (cc)
made_true (mark ∷ marks) id is = first (mark.truth && (mark.id == id)) refl (λ later. made_true marks id later)
  where
    first : (b : Bool) → (mark.truth && (mark.id == id)) ≡ b → (makes_true (map mark_of marks) id ≡ true → MakesTrue marks id) → MakesTrue (mark ∷ marks) id
    first true here rest =
        let parts = and_parts mark.truth (mark.id == id) here in
        (mark, (0, omega arith, refl), eqb-true mark.id id parts.1, parts.0)
    first false here rest =
        let later = rest (sym (ap (λ b. b || makes_true (map mark_of marks) id) here) ∙ is) in
        (later.0, (suc later.1.0, (let less : later.1.0 < length marks = later.1.1 in omega arith), later.1.2), later.2, later.3)

makes_it_true : (marks : List Made) (id : ℕ) (mark : Made) → Contains marks mark → mark.id ≡ id → mark.truth ≡ true → makes_true (map mark_of marks) id ≡ true
makes_it_true [] id mark (k, within, at) is holds = absurd (omega arith)
makes_it_true (first ∷ marks) id mark (zero, within, at) is holds =
    let truth : first.truth ≡ true = ap (λ (m : Made). m.truth) at ∙ holds in
    let same : (first.id == id) ≡ true = eq-eqb first.id id (ap (λ (m : Made). m.id) at ∙ is) in
    ap (λ b. (b && (first.id == id)) || makes_true (map mark_of marks) id) truth ∙ ap (λ b. b || makes_true (map mark_of marks) id) same
makes_it_true (first ∷ marks) id mark (suc k, within, at) is holds =
    let later = makes_it_true marks id mark (k, omega arith, at) is holds in
    ap (λ b. is_true_of id (mark_of first) || b) later ∙ or_true (is_true_of id (mark_of first))
  where
    or_true : (b : Bool) → (b || true) ≡ true
    or_true true = refl
    or_true false = refl

any_found : (ids : List ℕ) (id : ℕ) → list_any (λ other. other == id) ids ≡ list_any (is_at (nat_cmp id)) ids
any_found [] id = refl
any_found (other ∷ ids) id = ap (λ b. b || list_any (λ other. other == id) ids) (same_either_way other id) ∙ ap (λ b. is_eq (nat_cmp id other) || b) (any_found ids id)
  where
    same_either_way : (a b : ℕ) → (a == b) ≡ is_eq (nat_cmp b a)
    same_either_way a b = nat_eq_equiv.symm a b ∙ sym (found_as b a)

-- the entry that a specification names
abbrev pub setting_of : Program → Function → Spec → (steps : ℕ) → Setting
setting_of program fun spec steps = record { program = program; entry = fun; spec = spec; steps = steps }

-- the labels that a test covers are these
abbrev pub AreCovered : Setting → Test → List ℕ → Type 0
AreCovered setting test ids = (id : ℕ) → (list_any (λ other. other == id) ids ≡ true) ↔ Covers setting id test

-- what is seen of a test on a graph is what holds of it on the program of which the graph has the code
pub seen_so :
    (program : Program) (graph : Graph) (fun : Function) (spec : Spec) (steps : ℕ) (test : Test) (seen : Seen)
    → GraphsRunInNoOtherWay → HasProgram program graph → slice_get program.functions spec.entry ≡ Some fun → IsSeen graph spec test steps seen
    → IsOverSo (setting_of program fun spec steps) test seen.end × AreCovered (setting_of program fun spec steps) test seen.covered.keys
seen_so program graph fun spec steps test seen law has named (of_run inside ran) = (over_so, covered_so)
  where
    same : ran.over ≡ run_of (setting_of program fun spec steps) test
    same = law graph program has spec.entry fun named (built test spec) steps ran.over ran.runs

    over_so : IsOverSo (setting_of program fun spec steps) test seen.end
    over_so = subst (IsOverSo (setting_of program fun spec steps) test) (sym (ran.end ∙ ap (λ (over : Over). Ran over.end) same)) (is_run inside)

    covered_so : AreCovered (setting_of program fun spec steps) test seen.covered.keys
    covered_so id = (forth, back)
      where
        counted : list_any (λ other. other == id) seen.covered.keys ≡ covers steps ran.over id
        counted = any_found seen.covered.keys id ∙ ran.covered id

        forth : list_any (λ other. other == id) seen.covered.keys ≡ true → Covers (setting_of program fun spec steps) id test
        forth is =
            let parts = and_parts (has_ended ran.over.end) (makes_true (map mark_of ran.over.at.marks) id) (sym counted ∙ is) in
            record {
              inside = inside;
              ended = subst (λ (over : Over). IsTrue (has_ended over.end)) same parts.0;
              mark = subst (λ (over : Over). MakesTrue over.at.marks id) same (made_true ran.over.at.marks id parts.1);
            }

        back : Covers (setting_of program fun spec steps) id test → list_any (λ other. other == id) seen.covered.keys ≡ true
        back covers =
            let ended : has_ended ran.over.end ≡ true = subst (λ (over : Over). IsTrue (has_ended over.end)) (sym same) covers.ended in
            let mark : MakesTrue ran.over.at.marks id = subst (λ (over : Over). MakesTrue over.at.marks id) (sym same) covers.mark in
            counted ∙ ap (λ b. b && makes_true (map mark_of ran.over.at.marks) id) ended ∙ makes_it_true ran.over.at.marks id mark.0 mark.1 mark.2 mark.3
seen_so program graph fun spec steps test seen law has named (of_outside outside end none) = (over_so, covered_so)
  where
    over_so : IsOverSo (setting_of program fun spec steps) test seen.end
    over_so = subst (IsOverSo (setting_of program fun spec steps) test) (sym end) (is_outside outside)

    covered_so : AreCovered (setting_of program fun spec steps) test seen.covered.keys
    covered_so id =
        let never : list_any (λ other. other == id) seen.covered.keys ≡ false = ap (list_any (λ other. other == id)) none in
        (λ is. absurd (cc), λ covers. absurd (outside covers.inside))
