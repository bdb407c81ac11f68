-- The table of a suite, from the drafts of the tests so far.
use Rattle.std.proofs.Common.{◌≡◌, ℕ, zero, suc, ◌+◌, ◌<◌, ◌≤◌, List, [], ◌∷◌, ◌++◌, map, length, take, take_all, get_or, slice_get, Some, Bor, refl, sym, subst, ap, ◌∙◌, arith}
use Rattle.std.specs.Prelude.{All}
use Rattle.std.specs.Ordering.{nat_cmp}
use Rattle.std.specs.Cmp.Lexicographic.{slice_cmp}
use Rattle.std.specs.declared.cmp.Ordering.TheVariants.{Less}
use Rattle.std.proofs.lemmas.List.{take_more, map_push, get_or-map, length-map, take-map}
use Rattle.std.proofs.lemmas.List.Elements.{All-nil, All-cons, All-contains}
use Rattle.lt_model.specs.declared.input.Spec.{Spec}
use Rattle.lt_tree.specs.Typing.Entities.{Function}
use Rattle.lt_tree.specs.Typing.Programs.{Program}
use Rattle.lt_ir.specs.declared.graph.Graph.{Graph}
use Rattle.lt_code.specs.Bodies.{HasProgram}
use Rattle.lt_code.specs.Laws.{GraphsRunInNoOtherWay}
use Rattle.lt_entry.specs.declared.test.Test.{Test}
use Rattle.lt_entry.specs.declared.test.Suite.{Suite}
use Rattle.lt_cover.specs.Coverage.Table.{Table, NamesRise}
use Rattle.lt_cover.proofs.Rising.{rise_head, rise_tail}
use Rattle.lt_replay.specs.declared.draft.Draft.{Draft}
use Rattle.lt_replay.specs.declared.seen.Seen.{Seen}
use Rattle.lt_replayed.specs.Replayed.{Setting, IsTableOf, IsCoverage}
use Rattle.lt_replay.specs.Seen.{IsSeen}
use Rattle.lt_replay.specs.Order.{AreInOrder}
use Rattle.lt_replay.specs.Drafts.{HasLabels, table_of, with_test}
use Rattle.lt_replay.proofs.Lists.{contains_map}
use Rattle.lt_replay.proofs.Seeing.{setting_of, seen_so}
use Rattle.lt_replay.proofs.Tables.{table_of_none, one_more_test, of_same_tests}

-- it is the draft of the table of these tests, on the entry that a specification names
abbrev pub IsDraftOf : Program → Spec → (steps : ℕ) → List Test → Draft → Type 0
IsDraftOf program spec steps tests draft =
    (fun : Function) → slice_get program.functions spec.entry ≡ Some fun
    → IsTableOf (setting_of program fun spec steps) tests (table_of draft)

abbrev pub tests_in : List (Bor Test) → List Test
tests_in = map (λ (test : Bor Test). test.now)

pub draft_of_none :
    (program : Program) (spec : Spec) (steps : ℕ) (order : List (Bor Test)) (draft : Draft) → draft.tests.items ≡ [] → HasLabels program.labels draft.labels
    → IsDraftOf program spec steps (tests_in (take 0 order)) draft
draft_of_none program spec steps order draft none has fun named = table_of_none (setting_of program fun spec steps) draft none has

-- the names of those before a test are below its own
below_at :
    (tests : List Test) (i : ℕ) (t : Test) → i < length tests → get_or tests i t ≡ t → NamesRise (map (λ (u : Test). u.name) tests)
    → All (λ (u : Test). slice_cmp nat_cmp u.name t.name ≡ Less) (take i tests)
below_at [] i t within at rise = absurd (omega arith)
below_at (first ∷ tests) zero t within at rise = All-nil (λ (u : Test). slice_cmp nat_cmp u.name t.name ≡ Less)
below_at (first ∷ tests) (suc i) t within at rise =
    let name : Test → List ℕ = λ u. u.name in
    All-cons (λ (u : Test). slice_cmp nat_cmp u.name t.name ≡ Less) first (take i tests)
    (All-contains (λ n. slice_cmp nat_cmp first.name n ≡ Less) (map name tests) t.name (rise_head (slice_cmp nat_cmp) first.name (map name tests) rise)
    (contains_map name tests t (i, omega arith, at)))
    (below_at tests i t (omega arith) at (rise_tail (slice_cmp nat_cmp) first.name (map name tests) rise))

pub test_added :
    (program : Program) (graph : Graph) (spec : Spec) (steps : ℕ) (tests : List Test) (order : List (Bor Test)) (i : ℕ) (t : Bor Test) (old new : Draft) (seen : Seen)
    → GraphsRunInNoOtherWay → HasProgram program graph → AreInOrder (tests_in order) tests → i < length order → t ≡ get_or order i t
    → IsDraftOf program spec steps (tests_in (take i order)) old → IsSeen graph spec t.now steps seen
    → table_of new ≡ with_test t.now.name seen (table_of old) → IsDraftOf program spec steps (tests_in (take (i + 1) order)) new
test_added program graph spec steps tests order i t old new seen law has are within at is what added fun named =
    let setting : Setting = setting_of program fun spec steps in
    let so = seen_so program graph fun spec steps t.now seen law has named what in
    let here : get_or (tests_in order) i t.now ≡ t.now = get_or-map (λ (test : Bor Test). test.now) order i t t.now within ∙ ap (λ (test : Bor Test). test.now) (sym at) in
    let long : length (tests_in order) ≡ length order = length-map order (λ (test : Bor Test). test.now) in
    let taken : take i (tests_in order) ≡ tests_in (take i order) = take-map (λ (test : Bor Test). test.now) i order in
    let below : All (λ (u : Test). slice_cmp nat_cmp u.name t.now.name ≡ Less) (tests_in (take i order)) =
    subst (All (λ (u : Test). slice_cmp nat_cmp u.name t.now.name ≡ Less)) taken (below_at (tests_in order) i t.now (omega arith) here are.rise) in
    let more : tests_in (take i order) ++ t.now ∷ [] ≡ tests_in (take (i + 1) order) =
    sym (ap tests_in (take_more order i t within ∙ ap (λ it. take i order ++ it ∷ []) (sym at)) ∙ map_push (λ (test : Bor Test). test.now) (take i order) t) in
    let step = one_more_test setting (tests_in (take i order)) (table_of old) t.now seen (is fun named) so.0 so.1 below in
    subst (IsTableOf setting (tests_in (take (i + 1) order))) (sym added)
    (subst (λ ts. IsTableOf setting ts (with_test t.now.name seen (table_of old))) more step)

there_is : {X : Type 0} (xs : List X) (k : ℕ) → k < length xs → (x : X) × (slice_get xs k ≡ Some x)
there_is [] k less = absurd (omega arith)
there_is (x ∷ xs) zero less = (x, refl)
there_is (x ∷ xs) (suc k) less = there_is xs k (omega arith)

pub draft_of_all :
    (program : Program) (spec : Spec) (steps : ℕ) (suite : Suite) (order : List (Bor Test)) (i : ℕ) (draft : Draft) → spec.entry < length program.functions
    → AreInOrder (tests_in order) suite.tests → length order ≤ i → IsDraftOf program spec steps (tests_in (take i order)) draft
    → IsCoverage program spec suite steps (table_of draft)
draft_of_all program spec steps suite order i draft there are all is =
    let fun = there_is program.functions spec.entry there in
    let setting : Setting = setting_of program fun.0 spec steps in
    record {
      entry = fun.0;
      named = fun.1;
      table =
          of_same_tests setting (tests_in order) suite.tests (table_of draft) are
          (subst (λ its. IsTableOf setting (tests_in its) (table_of draft)) (take_all i order all) (is fun.0 fun.1));
    }

-- in other words for the same lists
pub in_order_as :
    (items order : List (Bor Test)) (slice tests : List Test) → items ≡ order → slice ≡ tests → AreInOrder (tests_in order) slice → AreInOrder (tests_in items) tests
in_order_as items order slice tests same_items same_tests are =
    subst (λ its. AreInOrder (tests_in its) tests) (sym same_items) (subst (AreInOrder (tests_in order)) same_tests are)
