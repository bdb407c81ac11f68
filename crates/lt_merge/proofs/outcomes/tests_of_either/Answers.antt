use Rattle.std.proofs.Common.{◌≡◌, ◌∙◌, sym}
use Rattle.std.specs.Ordering.{nat_cmp}
use Rattle.std.specs.Cmp.Lexicographic.{slice_cmp}
use Rattle.std.specs.declared.cmp.Ordering.TheVariants.{Less, Equal, Greater}
use Rattle.std.proofs.lemmas.Bool.{false≢true}
use Rattle.lt_merge.proofs.TestWalks.{tests_start, tests_left, tests_right, tests_both, tests_alone, tests_rise, tests_of_both, tests_differ}
use Rattle.lt_merge.proofs.outcomes.tests_of_either.Goals as goal

pub walk-init : goal.walk-init
walk-init c = tests_start _ _ _ c.requires.first c.requires.second c.new-tests.ensures.items

pub walk-preserved-in_default-split_first : goal.walk-preserved-in_default-split_first
walk-preserved-in_default-split_first c = tests_alone _ _ _ _ _ _ _ _ c.walk.invariant c.in-Some.ensures.cases.0 c.in_default-split_first.ensures.cases c.in_ok-add_test.ensures

pub walk-preserved-in-Less : goal.walk-preserved-in-Less
walk-preserved-in-Less c =
    let order : slice_cmp nat_cmp c.in-Some.x.now.name c.in-Some-split_first.y.now.name ≡ Less = rw (← c.as_slice.ensures, ← c.as_slice-in-Some.ensures) (sym c.cmp.ensures ∙ c.in-Less.is) in
    tests_left _ _ _ _ _ _ _ _ _ _ c.walk.invariant c.in-Some.ensures.cases.0 c.in-Some-split_first.ensures.cases.0 c.in_ok-add_test-in-Less.ensures order

pub walk-preserved-in-Equal : goal.walk-preserved-in-Equal
walk-preserved-in-Equal c =
    let order : slice_cmp nat_cmp c.in-Some.x.now.name c.in-Some-split_first.y.now.name ≡ Equal = rw (← c.as_slice.ensures, ← c.as_slice-in-Some.ensures) (sym c.cmp.ensures ∙ c.in-Equal.is) in
    tests_both _ _ _ _ _ _ _ _ _ _ c.walk.invariant c.in-Some.ensures.cases.0 c.in-Some-split_first.ensures.cases.0 c.in_ok-add_test-in-Equal.ensures order (c.in_ok-is_same_end-in-Equal.ensures.0 c.if-not-branch.false)

pub walk-preserved : goal.walk-preserved
walk-preserved c =
    let order : slice_cmp nat_cmp c.in-Some.x.now.name c.in-Some-split_first.y.now.name ≡ Greater = rw (← c.as_slice.ensures, ← c.as_slice-in-Some.ensures) (sym c.cmp.ensures ∙ c.in-Greater.is) in
    tests_right _ _ _ _ _ _ _ _ _ _ c.walk.invariant c.in-Some.ensures.cases.0 c.in-Some-split_first.ensures.cases.0 c.in_ok-add_test-in-Greater.ensures order

pub returns-clause-rise : goal.returns-clause-rise
returns-clause-rise c = tests_rise _ _ _ _ _ _ c.walk.invariant c.in_ok-add_tests.ensures

pub returns-clause-tests : goal.returns-clause-tests
returns-clause-tests c = tests_of_both _ _ _ _ _ _ c.walk.invariant c.in_default.ensures.cases c.in_ok-add_tests.ensures

pub returns-then-not-branch-clause-stops : goal.returns-then-not-branch-clause-stops
returns-then-not-branch-clause-stops c =
    let order : slice_cmp nat_cmp c.in-Some.x.now.name c.in-Some-split_first.y.now.name ≡ Equal = rw (← c.as_slice.ensures, ← c.as_slice-in-Some.ensures) (sym c.cmp.ensures ∙ c.in-Equal.is) in
    tests_differ _ _ _ _ _ _ _ _ _ _ c.walk.invariant c.in-Some.ensures.cases.0 c.in-Some-split_first.ensures.cases.0 order (λ e. absurd (false≢true (sym c.if-not-branch.true ∙ c.in_ok-is_same_end-in-Equal.ensures.1 e))) (c.in_ok-new-in-Equal.ensures ∙ c.as_slice-then-not-branch.ensures)
