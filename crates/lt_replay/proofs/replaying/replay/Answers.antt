use Rattle.std.proofs.Common.{◌≡◌, ◌∙◌, List, map, ap, subst, sym}
use Rattle.std.proofs.lemmas.Result.{IfOk-weaker}
use Rattle.lt_tree.specs.declared.typed.entity.LabelInfo.{LabelInfo}
use Rattle.lt_tree.specs.Typing.EntityView.{label_of}
use Rattle.lt_tree.specs.Typing.ProgramView.{program_of}
use Rattle.lt_replayed.specs.Replayed.{IsCoverage}
use Rattle.lt_replay.specs.Drafts.{HasLabels, table_of, with_test}
use Rattle.lt_replay.proofs.Suites.{draft_of_none, test_added, draft_of_all, in_order_as}
use Rattle.lt_replay.proofs.replaying.replay.Goals as goal

pub loop-test-init : goal.loop-test-init
loop-test-init c =
    draft_of_none (program_of c.args.program.now) c.args.spec.now c.args.steps c.deref-test-items.result.now c.in_ok-draft.draft c.in_ok-draft.ensures.tests
    (subst (λ (labels : List LabelInfo). HasLabels (map label_of labels) c.in_ok-draft.draft.labels) c.as_slice-2.ensures.value c.in_ok-draft.ensures.labels)

pub loop-test-preserved : goal.loop-test-preserved
loop-test-preserved c =
    test_added (program_of c.args.program.now) c.in_ok-graph.graph c.args.spec.now c.args.steps c.args.suite.now.tests c.deref-test-items.result.now
    c.loop-test.test-index c.test-item.result c.loop-test.draft c.add.new.self c.in_ok-seen.seen c.graphs_run_in_no_other_way.ensures c.in_ok-graph.ensures.code
    (in_order_as c.deref-test-items.result.now c.in_ok-order.order.items c.as_slice.result.now c.args.suite.now.tests c.deref-test-items.ensures.value
    c.as_slice.ensures c.in_ok-order.ensures)
    c.loop-test-test.true c.test-item.is c.loop-test.invariant c.in_ok-seen.ensures
    (c.in_ok-add.ensures ∙ ap (λ name. with_test name c.in_ok-seen.seen (table_of c.loop-test.draft)) c.as_slice-in-loop-test.ensures)

pub into_coverage-requires : goal.into_coverage-requires
into_coverage-requires c =
    (draft_of_all (program_of c.args.program.now) c.args.spec.now c.args.steps c.args.suite.now c.deref-test-items.result.now c.loop-test.test-index
    c.loop-test.draft c.requires.entry
    (in_order_as c.deref-test-items.result.now c.in_ok-order.order.items c.as_slice.result.now c.args.suite.now.tests c.deref-test-items.ensures.value
    c.as_slice.ensures c.in_ok-order.ensures)
    c.loop-test-test.false c.loop-test.invariant).table.ordered

pub returns : goal.returns
returns c =
    IfOk-weaker c.into_coverage.result (λ coverage. coverage ≡ table_of c.loop-test.draft) _
    (λ coverage is. subst (IsCoverage (program_of c.args.program.now) c.args.spec.now c.args.suite.now c.args.steps) (sym is)
    (draft_of_all (program_of c.args.program.now) c.args.spec.now c.args.steps c.args.suite.now c.deref-test-items.result.now c.loop-test.test-index
    c.loop-test.draft c.requires.entry
    (in_order_as c.deref-test-items.result.now c.in_ok-order.order.items c.as_slice.result.now c.args.suite.now.tests c.deref-test-items.ensures.value
    c.as_slice.ensures c.in_ok-order.ensures)
    c.loop-test-test.false c.loop-test.invariant))
    c.into_coverage.ensures
