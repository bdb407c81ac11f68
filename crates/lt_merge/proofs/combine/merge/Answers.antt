use Rattle.std.proofs.Common.{sym, subst}
use Rattle.lt_cover.specs.Coverage.Merge.{IsMerge}
use Rattle.lt_merge.proofs.Merging.{labels_rise, merged_of}
use Rattle.lt_merge.proofs.combine.merge.Goals as goal

pub mixed_label-requires-clause-first : goal.mixed_label-requires-clause-first
mixed_label-requires-clause-first c = rw c.labels.ensures.rows c.labels.ensures.ordered.labels_rise

pub mixed_label-requires-clause-second : goal.mixed_label-requires-clause-second
mixed_label-requires-clause-second c = rw c.labels-2.ensures.rows c.labels-2.ensures.ordered.labels_rise

pub mixed_hyper-requires-clause-first : goal.mixed_hyper-requires-clause-first
mixed_hyper-requires-clause-first c = rw c.hypers.ensures.rows c.hypers.ensures.ordered.hypers_rise

pub mixed_hyper-requires-clause-second : goal.mixed_hyper-requires-clause-second
mixed_hyper-requires-clause-second c = rw c.hypers-2.ensures.rows c.hypers-2.ensures.ordered.hypers_rise

pub tests_of_either-requires-clause-first : goal.tests_of_either-requires-clause-first
tests_of_either-requires-clause-first c = rw c.tests.ensures.rows c.tests.ensures.ordered.tests_rise

pub tests_of_either-requires-clause-second : goal.tests_of_either-requires-clause-second
tests_of_either-requires-clause-second c = rw c.tests-2.ensures.rows c.tests-2.ensures.ordered.tests_rise

pub merged_labels-requires-clause-first : goal.merged_labels-requires-clause-first
merged_labels-requires-clause-first c = labels_rise c.args.a.now c.labels-3.result.now c.labels-3.ensures.ordered c.labels-3.ensures.rows

pub merged_labels-requires-clause-second : goal.merged_labels-requires-clause-second
merged_labels-requires-clause-second c = labels_rise c.args.b.now c.labels-4.result.now c.labels-4.ensures.ordered c.labels-4.ensures.rows

pub new-requires : goal.new-requires
new-requires c = (merged_of c.args.a.now c.args.b.now _ _ _ _ _ _ _ _ _ c.labels.ensures.ordered c.labels-2.ensures.ordered c.tests.ensures.rows c.tests-2.ensures.rows c.labels-3.ensures.rows c.labels-4.ensures.rows c.hypers-3.ensures.rows c.hypers-4.ensures.rows c.in_ok-tests.ensures.rise c.in_ok-tests.ensures.tests c.in_ok-labels.ensures c.in_ok-hypers.ensures).ordered

pub returns : goal.returns
returns c = subst (IsMerge c.args.a.now c.args.b.now) (sym c.new.ensures) (merged_of c.args.a.now c.args.b.now _ _ _ _ _ _ _ _ _ c.labels.ensures.ordered c.labels-2.ensures.ordered c.tests.ensures.rows c.tests-2.ensures.rows c.labels-3.ensures.rows c.labels-4.ensures.rows c.hypers-3.ensures.rows c.hypers-4.ensures.rows c.in_ok-tests.ensures.rise c.in_ok-tests.ensures.tests c.in_ok-labels.ensures c.in_ok-hypers.ensures)
