use Rattle.std.proofs.Common.{ℕ, List, subst, map, drop, arith, ◌≡◌, ◌∙◌}
use Rattle.lt_replay.specs.declared.draft.Tagged.{Tagged}
use Rattle.lt_tree.specs.Typing.EntityView.{label_of}
use Rattle.lt_replay.specs.Drafts.{HasLabels}
use Rattle.lt_replay.proofs.Rows.{no_labels, one_label}
use Rattle.lt_replay.proofs.draft.labels_by_id.Goals as goal

pub labels-init : goal.labels-init
labels-init c = no_labels c.args.labels.now c.new-found.result _ (omega arith) c.new-found.ensures.empty c.new-found.ensures.ordered

pub labels-preserved-in_ok-insert : goal.labels-preserved-in_ok-insert
labels-preserved-in_ok-insert c =
    let it : Tagged = record { tag = c.in_ok-tag.tag; by = c.new-by.result } in
    one_label c.args.labels.now c.labels.found c.insert.new.self c.labels.at c.index-labels-at.result it c.labels-test.true c.labels.auto.at
    c.index-labels-at.is c.labels.invariant (c.in_ok-tag.ensures ∙ c.as_slice.ensures) c.new-by.ensures.items c.in_ok-insert.ensures.updates c.in_ok-insert.ensures.entries
    c.in_ok-insert.ensures.ordered

pub labels-preserved : goal.labels-preserved
labels-preserved c =
    let it : Tagged = record { tag = c.in_ok-tag.tag; by = c.new-by.result } in
    one_label c.args.labels.now c.labels.found c.insert.new.self c.labels.at c.index-labels-at.result it c.labels-test.true c.labels.auto.at
    c.index-labels-at.is c.labels.invariant (c.in_ok-tag.ensures ∙ c.as_slice.ensures) c.new-by.ensures.items c.in_ok-insert.ensures.updates c.in_ok-insert.ensures.entries
    c.in_ok-insert.ensures.ordered

pub returns : goal.returns
returns c =
    let none : c.labels.at ≡ 0 = omega arith in
    let From : ℕ → Type 0 = λ k. HasLabels (map label_of (drop k c.args.labels.now)) c.labels.found in
    subst From none c.labels.invariant
