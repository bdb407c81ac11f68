use Rattle.std.proofs.Common.{sym, ap, ◌∙◌, length, arith}
use Rattle.lt_tree.specs.Records.{marks_in}
use Rattle.lt_objectives.specs.Marked.{labels_before}
use Rattle.lt_placing.specs.Parts.{items_before}
use Rattle.lt_placing.proofs.Bodies.{one_item}
use Rattle.lt_placing.proofs.Reached.{none_left}
use Rattle.lt_placing.proofs.unit.label_items.Goals as goal

pub labels-init : goal.labels-init
labels-init c rest = ap (λ xs. items_before xs (labels_before (marks_in c.from_vec-left.result.items) rest)) c.new-all.ensures.items

pub labels-preserved : goal.labels-preserved
labels-preserved c = one_item _ _ _ _ _ _ _ c.in-Some.ensures.items c.in_ok-push.ensures.items c.labelled.ensures c.labels.invariant

pub labels-smaller : goal.labels-smaller
labels-smaller c = omega (arith, ap length c.in-Some.ensures.items)

pub returns : goal.returns
returns c rest =
    ap (λ ms. items_before c.labels.all.items (labels_before (marks_in ms) rest)) (sym (none_left c.labels.left.items (c.in_default.ensures.items ∙ c.in_default.ensures.rest)))
    ∙ c.labels.invariant rest ∙ ap (λ ms. labels_before (marks_in ms) rest) c.from_vec-left.ensures.items
