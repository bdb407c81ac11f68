use Rattle.std.proofs.Common.{List, map, refl, arith}
use Rattle.std.specs.List.{flat_map}
use Rattle.lt_tree.specs.declared.statement.Label.{Label}
use Rattle.lt_tree.specs.UnitView.{label_of}
use Rattle.lt_tree.specs.CanonUnits.{label_line}
use Rattle.lt_print.proofs.Rows.{next, ended}
use Rattle.lt_print.proofs.statement.put_labels.Goals as goal

pub loop-label-preserved : goal.loop-label-preserved
loop-label-preserved c =
    next (λ (l : List Label). flat_map (label_line c.args.line) (map label_of l)) (λ (l : List Label). flat_map (label_line c.args.line) (map label_of l)) _ c.args.labels.now c.loop-label.label-index c.label-item.result c.loop-label.out.items _ _
    c.loop-label-test.true c.label-item.is c.in_ok-put_label.ensures refl c.loop-label.invariant

pub returns : goal.returns
returns c = ended (λ (l : List Label). flat_map (label_line c.args.line) (map label_of l)) c.args.labels.now c.loop-label.label-index _ _ (omega arith) refl c.loop-label.invariant
