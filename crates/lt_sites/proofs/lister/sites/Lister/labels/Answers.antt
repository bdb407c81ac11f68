use Rattle.std.proofs.Common.{refl, map, arith}
use Rattle.std.specs.List.{flat_map}
use Rattle.lt_tree.specs.UnitView.{label_of}
use Rattle.lt_tree.specs.Nodes.{in_label}
use Rattle.lt_sites.specs.Listed.{entries}
use Rattle.lt_sites.proofs.Grown.{at_end, whole, one_more}
use Rattle.lt_sites.proofs.lister.sites.Lister.labels.Goals as goal

pub labels-init : goal.labels-init
labels-init c = at_end (λ xs. flat_map in_label (map label_of xs)) c.args.list.now _ (entries c.args.self.now) refl refl

pub labels-preserved : goal.labels-preserved
labels-preserved c =
    one_more (λ xs. flat_map in_label (map label_of xs)) _ c.args.list.now c.labels.at c.index-list-at.result (entries c.args.self.now) (entries c.labels.self) (entries c.label.new.self) (omega arith) (omega arith) c.index-list-at.is
    (λ rest. refl) c.labels.invariant c.in_ok-label.ensures

pub returns : goal.returns
returns c = whole (λ xs. flat_map in_label (map label_of xs)) c.args.list.now c.labels.at (entries c.args.self.now) (entries c.labels.self) c.labels-test.false c.labels.invariant
