use Rattle.std.proofs.Common.{refl, map, arith}
use Rattle.std.specs.List.{flat_map}
use Rattle.lt_tree.specs.UnitView.{external_of}
use Rattle.lt_tree.specs.Nodes.{in_external}
use Rattle.lt_sites.specs.Listed.{entries}
use Rattle.lt_sites.proofs.Grown.{at_end, whole, one_more}
use Rattle.lt_sites.proofs.lister.sites.Lister.externals.Goals as goal

pub externals-init : goal.externals-init
externals-init c = at_end (λ xs. flat_map in_external (map external_of xs)) c.args.list.now _ (entries c.args.self.now) refl refl

pub externals-preserved : goal.externals-preserved
externals-preserved c =
    one_more (λ xs. flat_map in_external (map external_of xs)) _ c.args.list.now c.externals.at c.index-list-at.result (entries c.args.self.now) (entries c.externals.self) (entries c.external.new.self) (omega arith) (omega arith) c.index-list-at.is
    (λ rest. refl) c.externals.invariant c.in_ok-external.ensures

pub returns : goal.returns
returns c = whole (λ xs. flat_map in_external (map external_of xs)) c.args.list.now c.externals.at (entries c.args.self.now) (entries c.externals.self) c.externals-test.false c.externals.invariant
