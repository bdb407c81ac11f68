use Rattle.std.proofs.Common.{refl, map, arith}
use Rattle.std.specs.List.{flat_map}
use Rattle.lt_tree.specs.UnitView.{init_declarator_of}
use Rattle.lt_tree.specs.Nodes.{in_init_declarator}
use Rattle.lt_sites.specs.Listed.{entries}
use Rattle.lt_sites.proofs.Grown.{at_end, whole, one_more}
use Rattle.lt_sites.proofs.lister.sites.Lister.init_declarators.Goals as goal

pub declarators-init : goal.declarators-init
declarators-init c = at_end (λ xs. flat_map in_init_declarator (map init_declarator_of xs)) c.args.list.now _ (entries c.args.self.now) refl refl

pub declarators-preserved : goal.declarators-preserved
declarators-preserved c =
    one_more (λ xs. flat_map in_init_declarator (map init_declarator_of xs)) _ c.args.list.now c.declarators.at c.index-list-at.result (entries c.args.self.now) (entries c.declarators.self) (entries c.init_declarator.new.self) (omega arith) (omega arith) c.index-list-at.is
    (λ rest. refl) c.declarators.invariant c.in_ok-init_declarator.ensures

pub returns : goal.returns
returns c = whole (λ xs. flat_map in_init_declarator (map init_declarator_of xs)) c.args.list.now c.declarators.at (entries c.args.self.now) (entries c.declarators.self) c.declarators-test.false c.declarators.invariant
