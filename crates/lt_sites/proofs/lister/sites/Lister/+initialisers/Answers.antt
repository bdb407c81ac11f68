use Rattle.std.proofs.Common.{refl, ap, arith}
use Rattle.lt_tree.specs.UnitView.{initialiser_of, initialisers_in}
use Rattle.lt_tree.specs.Nodes.{an_initialiser, in_initialisers}
use Rattle.lt_sites.specs.Listed.{listed, entries, inside}
use Rattle.lt_sites.proofs.Grown.{ok_then, left, no_fewer, at_end, whole, one_more}
use Rattle.lt_sites.proofs.Nodes.{initialiser_node}
use Rattle.lt_sites.proofs.UnitRows.{braces_within}
use Rattle.lt_sites.proofs.lister.sites.Lister.+initialisers.Goals as goal

pub initialisers-initialisers-init : goal.initialisers-initialisers-init
initialisers-initialisers-init t c = at_end (λ xs. in_initialisers (initialisers_in xs)) c.args.list.now _ (entries c.args.self.now) refl refl

pub initialisers-initialisers-preserved : goal.initialisers-initialisers-preserved
initialisers-initialisers-preserved t c =
    one_more (λ xs. in_initialisers (initialisers_in xs)) _ c.args.list.now c.initialisers.at c.index-list-at.result (entries c.args.self.now) (entries c.initialisers.self) (entries c.initialiser.new.self) (omega arith) (omega arith) c.index-list-at.is
    (λ rest. refl) c.initialisers.invariant c.in_ok-initialiser.ensures

pub initialisers-returns : goal.initialisers-returns
initialisers-returns t c = whole (λ xs. in_initialisers (initialisers_in xs)) c.args.list.now c.initialisers.at (entries c.args.self.now) (entries c.initialisers.self) c.initialisers-test.false c.initialisers.invariant

pub initialiser-leave-requires : goal.initialiser-leave-requires
initialiser-leave-requires t c = no_fewer _ (entries c.args.self.now) _ _ c.in_ok-values.ensures c.len-start.ensures

pub initialiser-returns : goal.initialiser-returns
initialiser-returns t c =
    let i = initialiser_of c.args.initialiser.now in
    ok_then _ _ c.leave.ensures (left (an_initialiser i) (inside (an_initialiser i)) (entries c.args.self.now) _ _ 0 (initialiser_node i) c.in_ok-values.ensures c.len-start.ensures refl)

pub values-returns-in-List : goal.values-returns-in-List
values-returns-in-List t c = ok_then _ _ c.initialisers.ensures (ap (λ ns. listed ns (entries c.args.self.now)) (braces_within c.args.initialiser.now c.in-List.list _ c.in-List.is c.as_slice.ensures.value))
