use Rattle.std.proofs.Common.{ℕ, refl, sym, ap}
use Rattle.lt_tree.specs.Tree.{Initialisers}
use Rattle.lt_tree.specs.UnitView.{initialiser_of, initialisers_in}
use Rattle.lt_tree.specs.Typing.Types.{CType}
use Rattle.lt_tree.specs.Typing.TypeRows.{type_in}
use Rattle.lt_tree.specs.Typing.Filling.{Filling, list_faults}
use Rattle.lt_tree.specs.Typing.InitialiserTyping as typing
use Rattle.lt_tree.specs.Typing.Steps.{Walk, ◌>>◌, goes_on, gives, settle}
use Rattle.lt_env.specs.Going.{known_of}
use Rattle.lt_env.proofs.Goings.{as_long}
use Rattle.lt_type.proofs.Sequences.{gives_entered, gives_then, gives_stops, gives_so, stopped}
use Rattle.lt_type.proofs.Turns.{lacks_memory, turns_from, passes_on, passes_stop, passes_end}
use Rattle.lt_unit.specs.Fillings.{filling_in}
use Rattle.lt_unit.specs.LeftParts.{run_of}
use Rattle.lt_unit.proofs.Lasting.{settled, gives_here, gives_it}
use Rattle.lt_unit.proofs.FillingSteps.{list_walk, list_none, list_some, braces_seen}
use Rattle.lt_unit.proofs.FillingWalks.{knows_itself}
use Rattle.lt_unit.proofs.initialiser.lists.+initialisers.Goals as goal

pub initialisers-list-init : goal.initialisers-list-init
initialisers-list-init t c = turns_from (λ types k. refl)

pub initialisers-returns-in_err-next : goal.initialisers-returns-in_err-next
initialisers-returns-in_err-next t c =
    passes_stop (λ list f. typing.initialisers (initialisers_in list) c.args.is_static f) (λ types. filling_in types c.list.filled) c.args.list.now c.list.one-index c.one-item.result c.list-test.true c.one-item.is
    (λ types rest k. refl) c.list.invariant c.in_err-next.ensures (stopped c.from_residual.ensures)

pub initialisers-list-preserved : goal.initialisers-list-preserved
initialisers-list-preserved t c =
    passes_on (λ list f. typing.initialisers (initialisers_in list) c.args.is_static f) (λ types. filling_in types c.list.filled) c.args.list.now c.list.one-index c.one-item.result c.list-test.true c.one-item.is
    (λ types rest k. refl) c.list.invariant c.in_ok-next.ensures

pub initialisers-returns : goal.initialisers-returns
initialisers-returns t c =
    passes_end (λ list f. typing.initialisers (initialisers_in list) c.args.is_static f) (λ types. filling_in types c.list.filled) c.args.list.now c.list.one-index c.list-test.false (λ types k. refl) c.list.invariant

pub initialiser-returns-in-Expression : goal.initialiser-returns-in-Expression
initialiser-returns-in-Expression t c =
    gives_so (λ types k. ap (λ i. typing.initialiser (initialiser_of i) c.args.is_static (filling_in types c.args.filling) k) (sym c.in-Expression.is)) c.without_braces.ensures

pub initialiser-returns-in-List : goal.initialiser-returns-in-List
initialiser-returns-in-List t c =
    gives_so (λ types k. ap (λ i. typing.initialiser i c.args.is_static (filling_in types c.args.filling) k) (braces_seen c.args.i.now _ _ c.in-List.is c.as_slice.ensures.value)) c.in_braces.ensures

pub in_braces-returns-in_err-first : goal.in_braces-returns-in_err-first
in_braces-returns-in_err-first t c =
    gives_entered (λ types node. list_walk node (initialisers_in c.args.list.now) c.args.is_static (filling_in types c.args.filling)) c.in_ok-node.ensures.entered c.in_ok-node.ensures.node
    (lacks_memory (as_long _) (stopped c.from_residual-in_err-first.ensures))

pub in_braces-returns-in-None : goal.in_braces-returns-in-None
in_braces-returns-in-None t c =
    gives_entered (λ types node. list_walk node (initialisers_in c.args.list.now) c.args.is_static (filling_in types c.args.filling)) c.in_ok-node.ensures.entered c.in_ok-node.ensures.node
    (gives_here (λ types h.
    let is = rw c.in-None.is at (c.in_ok-first.ensures types h (known_of types c.enter.new.self) (knows_itself types c.enter.new.self)) in
    sym (list_none c.in_ok-node.node (initialisers_in c.args.list.now) c.args.is_static _ _ _ _ (known_of types c.enter.new.self) is.0 is.1)) c.surplus_list.ensures)

pub in_braces-returns-in-Some : goal.in_braces-returns-in-Some
in_braces-returns-in-Some t c =
    gives_entered (λ types node. list_walk node (initialisers_in c.args.list.now) c.args.is_static (filling_in types c.args.filling)) c.in_ok-node.ensures.entered c.in_ok-node.ensures.node
    (gives_here (λ types h.
    let is = rw c.in-Some.is at (c.in_ok-first.ensures types h (known_of types c.enter.new.self) (knows_itself types c.enter.new.self)) in
    sym (list_some c.in_ok-node.node (initialisers_in c.args.list.now) c.args.is_static _ _ _ _ (known_of types c.enter.new.self) (run_of types c.in-Some.part is.0) is.1 is.2 is.3)) c.fill_list.ensures)

pub surplus_list-returns-in_err-_inner : goal.surplus_list-returns-in_err-_inner
surplus_list-returns-in_err-_inner t c =
    gives_so (λ types k. ap (λ f. goes_on (typing.initialisers (initialisers_in c.args.list.now) c.args.is_static f k) (λ inner. gives (typing.surplus_in (filling_in types c.args.filling)))) (c.nothing_to_fill-nothing.ensures types))
    (gives_stops _ c.in_err-_inner.ensures (stopped c.from_residual.ensures))

pub surplus_list-returns : goal.surplus_list-returns
surplus_list-returns t c =
    gives_so (λ types k. ap (λ f. goes_on (typing.initialisers (initialisers_in c.args.list.now) c.args.is_static f k) (λ inner. gives (typing.surplus_in (filling_in types c.args.filling)))) (c.nothing_to_fill-nothing.ensures types))
    (gives_then (λ types inner. gives (typing.surplus_in (filling_in types c.args.filling))) c.in_ok-_inner.ensures (gives_it (λ types. typing.surplus_in (filling_in types c.args.filling)) (λ types. refl)))

-- what follows a list inside
abbrev list_end : ℕ → Initialisers → CType → Filling → Filling → Walk Filling
list_end node list t filling inner = settle node (list_faults t list inner) >> gives (record filling { parts = inner.parts })

pub fill_list-returns-in_err-inside : goal.fill_list-returns-in_err-inside
fill_list-returns-in_err-inside t c = lacks_memory (as_long _) (stopped c.from_residual.ensures)

pub fill_list-returns-in_err-inner : goal.fill_list-returns-in_err-inner
fill_list-returns-in_err-inner t c =
    gives_here (λ types h. ap (λ f. goes_on (typing.initialisers (initialisers_in c.args.list.now) c.args.is_static f (known_of types c.args.walker.now)) (list_end c.args.node (initialisers_in c.args.list.now) (type_in types c.args.part.ty) (filling_in types c.args.filling)))
    (c.in_ok-inside.ensures types h (known_of types c.args.walker.now) (knows_itself types c.args.walker.now)))
    (gives_stops (λ types. list_end c.args.node (initialisers_in c.args.list.now) (type_in types c.args.part.ty) (filling_in types c.args.filling)) c.in_err-inner.ensures (stopped c.from_residual-in_err-inner.ensures))

pub fill_list-returns-in_err-faults : goal.fill_list-returns-in_err-faults
fill_list-returns-in_err-faults t c =
    gives_here (λ types h. ap (λ f. goes_on (typing.initialisers (initialisers_in c.args.list.now) c.args.is_static f (known_of types c.args.walker.now)) (list_end c.args.node (initialisers_in c.args.list.now) (type_in types c.args.part.ty) (filling_in types c.args.filling)))
    (c.in_ok-inside.ensures types h (known_of types c.args.walker.now) (knows_itself types c.args.walker.now)))
    (gives_then (λ types. list_end c.args.node (initialisers_in c.args.list.now) (type_in types c.args.part.ty) (filling_in types c.args.filling)) c.in_ok-inner.ensures (lacks_memory (as_long _) (stopped c.from_residual-in_err-faults.ensures)))

pub fill_list-returns-in_err-settle : goal.fill_list-returns-in_err-settle
fill_list-returns-in_err-settle t c =
    gives_here (λ types h. ap (λ f. goes_on (typing.initialisers (initialisers_in c.args.list.now) c.args.is_static f (known_of types c.args.walker.now)) (list_end c.args.node (initialisers_in c.args.list.now) (type_in types c.args.part.ty) (filling_in types c.args.filling)))
    (c.in_ok-inside.ensures types h (known_of types c.args.walker.now) (knows_itself types c.args.walker.now)))
    (gives_then (λ types. list_end c.args.node (initialisers_in c.args.list.now) (type_in types c.args.part.ty) (filling_in types c.args.filling)) c.in_ok-inner.ensures
    (gives_stops _ (settled c.args.node (λ types. list_faults (type_in types c.args.part.ty) (initialisers_in c.args.list.now) (filling_in types c.in_ok-inner.inner)) (λ types h. c.in_ok-faults.ensures types h (filling_in types c.in_ok-inner.inner) refl) c.in_err-settle.ensures.gives) (stopped c.from_residual-in_err-settle.ensures)))

pub fill_list-returns : goal.fill_list-returns
fill_list-returns t c =
    gives_here (λ types h. ap (λ f. goes_on (typing.initialisers (initialisers_in c.args.list.now) c.args.is_static f (known_of types c.args.walker.now)) (list_end c.args.node (initialisers_in c.args.list.now) (type_in types c.args.part.ty) (filling_in types c.args.filling)))
    (c.in_ok-inside.ensures types h (known_of types c.args.walker.now) (knows_itself types c.args.walker.now)))
    (gives_then (λ types. list_end c.args.node (initialisers_in c.args.list.now) (type_in types c.args.part.ty) (filling_in types c.args.filling)) c.in_ok-inner.ensures
    (gives_then _ (settled c.args.node (λ types. list_faults (type_in types c.args.part.ty) (initialisers_in c.args.list.now) (filling_in types c.in_ok-inner.inner)) (λ types h. c.in_ok-faults.ensures types h (filling_in types c.in_ok-inner.inner) refl) c.in_ok-settle.ensures.gives)
    (gives_it (λ types. record (filling_in types c.args.filling) { parts = (filling_in types c.in_ok-inner.inner).parts }) (λ types. refl))))
