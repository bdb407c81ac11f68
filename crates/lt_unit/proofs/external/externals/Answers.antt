use Rattle.std.proofs.Common.{map, refl}
use Rattle.lt_tree.specs.UnitView as source
use Rattle.lt_tree.specs.Typing.UnitTyping as typing
use Rattle.lt_type.proofs.Sequences.{stopped}
use Rattle.lt_type.proofs.Turns.{turns_from, passes_on, passes_stop, passes_end}
use Rattle.lt_unit.proofs.external.externals.Goals as goal

pub list-init : goal.list-init
list-init c = turns_from (λ types k. refl)

pub list-preserved : goal.list-preserved
list-preserved c =
    passes_on (λ list u. typing.externals (map source.external_of list)) (λ types. tt) c.args.list.now c.list.x-index c.x-item.result c.list-test.true c.x-item.is
    (λ types rest k. refl) c.list.invariant c.in_ok-external.ensures

pub returns-in_err-external : goal.returns-in_err-external
returns-in_err-external c =
    passes_stop (λ list u. typing.externals (map source.external_of list)) (λ types. tt) c.args.list.now c.list.x-index c.x-item.result c.list-test.true c.x-item.is
    (λ types rest k. refl) c.list.invariant c.in_err-external.ensures (stopped c.from_residual.ensures)

pub returns : goal.returns
returns c =
    passes_end (λ list u. typing.externals (map source.external_of list)) (λ types. tt {0}) c.args.list.now c.list.x-index c.list-test.false (λ types k. refl) c.list.invariant
