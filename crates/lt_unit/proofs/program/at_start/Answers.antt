use Rattle.std.proofs.Common.{refl}
use Rattle.lt_type.proofs.Sequences.{stopped}
use Rattle.lt_unit.proofs.Elaborations.{started}
use Rattle.lt_unit.proofs.program.at_start.Goals as goal

pub returns-in_err-open-clause-stops : goal.returns-in_err-open-clause-stops
returns-in_err-open-clause-stops c = rw (stopped c.from_residual.ensures) c.in_err-open.ensures.stops

pub returns-clause-known : goal.returns-clause-known
returns-clause-known c = λ types.
    started types c.args.model c.args.defined _ c.open.new.self c.new-8.result c.in_ok-open.ensures.opened refl refl refl c.new.ensures (c.new-8.ensures types) (c.new-2.ensures types) c.new-3.ensures c.new-4.ensures c.new-5.ensures c.new-6.ensures c.new-7.ensures.items
