use Rattle.std.proofs.Common.{Err, ap, ◌∙◌}
use Rattle.lt_env.proofs.Goings.{as_long}
use Rattle.lt_type.proofs.Sequences.{stopped}
use Rattle.lt_type.proofs.Turns.{lacks_memory}
use Rattle.lt_unit.proofs.Units.{gives_within, stops_within}
use Rattle.lt_unit.proofs.external.within_frame.Goals as goal

pub returns-in_err-open : goal.returns-in_err-open
returns-in_err-open c = lacks_memory (rw c.open.ensures.types (as_long _)) (stopped c.from_residual.ensures ∙ ap Err c.in_err-open.ensures.stops)

pub returns-in_err-made : goal.returns-in_err-made
returns-in_err-made c = stops_within c.args.frame c.in_ok-open.ensures.opened c.in_err-made.ensures (stopped c.from_residual-in_err-made.ensures)

pub returns : goal.returns
returns c = gives_within c.args.frame c.in_ok-open.ensures.opened c.in_ok-made.ensures c.close-frame.ensures.closed
