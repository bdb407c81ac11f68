use Rattle.std.proofs.Common.{subst, Some}
use Rattle.lt_elim.specs.declared.event.Event as code
use Rattle.lt_elim.specs.Tracing.{Refuting}
use Rattle.lt_elim.proofs.Answering.{refuted_lines}
use Rattle.lt_elim.proofs.deciding.decision_of.Goals as goal

pub returns-in-Refuted-clause-lines : goal.returns-in-Refuted-clause-lines
returns-in-Refuted-clause-lines c = λ rows r. refuted_lines rows c.args.log (subst (λ (e : code.Event). Refuting rows (Some e) c.args.log) c.in-Refuted.is r)
