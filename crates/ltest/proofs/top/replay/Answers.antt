use Rattle.std.proofs.lemmas.Result.{err_from_is_err_and}
use Rattle.lt_command.specs.Plan.{replay}
use Rattle.lt_command.specs.Answers.{replay_in}
use Rattle.lt_sources.specs.Views.{sources_of}
use Rattle.lt_answers.proofs.Due.{ends_of_reading}
use Rattle.ltest.proofs.Stopped.{replay_ends}
use Rattle.ltest.proofs.top.replay.Goals as goal

pub returns-in_err-from-clause-ends : goal.returns-in_err-from-clause-ends
returns-in_err-from-clause-ends g c =
    let p = err_from_is_err_and c.from_residual.result c.from_residual.ensures.1 in
    rw (p.1, p.2) (ends_of_reading _ (replay (replay_in c.args.asked.now)) _ c.in_err-from.ensures.ends)

pub returns-in_err-text-clause-ends : goal.returns-in_err-text-clause-ends
returns-in_err-text-clause-ends g c =
    let p = err_from_is_err_and c.from_residual-in_err-text.result c.from_residual-in_err-text.ensures.1 in
    rw (p.1, p.2) (replay_ends _ (replay_in c.args.asked.now) (sources_of c.in_ok-from.from) c.in_err-text.field-0.0 c.in_ok-from.ensures.gives c.in_err-text.ensures)
