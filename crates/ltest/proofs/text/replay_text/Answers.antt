use Rattle.std.proofs.lemmas.Result.{err_from_is_err_and}
use Rattle.lt_sources.specs.Views.{sources_of}
use Rattle.ltest.proofs.Stages.{stopped, at_unit}
use Rattle.ltest.proofs.text.replay_text.Goals as goal

pub returns-in_err-parsed : goal.returns-in_err-parsed
returns-in_err-parsed c =
    let from = sources_of c.args.from.now in
    let p = err_from_is_err_and c.from_residual.result c.from_residual.ensures.1 in
    rw (p.1, p.2) (stopped from _ (at_unit from _ (rw c.as_slice.ensures.value at c.in_err-parsed.ensures)))
