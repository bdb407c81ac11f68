use Rattle.std.proofs.Common.{Err, subst}
use Rattle.std.proofs.lemmas.Result.{err_from_is_err_and}
use Rattle.lt_command.specs.Plan.{convert}
use Rattle.lt_answers.proofs.Due.{ends_of_reading}
use Rattle.ltest.specs.Texts.{IsConversionAnswer}
use Rattle.ltest.proofs.Stopped.{conversion_ends}
use Rattle.ltest.proofs.top.conversion.Goals as goal

pub returns-in_err-bytes-clause-ends : goal.returns-in_err-bytes-clause-ends
returns-in_err-bytes-clause-ends g c =
    let p = err_from_is_err_and c.from_residual.result c.from_residual.ensures.1 in
    rw (p.1, p.2) (ends_of_reading _ (convert c.args.file.now) _ c.in_err-bytes.ensures.ends)

pub returns-in_err-text-clause-ends : goal.returns-in_err-text-clause-ends
returns-in_err-text-clause-ends g c =
    let p = err_from_is_err_and c.from_residual-in_err-text.result c.from_residual-in_err-text.ensures.1 in
    rw (p.1, p.2) (conversion_ends _ c.args.file.now c.in_ok-bytes.bytes.items c.in_err-text.field-0.0 c.in_ok-bytes.ensures.gives
    (subst (λ bytes. IsConversionAnswer bytes (Err c.in_err-text.field-0.0)) c.as_slice.ensures.value c.in_err-text.ensures))
