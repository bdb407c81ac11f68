use Rattle.std.proofs.Common.{Err, subst}
use Rattle.std.proofs.lemmas.Result.{err_from_is_err_and}
use Rattle.lt_command.specs.Plan.{annotate}
use Rattle.lt_command.specs.Answers.{annotate_in}
use Rattle.lt_answers.proofs.Due.{ends_of_reading}
use Rattle.ltest.specs.Texts.{IsAnnotationAnswer}
use Rattle.ltest.proofs.Stopped.{annotation_ends}
use Rattle.ltest.proofs.top.annotation.Goals as goal

pub returns-in_err-bytes-clause-ends : goal.returns-in_err-bytes-clause-ends
returns-in_err-bytes-clause-ends g c =
    let p = err_from_is_err_and c.from_residual.result c.from_residual.ensures.1 in
    rw (p.1, p.2) (ends_of_reading _ (annotate (annotate_in c.args.asked.now)) _ c.in_err-bytes.ensures.ends)

pub returns-in_err-text-clause-ends : goal.returns-in_err-text-clause-ends
returns-in_err-text-clause-ends g c =
    let asked = annotate_in c.args.asked.now in
    let p = err_from_is_err_and c.from_residual-in_err-text.result c.from_residual-in_err-text.ensures.1 in
    rw (p.1, p.2) (annotation_ends _ asked c.in_ok-bytes.bytes.items c.in_err-text.field-0.0 c.in_ok-bytes.ensures.gives
    (subst (λ bytes. IsAnnotationAnswer asked.model asked.criteria bytes (Err c.in_err-text.field-0.0)) c.as_slice.ensures.value c.in_err-text.ensures))
