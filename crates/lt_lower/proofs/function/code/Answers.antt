use Rattle.lt_lower.proofs.Codes.{code_if}
use Rattle.lt_lower.proofs.function.code.Goals as goal

pub returns : goal.returns
returns c =
    code_if c.args.site c.in_ok-b.b c.body.new.b c.in_ok-start.start c.finished.result c.in_ok-b.ensures c.in_ok-start.ensures.code.gives.code
    c.in_ok-start.ensures.code.spends c.in_ok-start.ensures.enters
    c.finished.ensures
