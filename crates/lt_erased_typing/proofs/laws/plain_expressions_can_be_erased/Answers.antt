use Rattle.lt_erased_typing.proofs.PlainExpressions.{plain_erased}
use Rattle.lt_erased_typing.proofs.laws.plain_expressions_can_be_erased.Goals as goal

pub returns : goal.returns
returns c = plain_erased
