use Rattle.lt_erased_typing.proofs.Examples.{hidden}
use Rattle.lt_erased_typing.proofs.laws.marks_hide_operands.Goals as goal

pub returns : goal.returns
returns c = hidden
