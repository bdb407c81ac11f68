use Rattle.lt_erased_typing.proofs.Examples.{shown}
use Rattle.lt_erased_typing.proofs.laws.marks_show_registers.Goals as goal

pub returns : goal.returns
returns c = shown
