use Rattle.lt_erased_typing.proofs.Whole.{with_literals, literal_operands_keep}
use Rattle.lt_erased_typing.proofs.Copied.{copies_with_literals}
use Rattle.lt_erased_typing.proofs.laws.literals_are_typed_without_marks.Goals as goal

pub returns : goal.returns
returns c = record { whole = with_literals; operands = literal_operands_keep; copies = copies_with_literals }
