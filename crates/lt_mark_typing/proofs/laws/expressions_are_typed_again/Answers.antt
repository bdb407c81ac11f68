use Rattle.lt_mark_typing.proofs.Again.{of_to}
use Rattle.lt_mark_typing.proofs.laws.expressions_are_typed_again.Goals as goal

pub returns : goal.returns
returns c = λ new position used after further known other it marked d b. of_to d b
