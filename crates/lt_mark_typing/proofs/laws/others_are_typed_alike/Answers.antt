use Rattle.lt_mark_typing.proofs.Unchanged.{others_alike}
use Rattle.lt_mark_typing.proofs.laws.others_are_typed_alike.Goals as goal

pub returns : goal.returns
returns c = others_alike
