use Rattle.lt_mark_typing.proofs.Names.{named_objects_known}
use Rattle.lt_mark_typing.proofs.laws.named_objects_are_known.Goals as goal

pub returns : goal.returns
returns c = named_objects_known
