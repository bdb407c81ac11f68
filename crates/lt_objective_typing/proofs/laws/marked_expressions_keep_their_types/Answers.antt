use Rattle.lt_objective_typing.proofs.Marked.{types_kept}
use Rattle.lt_objective_typing.proofs.laws.marked_expressions_keep_their_types.Goals as goal

pub returns : goal.returns
returns c = types_kept c.pure_expressions_are_there.ensures c.named_objects_are_known.ensures
