use Rattle.lt_objective_typing.proofs.Ids.{of_labels}
use Rattle.lt_objective_typing.proofs.laws.labels_of_objectives_are_new.Goals as goal

pub returns : goal.returns
returns c = of_labels
