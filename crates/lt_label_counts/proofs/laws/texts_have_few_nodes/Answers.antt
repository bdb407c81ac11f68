use Rattle.lt_label_counts.proofs.FewInUnits.{few_nodes}
use Rattle.lt_label_counts.proofs.laws.texts_have_few_nodes.Goals as goal

pub returns : goal.returns
returns c = few_nodes
