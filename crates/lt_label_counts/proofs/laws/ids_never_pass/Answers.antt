use Rattle.lt_label_counts.proofs.Never.{never_pass}
use Rattle.lt_label_counts.proofs.laws.ids_never_pass.Goals as goal

pub returns : goal.returns
returns c = never_pass
