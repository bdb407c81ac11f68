use Rattle.std.proofs.Common.{drop}
use Rattle.lt_lower.specs.Stands.{PutsLabels}
use Rattle.lt_lower.proofs.flow.labels.put_labels.Given as goal

abbrev pub invariant-labels : goal.invariant-labels
invariant-labels l = PutsLabels l.fn.all l.all (drop l.at l.labels)
