use Rattle.std.proofs.Common.{drop}
use Rattle.lt_lower.specs.Stands.{FindsArms}
use Rattle.lt_lower.proofs.flow.labels.nodes_by_value.Given as goal

abbrev pub invariant-arms : goal.invariant-arms
invariant-arms l = FindsArms l.nodes (drop l.at l.arms)
