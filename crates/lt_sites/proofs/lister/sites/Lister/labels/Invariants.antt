use Rattle.std.proofs.Common.{◌≡◌, drop, map}
use Rattle.std.specs.List.{flat_map}
use Rattle.lt_tree.specs.UnitView.{label_of}
use Rattle.lt_tree.specs.Nodes.{in_label}
use Rattle.lt_sites.specs.Listed.{listed, entries}
use Rattle.lt_sites.proofs.lister.sites.Lister.labels.Given as goal

abbrev pub invariant-labels : goal.invariant-labels
invariant-labels l = entries l.self ≡ listed (flat_map in_label (map label_of (drop l.at l.list))) (entries l.initial.self)
