use Rattle.std.proofs.Common.{◌≡◌, drop, map}
use Rattle.std.specs.List.{flat_map}
use Rattle.lt_tree.specs.UnitView.{external_of}
use Rattle.lt_tree.specs.Nodes.{in_external}
use Rattle.lt_sites.specs.Listed.{listed, entries}
use Rattle.lt_sites.proofs.lister.sites.Lister.externals.Given as goal

abbrev pub invariant-externals : goal.invariant-externals
invariant-externals l = entries l.self ≡ listed (flat_map in_external (map external_of (drop l.at l.list))) (entries l.initial.self)
