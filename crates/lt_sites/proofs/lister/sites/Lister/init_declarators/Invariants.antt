use Rattle.std.proofs.Common.{◌≡◌, drop, map}
use Rattle.std.specs.List.{flat_map}
use Rattle.lt_tree.specs.UnitView.{init_declarator_of}
use Rattle.lt_tree.specs.Nodes.{in_init_declarator}
use Rattle.lt_sites.specs.Listed.{listed, entries}
use Rattle.lt_sites.proofs.lister.sites.Lister.init_declarators.Given as goal

abbrev pub invariant-declarators : goal.invariant-declarators
invariant-declarators l = entries l.self ≡ listed (flat_map in_init_declarator (map init_declarator_of (drop l.at l.list))) (entries l.initial.self)
