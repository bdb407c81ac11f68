use Rattle.std.proofs.Common.{◌≡◌, drop}
use Rattle.lt_tree.specs.UnitView.{initialisers_in}
use Rattle.lt_tree.specs.Nodes.{in_initialisers}
use Rattle.lt_sites.specs.Listed.{listed, entries}
use Rattle.lt_sites.proofs.lister.sites.Lister.+initialisers.Given as goal

abbrev pub invariant-initialisers-initialisers : goal.invariant-initialisers-initialisers
invariant-initialisers-initialisers l = entries l.self ≡ listed (in_initialisers (initialisers_in (drop l.at l.list))) (entries l.initial.self)
