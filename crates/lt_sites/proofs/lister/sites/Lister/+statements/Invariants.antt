use Rattle.std.proofs.Common.{◌≡◌, drop}
use Rattle.lt_tree.specs.UnitView.{items_in, cases_in}
use Rattle.lt_tree.specs.Nodes.{in_items, in_cases}
use Rattle.lt_sites.specs.Listed.{listed, entries}
use Rattle.lt_sites.proofs.lister.sites.Lister.+statements.Given as goal

abbrev pub invariant-items-items : goal.invariant-items-items
invariant-items-items l = entries l.self ≡ listed (in_items (items_in (drop l.at l.list))) (entries l.initial.self)

abbrev pub invariant-cases-cases : goal.invariant-cases-cases
invariant-cases-cases l = entries l.self ≡ listed (in_cases (cases_in (drop l.at l.list))) (entries l.initial.self)
