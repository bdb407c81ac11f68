use Rattle.std.proofs.Common.{◌-◌, ◌≤◌, length, None}
use Rattle.lt_tree.specs.Tree as c
use Rattle.lt_tree.specs.Nodes.{in_expression}
use Rattle.lt_decisions.specs.Walk.{Stand, Leads, tests_of, noted_all}
use Rattle.lt_decisions.proofs.walk.note_tests.Given as goal

abbrev pub invariant-walk : goal.invariant-walk
invariant-walk l =
    (l.last ≤ length l.sites)
    × ((e : c.Expression) → Stand l.sites l.first (in_expression e) → Leads l.sites l.tests l.at l.last l.found (noted_all l.initial.found (tests_of l.tests None l.first e)))

abbrev pub decreases-walk : goal.decreases-walk
decreases-walk l = l.last - l.at.number
