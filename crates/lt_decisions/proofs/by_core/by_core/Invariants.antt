use Rattle.std.proofs.Common.{◌≡◌, length, replicate, None}
use Rattle.lt_tree.specs.Tree as c
use Rattle.lt_sites.specs.Sites.{AreSitesOf}
use Rattle.lt_decisions.specs.Walk.{tests_in, noted_all}
use Rattle.lt_decisions.proofs.AllTests.{tests_behind}
use Rattle.lt_decisions.proofs.by_core.by_core.Given as goal

abbrev pub invariant-loop-number : goal.invariant-loop-number
invariant-loop-number l =
    (length l.found.items ≡ length l.sites)
    × ((unit : c.Unit) → AreSitesOf l.sites unit → noted_all l.found.items (tests_behind l.tests unit l.number) ≡ noted_all (replicate (length l.sites) None) (tests_in l.tests unit))
