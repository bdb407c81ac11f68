use Rattle.std.proofs.Common.{◌≡◌, ◌-◌, length, drop, Some}
use Rattle.std.specs.List.{slice_get}
use Rattle.lt_tree.specs.Tree as c
use Rattle.lt_tree.specs.Nodes.{nodes, an_expression}
use Rattle.lt_sites.specs.Sites.{AreSitesOf}
use Rattle.lt_places.specs.Walks.{reached}
use Rattle.lt_places.proofs.Wrappings.{Leads}
use Rattle.lt_places.proofs.walk.innermost.Given as goal

abbrev pub invariant-wrappings : goal.invariant-wrappings
invariant-wrappings l =
    (unit : c.Unit) (e : c.Expression) → AreSitesOf l.sites unit → slice_get (nodes unit) l.k ≡ Some (an_expression e) → Leads l.wrapping l.at (reached l.wrapping l.k e) (drop l.at l.sites)

abbrev pub decreases-wrappings : goal.decreases-wrappings
decreases-wrappings l = length l.sites - l.at
