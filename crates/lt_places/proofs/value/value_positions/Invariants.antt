use Rattle.lt_tree.specs.Tree as c
use Rattle.lt_sites.specs.Sites.{AreSitesOf}
use Rattle.lt_places.proofs.ValuePositions.{AreValues}
use Rattle.lt_places.proofs.value.value_positions.Given as goal

abbrev pub invariant-sites : goal.invariant-sites
invariant-sites l = (unit : c.Unit) → AreSitesOf l.sites unit → AreValues unit l.k l.values.items
