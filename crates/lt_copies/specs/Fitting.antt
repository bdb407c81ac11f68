-- Which parts of a unit predicates may copy, by the numbers of their first nodes.
use Rattle.std.specs.Prelude.{Bool, length}
use Rattle.lt_tree.specs.Tree as c
use Rattle.lt_objectives.specs.Places.{Site}
use Rattle.lt_objectives.specs.Tags.{fitting_nodes}
use Rattle.lt_objectives.specs.Copies.{all_fit}
use Rattle.lt_sites.specs.Sites.{in_node}

-- whether each node of the part that begins with this one may be copied
abbrev pub fits_at : c.Unit → Site → Bool
fits_at unit site = all_fit (fitting_nodes unit) site.number (length (in_node site.node))
