-- The list of nodes that stand before no others.
use Rattle.std.proofs.Common.{◌≡◌, List, [], map}
use Rattle.std.proofs.lemmas.List.{append-nil}
use Rattle.lt_tree.specs.Nodes.{Node}
use Rattle.lt_sites.specs.Sites.{part_of}
use Rattle.lt_sites.specs.Listed.{listed}

pub alone : (nodes : List Node) → listed nodes [] ≡ map part_of nodes
unfolding listed
alone nodes = append-nil (map part_of nodes)
