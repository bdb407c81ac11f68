-- What objectives ask of nodes: those outside of marks, by their numbers.
use Rattle.std.specs.Prelude.{ℕ, Bool, List, map, Option, Some, None}
use Rattle.lt_tree.specs.Nodes.{Node}
use Rattle.lt_tree.specs.Typing.Types.{CType}
use Rattle.lt_tree.specs.Typing.Constants.{is_number}
use Rattle.lt_tree.specs.Typing.Entities.{Fact}
use Rattle.lt_objectives.specs.Places.{fact_among}
use Rattle.lt_sites.specs.Sites.{part_of}
use Rattle.lt_facts.specs.Outside.{outside_from, places_from}

-- the type of a node and whether it is an integer constant, if a fact of it is noted
abbrev pub asked : List Fact → ℕ → Option (CType × Bool)
asked facts n = elim (fact_among facts n) [ None ↦ None | Some fact ↦ Some (fact.type, is_number fact.constancy) ]

-- the numbers of the nodes outside of marks among these, where the first of these has this number; comma expressions are left out
abbrev pub kept : ℕ → List Node → List ℕ
kept k xs = places_from k (outside_from 0 (map part_of xs))

-- what is asked of them
abbrev pub seen : List Fact → ℕ → List Node → List (Option (CType × Bool))
seen facts k xs = map (asked facts) (kept k xs)
