-- The nodes that are there without the marks too, in one walk over nodes with their sizes.
use Rattle.std.specs.Prelude.{ℕ, ◌+◌, ◌-◌, ◌==◌, max, Bool, true, false, ◌&&◌, List, [], ◌∷◌, Option, Some, None}
use Rattle.lt_tree.specs.Nodes.{a_mark}
use Rattle.lt_objectives.specs.Places.{stays_without_marks}
use Rattle.lt_sites.specs.Sites.{Sized}

-- how many nodes the mark has that begins with this node
abbrev pub mark_size : Sized → ℕ
mark_size it = elim (it.node) [ a_mark m ↦ it.size | _ ↦ 0 ]

-- whether each of them is in no mark and stays, where so many from the first on are in a mark before it
abbrev pub outside_from : ℕ → List Sized → List Bool
outside_from marked [] = []
outside_from marked (it ∷ rest) = ((max (mark_size it) marked == 0) && stays_without_marks it.node) ∷ outside_from (max (mark_size it) marked - 1) rest

-- the places of those that are true, where the first has this place
abbrev pub places_from : ℕ → List Bool → List ℕ
places_from k [] = []
places_from k (true ∷ flags) = k ∷ places_from (k + 1) flags
places_from k (false ∷ flags) = places_from (k + 1) flags

-- for each that is true the next of the numbers
abbrev pub side_by_side : List Bool → List ℕ → List (Option ℕ)
side_by_side [] numbers = []
side_by_side (false ∷ flags) numbers = None ∷ side_by_side flags numbers
side_by_side (true ∷ flags) [] = None ∷ side_by_side flags []
side_by_side (true ∷ flags) (n ∷ numbers) = Some n ∷ side_by_side flags numbers
