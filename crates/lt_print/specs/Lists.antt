-- Pieces in a row, with something between.
use Rattle.std.specs.Prelude.{Bool, true, false, ◌&&◌, if◌then◌else◌, List, [], ◌∷◌, ◌++◌}
use Rattle.lt_tree.specs.Canon.{Pieces, gap_if}

-- whether there are pieces
abbrev pub stands : Pieces → Bool
stands [] = false
stands (p ∷ ps) = true

-- pieces behind others, if others stand before: with one space between what isn't empty
abbrev pub behind : Bool → Pieces → Pieces
behind before ps = gap_if (before && stands ps) ++ ps

-- parts one after another, with something between; `first` says that none stands before
abbrev pub separated : Pieces → Bool → List Pieces → Pieces
separated between first [] = []
separated between first (ps ∷ more) = (if first then [] else between) ++ (ps ++ separated between false more)
