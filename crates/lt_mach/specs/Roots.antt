-- The names of an input's files, found by a map, and the cells there, found by their offsets.
use Rattle.std.specs.Prelude.{◌≡◌, ◌≢◌, ◌<◌, ℕ, List, length, get_or, Option, MatchOption}
use Rattle.std.specs.Borrow.{Bor}
use Rattle.std.specs.BTreeMap.{BTreeMap, get_by}
use Rattle.std.specs.Cmp.Lexicographic.{slice_cmp}
use Rattle.std.specs.Ordering.{nat_cmp}
use Rattle.lt_model.specs.declared.cell.ShapeCell.{ShapeCell}
use Rattle.lt_model.specs.declared.input.BlockIn.{BlockIn}
use Rattle.lt_ir.specs.Starting.{Root, root_among}

-- the name of an object with this number
abbrev pub root_of : BlockIn → ℕ → Root
root_of it block = record { name = it.name; block = block; cells = it.shape.cells }

abbrev pub found : BTreeMap (Bor (List ℕ)) Root → List ℕ → Option Root
found roots name = get_by (λ k. slice_cmp nat_cmp name k.now) roots

-- A name finds in the map what it finds first in the list.
abbrev pub AreFound : List Root → BTreeMap (Bor (List ℕ)) Root → Type 0
AreFound list roots = (name : List ℕ) → found roots name ≡ root_among list name

-- each offset is greater than the one before
abbrev pub IsAscending : List ShapeCell → Type 0
IsAscending cells = (i j : ℕ) (d : ShapeCell) → i < j → j < length cells → (get_or cells i d).offset < (get_or cells j d).offset

-- a cell stands at the offset, or none does
abbrev pub IsAt : List ShapeCell → ℕ → Option ℕ → Type 0
IsAt cells offset place =
    MatchOption place ((k : ℕ) (d : ShapeCell) → k < length cells → (get_or cells k d).offset ≢ offset)
    (λ k. (k < length cells) × ((d : ShapeCell) → (get_or cells k d).offset ≡ offset))
