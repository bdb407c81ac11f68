-- That further objects change nothing.
use Rattle.std.specs.Prelude.{◌≡◌, ◌≤◌, ◌⊎◌, ℕ, zero, suc, ◌+◌, Bool, List, [], ◌∷◌, length, take, Some, None}
use Rattle.std.specs.List.{AllByRecursion}
use Rattle.lt_model.specs.declared.cell.CellType.TheVariants as cell
use Rattle.lt_model.specs.declared.cell.ShapeCell.{ShapeCell}
use Rattle.lt_model.specs.declared.scalar.Scalar.TheVariants as S
use Rattle.lt_model.specs.declared.input.CellSet.{CellSet}
use Rattle.lt_model.specs.declared.input.CellSet.TheVariants as cellset
use Rattle.lt_model.specs.declared.input.BlockIn.{BlockIn}
use Rattle.lt_model.specs.declared.input.Input.{Input}
use Rattle.lt_model.specs.declared.run.End.TheVariants.{Cells}
use Rattle.lt_model.specs.Memory.{most_cells}
use Rattle.lt_tree.specs.Typing.Entities.{Function}
use Rattle.lt_tree.specs.Typing.Programs.{Program}
use Rattle.lt_ir.specs.Running.{Over}
use Rattle.lt_meaning.specs.Runs.{run, initials}
use Rattle.lt_object_laws.specs.Renamed.{renumbered, function_with}
use Rattle.lt_object_laws.specs.Beside.{HasFurtherBlocks}
use Rattle.lt_object_laws.specs.Further.{HasFurtherObjects, blocks_of, further_cells, cells_in}

-- Both runs are over in the same way, with the same ticks, values left and marks. The second one's memory is the first's with further blocks, as the
-- flags say; a run that ends early may not have come to make the last ones.
pub record IsBeside (further : List Bool) (a b : Over) : Type 0 where
  pub end : a.end ≡ b.end
  pub ticks : a.at.ticks ≡ b.at.ticks
  pub stubs : a.at.stubs ≡ b.at.stubs
  pub marks : a.at.marks ≡ b.at.marks
  pub not_made : List Bool
  pub cells : ℕ
  pub memory : HasFurtherBlocks (renumbered further) further not_made cells a.at.memory b.at.memory

-- ---- inputs whose places have names: string literals have none

abbrev pub HasName : List ℕ → Type 0
HasName [] = ⊥
HasName (b ∷ name) = Unit {0}

abbrev pub IsNamed : CellSet → Type 0
IsNamed (cellset.Number p z) = HasName p.root
IsNamed (cellset.Point p None) = HasName p.root
IsNamed (cellset.Point p (Some target)) = HasName p.root × HasName target.root

abbrev pub AreNamed : Input → Type 0
AreNamed input = AllByRecursion IsNamed input.cells

-- ---- room

-- a block of so many bytes that has no name
abbrev pub bytes_from : ℕ → ℕ → List ShapeCell
bytes_from zero offset = []
bytes_from (suc n) offset = record { offset = offset; ty = cell.Num S.UChar } ∷ bytes_from n (offset + 1)

abbrev pub spare_block : ℕ → BlockIn
spare_block k = record { name = []; shape = record { cells = bytes_from k 0; size = k } }

-- an input with such a block in front of its own
abbrev pub with_spare : ℕ → Input → Input
with_spare k input = record input { blocks = spare_block k ∷ input.blocks }

-- A run has room for so many more cells: it never has more alive than the most that may be, less so many. It may end for want of cells at an object
-- that has no room without them either. Memory's list of blocks only grows: where a spare block ends the run earlier, it has fewer in the end.
pub record HasRoom (k : ℕ) (p : Program) (f : Function) (input : Input) (ticks : ℕ) : Type 0 where
  -- as many of the objects that are there from the start as fit do so beside so many cells more
  pub first : (n : ℕ) → cells_in (take n (initials p p.objects)) ≤ most_cells → cells_in (take n (initials p p.objects)) + k ≤ most_cells
  -- where all do, with a spare block of as many cells behind these memory has one block more in the end
  pub throughout : cells_in (initials p p.objects) ≤ most_cells → length (run p f (with_spare k input) ticks).at.memory ≡ suc (length (run p f input ticks).at.memory)

-- So it has for what has no cells, whatever it does.
abbrev pub HasRoomFor : ℕ → Program → Function → Input → ℕ → Type 0
HasRoomFor zero p f input ticks = Unit {0}
HasRoomFor (suc k) p f input ticks = HasRoom (suc k) p f input ticks

-- ---- the laws

-- A program with further objects runs as it does without them, or there is no room for their cells.
abbrev pub FurtherObjectsTakeRoomAlone : Type 0
FurtherObjectsTakeRoomAlone =
    (further : List Bool) (p q : Program) (f : Function) (input : Input) (ticks : ℕ)
    → HasFurtherObjects further p q → AreNamed input
    → IsBeside (blocks_of further q) (run p f input ticks) (run q (function_with (renumbered further) f) input ticks)
    ⊎ ((run q (function_with (renumbered further) f) input ticks).end ≡ Cells)

-- Where a run has room for their cells, it is the same.
abbrev pub FurtherObjectsChangeNothing : Type 0
FurtherObjectsChangeNothing =
    (further : List Bool) (p q : Program) (f : Function) (input : Input) (ticks : ℕ)
    → HasFurtherObjects further p q → AreNamed input → HasRoomFor (further_cells further q) p f input ticks
    → IsBeside (blocks_of further q) (run p f input ticks) (run q (function_with (renumbered further) f) input ticks)
