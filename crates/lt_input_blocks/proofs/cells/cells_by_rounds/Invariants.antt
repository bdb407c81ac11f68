use Rattle.std.proofs.Common.{List}
use Rattle.lt_tree.specs.Typing.Types.{CType}
use Rattle.lt_tree.specs.Typing.EntityView.{structs_of}
use Rattle.lt_input_blocks.specs.Facts.{HaveFacts}
use Rattle.lt_input_blocks.specs.Cells.{AreCellsAt}
use Rattle.lt_input_blocks.proofs.cells.cells_by_rounds.Given as goal

abbrev pub invariant-loop-round : goal.invariant-loop-round
invariant-loop-round l = (types : List CType) → HaveFacts types l.facts → AreCellsAt (structs_of types l.structs) l._round l.cells.items
