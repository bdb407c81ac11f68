use Rattle.std.proofs.Common.{◌≡◌, length, List}
use Rattle.lt_tree.specs.Typing.Types.{CType}
use Rattle.lt_tree.specs.Typing.EntityView.{structs_of}
use Rattle.lt_input_blocks.specs.Facts.{HaveFacts}
use Rattle.lt_input_blocks.specs.Cells.{AreSettled}
use Rattle.lt_input_blocks.proofs.cells.settle_all.Given as goal

abbrev pub invariant-loop-place : goal.invariant-loop-place
invariant-loop-place l = record {
  cells : length l.cells ≡ length l.structs;
  settled : length l.settled ≡ length l.structs;
  known : (types : List CType) → HaveFacts types l.facts → AreSettled (structs_of types l.structs) 0 l.initial.cells l.initial.settled → AreSettled (structs_of types l.structs) l.place-index l.cells l.settled;
}
