use Rattle.std.proofs.Common.{◌≡◌, take}
use Rattle.std.specs.List.{sum_by}
use Rattle.lt_input_blocks.specs.Facts.{capped, facts_at}
use Rattle.lt_input_blocks.specs.Cells.{cells_by}
use Rattle.lt_input_blocks.proofs.cells.struct_cells.Given as goal

abbrev pub invariant-loop-member : goal.invariant-loop-member
invariant-loop-member l = l.sum ≡ capped (sum_by (λ member. cells_by l.cells (facts_at l.facts member.ty)) (take l.member-index l.member-items))
