use Rattle.std.proofs.Common.{◌≡◌, ◌++◌, map, take}
use Rattle.std.specs.List.{flat_map}
use Rattle.lt_entry.specs.Meaning.{only_null}
use Rattle.lt_input_specs.specs.Defaults.{plain_cell}
use Rattle.lt_input_specs.proofs.default.put_block_cells.Given as goal

abbrev pub invariant-loop-block : goal.invariant-loop-block
invariant-loop-block l = l.cells.items ≡ l.initial.cells.items ++ flat_map (λ block. map (plain_cell l.kinds.program.now.model block.name only_null) block.shape.cells) (take l.block-index l.blocks)
