use Rattle.std.proofs.Common.{◌≤◌, ◌++◌, length, map, arith, sym, ap, ◌∙◌}
use Rattle.lt_entry.specs.Meaning.{free_cell, only_null}
use Rattle.lt_spec_reader.proofs.CellLaws.{root_named, block_cells, blocks_free, flat_more, flat_done}
use Rattle.lt_spec_reader.proofs.cells.put_block_cells.Goals as goal

pub loop-block-preserved : goal.loop-block-preserved
loop-block-preserved c = λ scope lines model said.
    let block = c.block-item.result in
    let root = root_named block.name in
    flat_more (block_cells scope lines) c.args.blocks.now c.loop-block.block-index block c.args.cells.now.items c.loop-block.cells.items _ c.loop-block-test.true c.block-item.is (c.loop-block.invariant scope lines model said)
    (c.in_ok-put_cells.ensures scope lines root model (sym c.as_slice-name.ensures) said ∙ ap (λ l. c.loop-block.cells.items ++ map (free_cell scope lines only_null root) l) c.as_slice-shape.ensures)

pub returns : goal.returns
returns c = λ scope lines all model are said.
    let ended : length c.args.blocks.now ≤ c.loop-block.block-index = omega arith in
    blocks_free scope lines all c.args.blocks.now c.args.cells.now.items c.loop-block.cells.items are
    (flat_done (block_cells scope lines) c.args.blocks.now c.loop-block.block-index c.args.cells.now.items c.loop-block.cells.items ended (c.loop-block.invariant scope lines model said))
