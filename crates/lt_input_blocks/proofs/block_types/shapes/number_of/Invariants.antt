use Rattle.lt_tree.specs.Typing.TypeRows.{types_of_rows}
use Rattle.lt_tables.specs.Interned.{IsIdOf, Keeps}
use Rattle.lt_input_names.specs.Blocks.{base_of, pointers}
use Rattle.lt_input_blocks.proofs.block_types.shapes.number_of.Given as goal

abbrev pub invariant-loop-pointer : goal.invariant-loop-pointer
invariant-loop-pointer l = record {
  keeps : Keeps l.fn.bare l.bare;
  id : IsIdOf l.bare (pointers l._pointer (base_of (types_of_rows l.fn.bare.program.now.table.items) l.fn.element.base)) l.id;
}
