use Rattle.std.proofs.Common.{◌≡◌, subst, sym}
use Rattle.lt_tree.specs.Typing.TypeRows.{types_of_rows}
use Rattle.lt_tree.specs.Typing.EntityView.{structs_of}
use Rattle.lt_input_names.specs.Blocks.{program_types}
use Rattle.lt_input_blocks.specs.Facts.{HaveFacts}
use Rattle.lt_input_blocks.specs.Cells.{AreCells}
use Rattle.lt_input_blocks.proofs.block_types.BlockTypes.new.Goals as goal

pub returns-clause-types : goal.returns-clause-types
returns-clause-types c =
    let program = c.args.program.now in
    let facts : HaveFacts (program_types program) c.in_ok-facts.facts.items = subst (λ l. HaveFacts (types_of_rows l) c.in_ok-facts.facts.items) c.deref.ensures.value c.in_ok-facts.ensures in
    let of_facts : HaveFacts (program_types program) c.deref-2.result.now = subst (λ l. HaveFacts (program_types program) l) (sym c.deref-2.ensures.value) facts in
    let cells : AreCells (structs_of (program_types program) program.structs.items) c.in_ok-cells.cells.items =
    subst (λ l. AreCells (structs_of (program_types program) l) c.in_ok-cells.cells.items) c.deref-3.ensures.value (c.in_ok-cells.ensures (program_types program) of_facts) in
    record {
      kinds = c.in_ok-kinds.ensures.kinds;
      kinds_program = c.in_ok-kinds.ensures.program;
      names = c.in_ok-names.ensures.names;
      names_program = c.in_ok-names.ensures.program;
      facts = facts;
      cells = cells;
      tables_program = c.in_ok-tables.ensures.program;
      bare_program = c.in_ok-bare.ensures;
    }
