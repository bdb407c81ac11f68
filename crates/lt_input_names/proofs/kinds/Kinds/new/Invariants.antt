use Rattle.std.proofs.Common.{◌≡◌, length}
use Rattle.lt_tree.specs.Typing.EntityView.{structs_of}
use Rattle.lt_input_names.specs.Blocks.{program_types}
use Rattle.lt_input_names.proofs.FactRows.{AreFactsBelow}
use Rattle.lt_input_names.proofs.kinds.Kinds.new.Given as goal

abbrev pub invariant-loop-row : goal.invariant-loop-row
invariant-loop-row l = record {
  count : length l.facts.items ≡ l.row-index;
  known : AreFactsBelow (structs_of (program_types l.program) l.program.structs.items) (program_types l.program) l.row-index l.facts.items;
}
