use Rattle.lt_entry.specs.Suites.{suite_scope}
use Rattle.lt_tree.specs.Typing.ProgramView.{program_of}
use Rattle.lt_input_names.specs.Blocks.{specification_of}
use Rattle.lt_input_suites.proofs.Fronts.{HasRead}
use Rattle.lt_input_suites.proofs.reading.read_suite.Given as goal

abbrev pub invariant-loop-row : goal.invariant-loop-row
invariant-loop-row l = HasRead (suite_scope (program_of l.program) (specification_of l.program l.specification)) l.text l.row-index l.draft
