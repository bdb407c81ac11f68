use Rattle.lt_tree.specs.Typing.ProgramView.{program_of}
use Rattle.lt_input_names.specs.Blocks.{base_of, program_types}
use Rattle.lt_input_blocks.proofs.ElementLaws.{deep_asked}
use Rattle.lt_input_blocks.proofs.block_types.BlockTypes.asked.Goals as goal

pub returns-else-element-eq1 : goal.returns-else-element-eq1
returns-else-element-eq1 c =
    deep_asked (program_of c.args.self.now.program.now).structs c.args.element.pointers (base_of (program_types c.args.self.now.program.now) c.args.element.base) c.if-element-eq0.false c.if-element-eq1.false
