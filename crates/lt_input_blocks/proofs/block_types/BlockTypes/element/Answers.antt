use Rattle.std.proofs.Common.{sym, ap, ◌∙◌, arith}
use Rattle.lt_tree.specs.Typing.ProgramView.{program_of}
use Rattle.lt_entry.specs.Conditions.{is_block}
use Rattle.lt_entry.specs.Views.{numeral_view}
use Rattle.lt_input_names.specs.Blocks.{element_of, program_types}
use Rattle.lt_input_blocks.specs.Tokens.{texts}
use Rattle.lt_input_blocks.proofs.ElementLaws.{named_law}
use Rattle.lt_input_blocks.proofs.block_types.BlockTypes.element.Goals as goal

pub returns-then-not-is_block-clause-element : goal.returns-then-not-is_block-clause-element
returns-then-not-is_block-clause-element c =
    let it = c.args.self.now in
    let program = program_of it.program.now in
    let named = named_law it.program it.names.program c.in_ok-element.field-0 c.in-Some.element (texts c.args.ty.now) c.requires.names_program c.in-Some.is c.in_ok-element.ensures in
    ap (is_block program (numeral_view c.args.count)) named ∙ sym (c.is_block.ensures.block program (element_of (program_types it.program.now) c.in-Some.element) c.asked.ensures) ∙ c.if-not-is_block.true

pub returns-clause-element : goal.returns-clause-element
returns-clause-element c =
    let it = c.args.self.now in
    let program = program_of it.program.now in
    let named = named_law it.program it.names.program c.in_ok-element.field-0 c.in-Some.element (texts c.args.ty.now) c.requires.names_program c.in-Some.is c.in_ok-element.ensures in
    (named, ap (is_block program (numeral_view c.args.count)) named ∙ sym (c.is_block.ensures.block program (element_of (program_types it.program.now) c.in-Some.element) c.asked.ensures) ∙ c.if-not-is_block.false)

pub returns-clause-small : goal.returns-clause-small
returns-clause-small c = (c.is_block.ensures.positive c.if-not-is_block.false, omega (arith, c.if-count.false))
