use Rattle.std.proofs.Common.{◌∙◌}
use Rattle.lt_copies.specs.Blocks.{tags_of}
use Rattle.lt_copies.proofs.Rows.{parameters_known}
use Rattle.lt_copies.proofs.blocks.Blocks.+known.Goals as goal

pub are_known_parameters-returns-in-Listed : goal.are_known_parameters-returns-in-Listed
are_known_parameters-returns-in-Listed t c =
    c.is_known_list.ensures ∙ parameters_known (tags_of c.args.self.now.frames) c.args.parameters.now c.in-Listed.list _ c.in-Listed.is c.as_slice.ensures.value
