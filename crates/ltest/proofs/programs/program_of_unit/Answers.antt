use Rattle.ltest.proofs.Nodes.{broken_at}
use Rattle.ltest.proofs.programs.program_of_unit.Goals as goal

pub returns-in-Err-Broken : goal.returns-in-Err-Broken
returns-in-Err-Broken c text spells =
    broken_at c.nodes_have_spots.ensures c.nodes_are_numbered.ensures.broken c.args.model text _ c.args.parsed.now.spots.items _ c.in-Err-Broken.node c.number.result c.index-at.result.now
    spells (rw c.in-Err-Broken.field-0-is at c.in-Err-Broken.ensures) c.number.ensures c.index-at.ensures
