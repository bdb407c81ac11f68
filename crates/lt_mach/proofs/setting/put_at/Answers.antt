use Rattle.lt_mach.proofs.SetCells.{put_some}
use Rattle.lt_mach.proofs.setting.put_at.Goals as goal

pub returns-clause-puts : goal.returns-clause-puts
returns-clause-puts c = put_some c.args.memory.now.model c.args.root.now c.block-block.result c.args.offset c.in-Some.ty c.args.content c.args.memory.now.blocks c.put.new.memory.blocks c.put.result c.block-block.ensures c.in-Some.ensures c.put.ensures.puts
