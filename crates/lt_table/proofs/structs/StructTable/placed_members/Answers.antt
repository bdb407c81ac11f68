use Rattle.lt_table.proofs.StructMembers.{shared_answer}
use Rattle.lt_table.proofs.structs.StructTable.placed_members.Goals as goal

pub returns : goal.returns
returns c = shared_answer c.args.self.now c.args.number c.shared_at.result c.shared_at.ensures
