use Rattle.lt_address.proofs.Parts.{end_of_content}
use Rattle.lt_address.proofs.law.end_law.Goals as goal

pub returns : goal.returns
returns c = end_of_content c.args.block
