use Rattle.lt_entry.proofs.OneSpecification.{specifications}
use Rattle.lt_entry.proofs.laws.a_text_says_one_specification.Goals as goal

pub returns : goal.returns
returns c = specifications
