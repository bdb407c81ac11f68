use Rattle.lt_spec_reader.proofs.NeedLaws.{other_sign}
use Rattle.lt_spec_reader.proofs.needs.negated.Goals as goal

pub returns : goal.returns
returns c = other_sign c.args.numeral.is_negative c.args.numeral.size
