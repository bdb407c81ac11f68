use Rattle.lt_value.proofs.Conversions.{convert_sound}
use Rattle.lt_value.proofs.conversion.convert_sound_law.Goals as goal

pub returns : goal.returns
returns c = convert_sound c.args.model c.args.to c.args.n.now
