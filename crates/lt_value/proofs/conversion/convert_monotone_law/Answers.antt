use Rattle.lt_value.proofs.Conversions.{convert_monotone}
use Rattle.lt_value.proofs.conversion.convert_monotone_law.Goals as goal

pub returns : goal.returns
returns c = λ z. convert_monotone c.args.model c.args.to c.args.a.now c.args.b.now z c.requires
