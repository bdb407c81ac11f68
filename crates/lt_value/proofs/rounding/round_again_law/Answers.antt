use Rattle.lt_value.proofs.Roundings.{rounded_again}
use Rattle.lt_value.proofs.rounding.round_again_law.Goals as goal

pub returns : goal.returns
returns c = rounded_again c.args.thresholds.now c.args.n.now c.args.rounded.now c.requires
