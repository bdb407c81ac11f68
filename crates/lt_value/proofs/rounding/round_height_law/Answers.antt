use Rattle.lt_value.proofs.Heights.{height_falls}
use Rattle.lt_value.proofs.rounding.round_height_law.Goals as goal

pub returns-clause-falls : goal.returns-clause-falls
returns-clause-falls c =
    let r = c.requires in
    height_falls c.args.thresholds.now c.args.a.now c.args.b.now r.under.0 r.over.0 r.rounded r.below r.strictly r.under.1 r.over.1
