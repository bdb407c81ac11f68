use Rattle.std.specs.Int.{w128}
use Rattle.std.proofs.lemmas.Int.{to_z-of_z}
use Rattle.lt_value.proofs.Members.{lo_fits, hi_fits}
use Rattle.lt_value.proofs.Roundings.{rounded_monotone}
use Rattle.lt_value.proofs.rounding.round_monotone_law.Goals as goal

pub returns : goal.returns
returns c =
    let b = c.args.b.now in
    let p = rw (to_z-of_z w128 b.lo (lo_fits b)) at c.low_end-low.ensures in
    let q = rw (to_z-of_z w128 b.hi (hi_fits b)) at c.high_end-high.ensures in
    λ z. rounded_monotone c.args.thresholds.now c.args.a.now b _ _ z c.requires p q
