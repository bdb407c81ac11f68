-- The samples compute.
use Rattle.std.proofs.Common.{refl, arith}
use Rattle.lt_ranges.specs.Samples.{SamplesAreJudged}

pub judged : SamplesAreJudged
judged = (
  (
    (refl, (refl, (omega arith, tt))),
    (refl, (refl, (omega arith, tt))),
    (refl, (refl, tt)),
    (refl, (refl, tt)),
  ),
  (
    (λ h. let object = h.1.0 in absurd (omega arith)),
    (λ h. let call = h.1.0 in absurd cc),
    (λ h. let call = h.1.0 in absurd cc),
    (λ h. let label = h.1.0 in absurd cc),
    (λ h. let label = h.1.0 in absurd cc),
    (λ h. let struct = h.1.0 in absurd (omega arith)),
    (λ h. let local = h.1.0 in absurd cc),
    (λ h. let parameter = h.1.0 in absurd cc),
  ),
)
