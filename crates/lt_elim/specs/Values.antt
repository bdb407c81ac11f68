-- What the code needs of the stages of all variables.
use Rattle.std.specs.Prelude.{◌≡◌, ℕ, zero, suc, false, List, [], ◌∷◌}
use Rattle.lt_elim.specs.declared.point.Reckoned as code
use Rattle.lt_elim.specs.declared.point.Reckoned.TheVariants as code_reckoned
use Rattle.lt_elim.specs.declared.stage.Stage.{Stage}
use Rattle.lt_elim.specs.Elimination.{coeff}
use Rattle.lt_elim.specs.Fraction.{Fraction}
use Rattle.lt_elim.specs.Decision.{Verdict, stops, point}
use Rattle.lt_elim.specs.Reckoning.{fractions_of, AreBounding, CanBoundAll}
use Rattle.lt_elim.specs.Stages.{under}
use Rattle.lt_elim.specs.Tracing.{bare}

-- The rows of the stages of the variables below n set bounds to their variables.
abbrev pub HaveBounds : ℕ → List Stage → Type 0
HaveBounds n [] = Unit {0}
HaveBounds zero (s ∷ ss) = ⊥
HaveBounds (suc v) (s ∷ ss) = AreBounding v (bare s.raising.items) × AreBounding v (bare s.lowering.items) × HaveBounds v ss

-- Where there is no limit, the numbers of the bounds fit.
abbrev pub CanReckon : ℕ → List Stage → Type 0
CanReckon n [] = Unit {0}
CanReckon zero (s ∷ ss) = ⊥
CanReckon (suc v) (s ∷ ss) =
    ((values : List Fraction) → under false v ss (point []) ≡ point values → CanBoundAll v values (bare s.raising.items) × CanBoundAll v values (bare s.lowering.items))
    × CanReckon v ss

abbrev pub reckoned : code.Reckoned → Verdict
reckoned (code_reckoned.Values values) = point (fractions_of values.items)
reckoned (code_reckoned.Passes v) = stops (coeff v)
