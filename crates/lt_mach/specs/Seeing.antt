-- How a watch goes on along the marks of a run.
use Rattle.std.specs.Prelude.{◌≡◌, List, [], ◌∷◌}
use Rattle.lt_model.specs.declared.run.Mark.{Mark}

-- From its old to its new value by a step for each mark, in order.
abbrev pub SawAll : {W : Type 0} → (saw : W → Mark → W → Type 0) → (old : W) → List Mark → (new : W) → Type 0
SawAll saw old [] new = new ≡ old
SawAll saw old (mark ∷ marks) new = (between : _) × saw old mark between × SawAll saw between marks new
