-- The criteria whose labels this crate makes.
use Rattle.std.specs.Prelude.{List, [], ◌∷◌}
use Rattle.lt_objectives.specs.declared.criteria.Criterion.{Criterion}
use Rattle.lt_objectives.specs.declared.criteria.Criterion.TheVariants as C

-- in the order in which they are applied
abbrev pub criteria : List Criterion
criteria = C.Function ∷ C.InputDomain ∷ C.Decision ∷ C.Condition ∷ []

-- This is one of them.
abbrev pub IsOneOfThem : Criterion → Type 0
IsOneOfThem C.Function = Unit {0}
IsOneOfThem C.InputDomain = Unit {0}
IsOneOfThem C.Decision = Unit {0}
IsOneOfThem C.Condition = Unit {0}
IsOneOfThem _ = ⊥
