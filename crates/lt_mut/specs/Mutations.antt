-- The criteria whose objectives are mutants.
use Rattle.std.specs.Prelude.{List, [], ◌∷◌}
use Rattle.lt_objectives.specs.declared.criteria.Criterion.{Criterion}
use Rattle.lt_objectives.specs.declared.criteria.Criterion.TheVariants as C
use Rattle.lt_mut.specs.declared.mutation.Mutation.{Mutation}
use Rattle.lt_mut.specs.declared.mutation.Mutation.TheVariants as change

abbrev pub criteria : List Criterion
criteria = C.AbsoluteValue ∷ C.ArithmeticOperator ∷ C.LogicalConnector ∷ C.RelationalOperator ∷ []

abbrev pub criterion_of : Mutation → Criterion
criterion_of change.AbsoluteValue = C.AbsoluteValue
criterion_of change.ArithmeticOperator = C.ArithmeticOperator
criterion_of change.LogicalConnector = C.LogicalConnector
criterion_of change.RelationalOperator = C.RelationalOperator
