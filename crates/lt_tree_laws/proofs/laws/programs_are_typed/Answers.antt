use Rattle.lt_tree_laws.proofs.TypedUnits.{conversions, places, calls_and_marks, spread, cells}
use Rattle.lt_tree_laws.proofs.laws.programs_are_typed.Goals as goal

pub returns-clause-conversions : goal.returns-clause-conversions
returns-clause-conversions c = conversions

pub returns-clause-places : goal.returns-clause-places
returns-clause-places c = places

pub returns-clause-calls_and_marks : goal.returns-clause-calls_and_marks
returns-clause-calls_and_marks c = calls_and_marks

pub returns-clause-spread : goal.returns-clause-spread
returns-clause-spread c = spread

pub returns-clause-cells : goal.returns-clause-cells
returns-clause-cells c = cells
