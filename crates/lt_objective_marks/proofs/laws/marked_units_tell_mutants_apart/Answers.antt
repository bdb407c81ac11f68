use Rattle.std.proofs.Common.{suc, arith}
use Rattle.lt_tree.specs.Ids.{ids_of_unit, greatest_id}
use Rattle.lt_tree.specs.Typing.Entities.{greatest_written_id}
use Rattle.lt_objectives.specs.Criteria.{criteria_in}
use Rattle.lt_objective_marks.proofs.OldIds.{behind_greatest}
use Rattle.lt_objective_marks.proofs.laws.marked_units_tell_mutants_apart.Goals as goal

pub returns : goal.returns
returns x = λ model unit program set is last.
    x.rounds_tell_mutants_apart.ensures greatest_written_id model (criteria_in set) unit program (suc (greatest_id (ids_of_unit unit))) is (omega arith) (behind_greatest unit) last
