use Rattle.lt_objective_marks.proofs.Exact.{rounds_tell}
use Rattle.lt_objective_marks.proofs.laws.rounds_tell_mutants_apart.Goals as goal

pub returns : goal.returns
returns x = rounds_tell x.first_programs_know_as_much.ensures x.labels_of_objectives_are_new.ensures x.decisions_give_predicates.ensures x.mutants_give_predicates.ensures x.domains_give_predicates.ensures x.objectives_are_added.ensures x.units_are_typed_again.ensures
    x.labels_come_from_units.ensures x.differences_stay.ensures
