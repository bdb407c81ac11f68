use Rattle.lt_objective_marks.proofs.Rounds.{rounds_run}
use Rattle.lt_objective_marks.proofs.laws.rounds_run_as_they_did.Goals as goal

pub returns : goal.returns
returns x = rounds_run x.first_programs_know_as_much.ensures x.labels_of_objectives_are_new.ensures x.decisions_give_predicates.ensures x.mutants_give_predicates.ensures x.domains_give_predicates.ensures x.objectives_are_added.ensures x.units_are_typed_again.ensures
    x.programs_are_made_in_steps.ensures x.programs_run_beside.ensures
