use Rattle.lt_marked_runs.proofs.Runs.{run_beside}
use Rattle.lt_marked_runs.proofs.laws.programs_run_beside.Goals as goal

pub returns : goal.returns
returns x =
    run_beside x.marks_change_nothing.ensures x.further_objects_change_nothing.ensures x.accessed_types_change_nothing.ensures x.units_have_their_types.ensures x.types_of_accesses_are_listed.ensures
    x.addresses_of_units_are_there.ensures
