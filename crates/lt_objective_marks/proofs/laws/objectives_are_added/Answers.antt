use Rattle.lt_objective_marks.proofs.Domains.{domains_there}
use Rattle.lt_objective_marks.proofs.Named.{parameters_are_named}
use Rattle.lt_objective_marks.proofs.Units.{of_unit}
use Rattle.lt_objective_marks.proofs.laws.objectives_are_added.Goals as goal

pub returns : goal.returns
returns x = λ new unit program criterion id setting.
    of_unit setting x.labels_of_objectives_are_new.ensures x.nodes_are_numbered.ensures.parts x.objectives_are_added_to_expressions.ensures x.marks_are_of_one_node.ensures
    (domains_there x.nodes_are_numbered.ensures.parts x.domains_give_predicates.ensures parameters_are_named)
