use Rattle.std.proofs.Common.{◌≡◌, subst}
use Rattle.lt_tree.specs.Tree as c
use Rattle.lt_tree.specs.Nodes.{an_external, an_expression}
use Rattle.lt_objectives.specs.Objectives.{at_start, in_front, around}
use Rattle.lt_sites.proofs.Nodes.{expression_node}
use Rattle.lt_objective_places.specs.Stands.{GoOn}
use Rattle.lt_objective_places.proofs.Together.{labels_of_one, decided_of_one}
use Rattle.lt_objective_places.proofs.laws.marks_are_of_one_node.Goals as goal

before_it : in_front ≡ around → ⊥
before_it is = cc

at_its_start : at_start ≡ around → ⊥
at_its_start is = cc

pub returns : goal.returns
returns x = λ unit program criterion k id. (
  (λ role e s. (labels_of_one unit program criterion in_front k id (an_expression e) before_it (subst (GoOn unit k) (expression_node e) s.stand.there), decided_of_one unit program criterion role k id e s)),
  (λ s d body stands. labels_of_one unit program criterion at_start k id (an_external (c.Defines s d body)) at_its_start stands.there),
)
