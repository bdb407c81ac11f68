use Rattle.std.proofs.Common.{◌+◌, length, arith}
use Rattle.lt_tree.specs.Nodes.{in_expression, in_declaration}
use Rattle.lt_objective_places.proofs.NotOpen.{part_closed, declared_closed, static_closed, static_in_for_closed, constant_closed, sizeof_closed, mark_closed}
use Rattle.lt_objective_places.proofs.laws.some_are_closed.Goals as goal

pub returns : goal.returns
returns c = λ unit program k. (
  (λ d s. part_closed unit program k (1 + length (in_declaration d)) (k + 1) (length (in_declaration d)) (omega arith) (omega arith) (declared_closed program d s.there)),
  (λ d list is s. static_closed program d list is s.there),
  (λ d test step x is s. static_in_for_closed program d test step x is s.there),
  (λ role e is s. constant_closed program e is s.stand.there),
  (λ role e s. part_closed unit program k (1 + length (in_expression e)) (k + 1) (length (in_expression e)) (omega arith) (omega arith) (sizeof_closed program e s.stand.there)),
  (λ m s. mark_closed program m s),
)
