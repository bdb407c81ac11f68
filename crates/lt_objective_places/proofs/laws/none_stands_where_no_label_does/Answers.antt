use Rattle.lt_decisions.proofs.Parts as closed
use Rattle.lt_objective_places.proofs.Standing.{none_in_run, none_in_expression}
use Rattle.lt_objective_places.proofs.laws.none_stands_where_no_label_does.Goals as goal

pub returns : goal.returns
returns c = λ unit program criterion k it among. (
  (λ role e s are w. none_in_expression program criterion e it s are among w),
  (λ d s are w. none_in_run program criterion it (closed.declaration d) s are among w),
)
