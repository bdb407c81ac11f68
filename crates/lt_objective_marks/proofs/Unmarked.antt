-- Typing takes labels behind parts of expressions as it does before them.
use Rattle.std.specs.Prelude.{refl}
use Rattle.lt_objective_marks.proofs.Given.{KeptUnmarked}
use Rattle.lt_objective_marks.proofs.Keeping.{of_expression, of_marks, of_specifiers, of_declarator}
use Rattle.lt_objective_marks.proofs.Ways.{lies_behind}

pub kept_unmarked : KeptUnmarked
kept_unmarked = record {
  expression = λ it role known a behind is. (lies_behind (of_expression it role known (refl, refl)) is).0;
  marks = λ them known a behind is. (lies_behind (of_marks them known (refl, refl)) is).0;
  specifiers = λ it place known a behind is. (lies_behind (of_specifiers it place known (refl, refl)) is).0;
  declarator = λ it type is_definition judge known a behind is. (lies_behind (of_declarator it type is_definition judge known (refl, refl)) is).0;
}
