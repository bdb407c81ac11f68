use Rattle.std.proofs.Common.{refl, ap, Some, None}
use Rattle.std.specs.Prelude.{option_map}
use Rattle.lt_tree.specs.View.{expression_of}
use Rattle.lt_tree.specs.Nodes.{in_optional}
use Rattle.lt_objectives.specs.Marked.{with_marks, optional_with_marks}
use Rattle.lt_placing.proofs.Sequences.{lone_part, empty_part}
use Rattle.lt_placing.proofs.statement.optional.Goals as goal

pub returns-in-None : goal.returns-in-None
returns-in-None c = empty_part optional_with_marks in_optional _ _ None (ap (option_map expression_of) c.in-None.is) refl (λ new k. refl) refl

pub returns-in_ok-expression-in-Some : goal.returns-in_ok-expression-in-Some
returns-in_ok-expression-in-Some c =
    lone_part optional_with_marks in_optional (λ x. Some x) _ _ (expression_of c.in-Some.e) (expression_of c.in_ok-expression-in-Some.field-0)
    (λ new k. with_marks new k (expression_of c.in-Some.e)) _ (ap (option_map expression_of) c.in-Some.is) refl (λ new k. refl) refl c.in_ok-expression-in-Some.ensures
