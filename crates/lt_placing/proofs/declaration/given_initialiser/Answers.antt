use Rattle.std.proofs.Common.{refl, ap, Some, None}
use Rattle.std.specs.Prelude.{option_map}
use Rattle.lt_tree.specs.UnitView.{initialiser_of}
use Rattle.lt_tree.specs.Nodes.{in_optional_initialiser}
use Rattle.lt_objectives.specs.Marked.{initialiser_with_marks, start_with_marks}
use Rattle.lt_placing.proofs.Sequences.{lone_part, empty_part}
use Rattle.lt_placing.proofs.declaration.given_initialiser.Goals as goal

pub returns-in-None : goal.returns-in-None
returns-in-None c = empty_part start_with_marks in_optional_initialiser _ _ None (ap (option_map initialiser_of) c.in-None.is) refl (λ new k. refl) refl

pub returns-in_ok-initialiser-in-Some : goal.returns-in_ok-initialiser-in-Some
returns-in_ok-initialiser-in-Some c =
    lone_part start_with_marks in_optional_initialiser (λ x. Some x) _ _ (initialiser_of c.in-Some.given) (initialiser_of c.in_ok-initialiser-in-Some.field-0)
    (λ new k. initialiser_with_marks new k (initialiser_of c.in-Some.given)) _ (ap (option_map initialiser_of) c.in-Some.is) refl (λ new k. refl) refl c.in_ok-initialiser-in-Some.ensures
