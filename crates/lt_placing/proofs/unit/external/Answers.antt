use Rattle.std.proofs.Common.{refl, ap}
use Rattle.lt_tree.specs.Tree as tree
use Rattle.lt_tree.specs.UnitView.{declaration_of, external_of}
use Rattle.lt_tree.specs.Nodes.{in_external}
use Rattle.lt_objectives.specs.Marked.{declaration_with_marks, external_with_marks}
use Rattle.lt_placing.specs.Parts.{function_of}
use Rattle.lt_placing.proofs.Sequences.{one_part, lone_part}
use Rattle.lt_placing.proofs.unit.external.Goals as goal

pub returns-in_ok-function-in-Function : goal.returns-in_ok-function-in-Function
returns-in_ok-function-in-Function c =
    lone_part external_with_marks in_external (λ x. x) _ _ (function_of c.in-Function.f) _ (λ new k. external_with_marks new k (function_of c.in-Function.f)) _ (ap external_of c.in-Function.is) refl
    (λ new k. refl) refl c.in_ok-function-in-Function.ensures

pub returns-in_ok-declaration-in-Declaration : goal.returns-in_ok-declaration-in-Declaration
returns-in_ok-declaration-in-Declaration c =
    one_part external_with_marks in_external tree.Declared _ _ (declaration_of c.in-Declaration.d) (declaration_of c.in_ok-declaration-in-Declaration.field-0)
    (λ new k. declaration_with_marks new k (declaration_of c.in-Declaration.d)) _ (ap external_of c.in-Declaration.is) refl (λ new k. refl) refl c.step.ensures c.in_ok-declaration-in-Declaration.ensures
