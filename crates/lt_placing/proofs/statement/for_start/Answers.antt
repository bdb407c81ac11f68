use Rattle.std.proofs.Common.{refl, ap}
use Rattle.lt_tree.specs.Tree as tree
use Rattle.lt_tree.specs.View.{expression_of}
use Rattle.lt_tree.specs.UnitView.{declaration_of, start_of}
use Rattle.lt_tree.specs.Nodes.{in_start}
use Rattle.lt_objectives.specs.Marked.{with_marks, declaration_with_marks, for_start_with_marks}
use Rattle.lt_placing.proofs.Sequences.{lone_part, empty_part}
use Rattle.lt_placing.proofs.statement.for_start.Goals as goal

pub returns-in-Nothing : goal.returns-in-Nothing
returns-in-Nothing c = empty_part for_start_with_marks in_start _ _ tree.Nothing (ap start_of c.in-Nothing.is) refl (λ new k. refl) refl

pub returns-in_ok-expression-in-Expression : goal.returns-in_ok-expression-in-Expression
returns-in_ok-expression-in-Expression c =
    lone_part for_start_with_marks in_start tree.First _ _ (expression_of c.in-Expression.e) (expression_of c.in_ok-expression-in-Expression.field-0)
    (λ new k. with_marks new k (expression_of c.in-Expression.e)) _ (ap start_of c.in-Expression.is) refl (λ new k. refl) refl c.in_ok-expression-in-Expression.ensures

pub returns-in_ok-declaration-in-Declaration : goal.returns-in_ok-declaration-in-Declaration
returns-in_ok-declaration-in-Declaration c =
    lone_part for_start_with_marks in_start tree.Declares _ _ (declaration_of c.in-Declaration.d) (declaration_of c.in_ok-declaration-in-Declaration.field-0)
    (λ new k. declaration_with_marks new k (declaration_of c.in-Declaration.d)) _ (ap start_of c.in-Declaration.is) refl (λ new k. refl) refl c.in_ok-declaration-in-Declaration.ensures
