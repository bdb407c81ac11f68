use Rattle.std.proofs.Common.{refl, ap}
use Rattle.lt_tree.specs.Tree as tree
use Rattle.lt_tree.specs.View.{expression_of}
use Rattle.lt_tree.specs.UnitView.{label_of}
use Rattle.lt_tree.specs.Nodes.{in_label}
use Rattle.lt_placing.proofs.Sequences.{no_part, one_part}
use Rattle.lt_placing.proofs.statement.case_label.Goals as goal

pub returns-in_ok-value-in-Case : goal.returns-in_ok-value-in-Case
returns-in_ok-value-in-Case c =
    one_part (λ new k l. l) in_label tree.Case _ _ (expression_of c.in-Case.value) (expression_of c.in_ok-value-in-Case.value.value) (λ new k. expression_of c.in-Case.value) _
    (ap label_of c.in-Case.is) (ap (λ x. tree.Case (expression_of x)) c.into_inner.ensures) (λ new k. refl) refl c.step.ensures c.in_ok-value-in-Case.ensures

pub returns-in-Default : goal.returns-in-Default
returns-in-Default c = no_part (λ new k l. l) in_label _ _ tree.Default (ap label_of c.in-Default.is) refl (λ new k. refl) refl c.step.ensures
