use Rattle.std.proofs.Common.{◌≡◌, ap, ap₂, ◌∙◌}
use Rattle.lt_tree.specs.Tree as t
use Rattle.lt_tree.specs.View.{expression_of}
use Rattle.lt_placing.proofs.expression.decide.Goals as goal

pub returns : goal.returns
returns c =
    let operand = c.args.operand.value in
    let first : c.when_true.inside.bytes.items ≡ c.args.when_true.now = cc (c.when_true.view_is, c.in_ok-when_true.ensures) in
    ap₂ (λ m n. t.Decide (expression_of operand) m n c.in_ok-copy.field-0) first c.in_ok-when_false.ensures
    ∙ ap (t.Decide (expression_of operand) c.args.when_true.now c.args.when_false.now) c.in_ok-copy.ensures
