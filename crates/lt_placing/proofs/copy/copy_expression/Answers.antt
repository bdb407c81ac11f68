use Rattle.std.proofs.Common.{◌≡◌, ◌∙◌, [], subst}
use Rattle.std.proofs.lemmas.Result.{IfOk-weaker}
use Rattle.lt_tree.specs.View.{expression_of}
use Rattle.lt_tree.specs.Nodes.{in_expression}
use Rattle.lt_objectives.specs.Marked.{with_marks}
use Rattle.lt_placing.specs.NewMarks.{new_marks}
use Rattle.lt_placing.specs.Walks.{StandsAt, Passes}
use Rattle.lt_placing.proofs.Nothing.{nothing_within}
use Rattle.lt_placing.proofs.copy.copy_expression.Goals as goal

pub returns : goal.returns
returns c =
    let walk = c.in_ok-walk.walk in
    let e = expression_of c.args.e.now in
    let at : StandsAt walk [] 0 = subst (λ xs. StandsAt walk (new_marks xs) 0) c.new.ensures.items c.in_ok-walk.ensures in
    IfOk-weaker c.expression.result (λ made. Passes walk c.expression.new.walk (λ new k. expression_of made ≡ with_marks new k e) (in_expression e)) (λ made. expression_of made ≡ e)
    (λ made passes. (passes [] 0 at).0 ∙ nothing_within 0 e) c.expression.ensures
