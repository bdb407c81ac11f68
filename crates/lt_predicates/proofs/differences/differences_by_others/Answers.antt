use Rattle.std.proofs.Common.{◌≡◌, sym, ap, ◌∙◌}
use Rattle.std.proofs.lemmas.Result.{IfOk-weaker}
use Rattle.lt_tree.specs.View.{expression_of}
use Rattle.lt_predicates.specs.Expressions.{expressions}
use Rattle.lt_predicates.specs.Differences.{differences, other_operators, copied_others}
use Rattle.lt_predicates.proofs.Others.{others_are}
use Rattle.lt_predicates.proofs.differences.differences_by_others.Goals as goal

pub returns-then-is_one_of : goal.returns-then-is_one_of
returns-then-is_one_of c =
    let ops = c.args.ops.now in
    let op = c.in-Binary.op in
    let e = expression_of c.args.e.now in
    let plain = expression_of c.args.plain.now in
    IfOk-weaker c.differences_but.result (λ list. expressions list ≡ copied_others ops op e) (λ list. expressions list ≡ differences plain (other_operators ops plain))
    (λ list made. made ∙ others_are ops op e plain _ _ c.requires (ap expression_of c.in-Binary.is) (sym c.is_one_of.ensures ∙ c.if-is_one_of.true)) c.differences_but.ensures
