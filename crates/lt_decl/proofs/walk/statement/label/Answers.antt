use Rattle.std.proofs.Common.{[], ◌∷◌, ◌∙◌}
use Rattle.lt_tree.specs.UnitView.{label_of}
use Rattle.lt_expr.specs.Inside.{inside}
use Rattle.lt_decl.specs.Walk.{walk_labels}
use Rattle.lt_decl.proofs.WalkRows.{ok_then, left_is, label_node}
use Rattle.lt_decl.proofs.walk.statement.label.Goals as goal

pub returns : goal.returns
returns c =
    let l = label_of c.args.label.now in
    ok_then _ _ c.leave.ensures
    (left_is (inside (walk_labels (l ∷ []))) c.args.walker.now _ _ _ c.enter-begin.ensures.start c.enter-begin.ensures.left c.in_ok-label_value.ensures ∙ label_node l c.args.walker.now)
