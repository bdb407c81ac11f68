use Rattle.std.proofs.Common.{◌∙◌}
use Rattle.lt_tree.specs.UnitView.{external_of}
use Rattle.lt_expr.specs.Inside.{inside}
use Rattle.lt_decl.specs.Walk.{walk_external}
use Rattle.lt_decl.proofs.WalkRows.{ok_then, left_is, external_node}
use Rattle.lt_decl.proofs.walk.unit.external.Goals as goal

pub returns : goal.returns
returns c =
    let x = external_of c.args.x.now in
    ok_then _ _ c.leave.ensures
    (left_is (inside (walk_external x)) c.args.walker.now _ _ _ c.enter-begin.ensures.start c.enter-begin.ensures.left c.in_ok-parts.ensures ∙ external_node x c.args.walker.now)
