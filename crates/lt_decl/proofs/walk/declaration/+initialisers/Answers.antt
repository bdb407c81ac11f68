use Rattle.std.proofs.Common.{◌∙◌}
use Rattle.lt_tree.specs.UnitView.{initialiser_of}
use Rattle.lt_expr.specs.Inside.{inside}
use Rattle.lt_decl.specs.Walk.{walk_initialiser}
use Rattle.lt_decl.proofs.WalkRows.{ok_then, left_is, initialiser_node, value_walked, braces_walked}
use Rattle.lt_decl.proofs.walk.declaration.+initialisers.Goals as goal

pub initialiser-returns : goal.initialiser-returns
initialiser-returns t c =
    let i = initialiser_of c.args.initialiser.now in
    ok_then _ _ c.leave.ensures
    (left_is (inside (walk_initialiser i)) c.args.walker.now _ _ _ c.enter-begin.ensures.start c.enter-begin.ensures.left c.in_ok-parts.ensures ∙ initialiser_node i c.args.walker.now)

pub parts-returns-in-Expression : goal.parts-returns-in-Expression
parts-returns-in-Expression t c = ok_then _ _ c.expression.ensures (value_walked c.args.initialiser.now c.in-Expression.value c.args.walker.now c.in-Expression.is)

pub parts-returns-in-List : goal.parts-returns-in-List
parts-returns-in-List t c = ok_then _ _ c.initialisers.ensures (braces_walked c.args.initialiser.now c.in-List.parts _ c.args.walker.now c.in-List.is c.as_slice.ensures.value)
