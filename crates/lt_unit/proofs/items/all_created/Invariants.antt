use Rattle.std.proofs.Common.{◌≡◌, List}
use Rattle.lt_tree.specs.Typing.Types.{CType}
use Rattle.lt_tree.specs.Typing.TypedTree as e
use Rattle.lt_tree.specs.Typing.StatementView as view
use Rattle.lt_tree.specs.Typing.StatementTyping as typing
use Rattle.lt_type.proofs.Turns.{before}
use Rattle.lt_unit.specs.UnitViews.{locals_of}
use Rattle.lt_unit.proofs.items.all_created.Given as goal

abbrev pub invariant-loop-local : goal.invariant-loop-local
invariant-loop-local l = (types : List CType) (rest : e.Items) → before (view.item_before types) l.all.items rest ≡ typing.locals_before (locals_of types l.yielded) rest
