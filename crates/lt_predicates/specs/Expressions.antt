-- Expressions that lie in memory.
use Rattle.std.specs.Prelude.{◌≡◌, List, map, Result, IfOk}
use Rattle.std.specs.Borrow.{Bor}
use Rattle.std.specs.Global.{Vec}
use Rattle.lt_tree.specs.declared.expression.Expr.{Expr}
use Rattle.lt_tree.specs.Tree as t
use Rattle.lt_tree.specs.View.{expression_of}

abbrev pub expressions : Vec Expr → List t.Expression
expressions list = map expression_of list.items

-- that these expressions are made, if there is memory for them
abbrev pub Makes : {E : Type 0} → Result (Vec Expr) E → List t.Expression → Type 0
Makes made list = IfOk made (λ all. expressions all ≡ list)

-- those that are pointed to
abbrev pub pointed : List (Bor Expr) → List t.Expression
pointed list = map (λ e. expression_of e.now) list
