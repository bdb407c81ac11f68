-- Statements that hold lists, as they lie in memory.
use Rattle.std.proofs.Common.{◌≡◌, List, sym, ap, ◌∙◌}
use Rattle.std.specs.Global.{Vec}
use Rattle.lt_tree.specs.declared.expression.Expr.{Expr}
use Rattle.lt_tree.specs.declared.statement.Item.{Item}
use Rattle.lt_tree.specs.declared.statement.Stmt.{Stmt}
use Rattle.lt_tree.specs.declared.statement.Stmt.TheVariants as variant
use Rattle.lt_tree.specs.declared.statement.SwitchCase.{SwitchCase}
use Rattle.lt_tree.specs.Tree as c
use Rattle.lt_tree.specs.View.{expression_of}
use Rattle.lt_tree.specs.UnitView.{statement_of, items_in, cases_in}
use Rattle.lt_tree.proofs.UnitRows.{compound_is, switch_is}

pub compound_seen : (s : Stmt) (v : Vec Item) (list : List Item) → s ≡ variant.Compound v → list ≡ v.items → c.Compound (items_in list) ≡ statement_of s
compound_seen s v list is all = ap (λ l. c.Compound (items_in l)) all ∙ sym (compound_is v) ∙ sym (ap statement_of is)

pub switch_seen : (s : Stmt) (e : Expr) (v : Vec SwitchCase) (list : List SwitchCase) → s ≡ variant.Switch e v → list ≡ v.items → c.Switch (expression_of e) (cases_in list) ≡ statement_of s
switch_seen s e v list is all = ap (λ l. c.Switch (expression_of e) (cases_in l)) all ∙ sym (switch_is e v) ∙ sym (ap statement_of is)
