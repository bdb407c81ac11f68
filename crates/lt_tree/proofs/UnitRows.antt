-- What initialisers and statements hold in rows, as lists.
use Rattle.std.proofs.Common.{◌≡◌, refl, ap, ◌∙◌, map}
use Rattle.std.specs.Global.{Vec}
use Rattle.lt_tree.specs.declared.declaration.Initialiser.{Initialiser}
use Rattle.lt_tree.specs.declared.declaration.Initialiser as initialiser
use Rattle.lt_tree.specs.declared.declaration.Initialiser.TheBlock as init
use Rattle.lt_tree.specs.declared.statement.Item.{Item}
use Rattle.lt_tree.specs.declared.statement.Item.TheBlock as at
use Rattle.lt_tree.specs.declared.statement.Stmt as stmt
use Rattle.lt_tree.specs.declared.statement.SwitchCase.{SwitchCase}
use Rattle.lt_tree.specs.declared.declaration.Initialiser.TheVariants as form
use Rattle.lt_tree.specs.declared.expression.Expr.{Expr}
use Rattle.lt_tree.specs.declared.statement.Stmt.TheVariants as variant
use Rattle.lt_tree.specs.Tree as t
use Rattle.lt_tree.specs.View.{expression_of}
use Rattle.lt_tree.specs.UnitView.{initialiser_of, initialisers_of, initialisers_in, label_of, statement_of, item_before, items_of, items_in, cases_of, cases_in}

initialisers_row : {n : _} → (row : init.Row_of-Initialiser n) → initialisers_of row ≡ initialisers_in (init.items-the_row-Initialiser n row)
initialisers_row init.end_of-Initialiser = refl
initialisers_row (init.more_of-Initialiser first rest) = ap (t.an_initialiser (initialiser_of first)) (initialisers_row rest)

pub initialisers_are : (v : Vec Initialiser) → initialisers_of (init.hidden-the_row-Initialiser-0 v) ≡ initialisers_in v.items
initialisers_are v = initialisers_row (init.hidden-the_row-Initialiser-0 v) ∙ ap initialisers_in (initialiser.items_hidden-the_row-Initialiser-0 v)

items_row : {n : _} → (row : at.Row_of-Item n) → items_of row ≡ items_in (at.items-the_row-Item n row)
items_row at.end_of-Item = refl
items_row (at.more_of-Item first rest) = ap (item_before first) (items_row rest)

pub items_are : (v : Vec Item) → items_of (at.hidden-the_row-Item-0 v) ≡ items_in v.items
items_are v = items_row (at.hidden-the_row-Item-0 v) ∙ ap items_in (stmt.items_hidden-the_row-Item-0 v)

cases_row : {n : _} → (row : at.Row_of-SwitchCase n) → cases_of row ≡ cases_in (at.items-the_row-SwitchCase n row)
cases_row at.end_of-SwitchCase = refl
cases_row (at.more_of-SwitchCase labels statement rest) = ap (t.a_case (map label_of labels.items) (statement_of statement)) (cases_row rest)

pub cases_are : (v : Vec SwitchCase) → cases_of (at.hidden-the_row-SwitchCase-1 v) ≡ cases_in v.items
cases_are v = cases_row (at.hidden-the_row-SwitchCase-1 v) ∙ ap cases_in (stmt.items_hidden-the_row-SwitchCase-1 v)

pub braces_is : (v : Vec Initialiser) → initialiser_of (form.List v) ≡ t.Braces (initialisers_in v.items)
braces_is v = ap t.Braces (initialisers_are v)

pub compound_is : (v : Vec Item) → statement_of (variant.Compound v) ≡ t.Compound (items_in v.items)
compound_is v = ap t.Compound (items_are v)

pub switch_is : (e : Expr) (v : Vec SwitchCase) → statement_of (variant.Switch e v) ≡ t.Switch (expression_of e) (cases_in v.items)
switch_is e v = ap (t.Switch (expression_of e)) (cases_are v)
