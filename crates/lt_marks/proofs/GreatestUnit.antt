-- The greatest id of initialisers and statements that hold others.
use Rattle.std.proofs.Common.{◌≡◌, sym, ap, ◌∙◌, ℕ, max}
use Rattle.std.specs.Global.{Vec}
use Rattle.lt_tree.specs.declared.declaration.Initialiser.{Initialiser}
use Rattle.lt_tree.specs.declared.declaration.Initialiser.TheVariants as form
use Rattle.lt_tree.specs.declared.expression.Expr.{Expr}
use Rattle.lt_tree.specs.declared.statement.Item.{Item}
use Rattle.lt_tree.specs.declared.statement.Stmt.{Stmt}
use Rattle.lt_tree.specs.declared.statement.Stmt.TheVariants as variant
use Rattle.lt_tree.specs.declared.statement.SwitchCase.{SwitchCase}
use Rattle.lt_tree.specs.View.{expression_of}
use Rattle.lt_tree.specs.UnitView.{initialiser_of, initialisers_in, statement_of, items_in, cases_in}
use Rattle.lt_tree.specs.Ids.{greatest_id, ids_in, ids_in_initialiser, ids_in_initialisers, ids_in_statement, ids_in_items, ids_in_cases}
use Rattle.lt_marks.proofs.GreatestRows.{both}
use Rattle.lt_tree.proofs.UnitRows.{braces_is, compound_is, switch_is}

pub braces_ids : (i : Initialiser) (v : Vec Initialiser) → i ≡ form.List v → greatest_id (ids_in_initialisers (initialisers_in v.items)) ≡ greatest_id (ids_in_initialiser (initialiser_of i))
braces_ids i v is = sym (ap (λ x. greatest_id (ids_in_initialiser (initialiser_of x))) is ∙ ap (λ x. greatest_id (ids_in_initialiser x)) (braces_is v))

pub compound_ids : (s : Stmt) (v : Vec Item) → s ≡ variant.Compound v → greatest_id (ids_in_items (items_in v.items)) ≡ greatest_id (ids_in_statement (statement_of s))
compound_ids s v is = sym (ap (λ x. greatest_id (ids_in_statement (statement_of x))) is ∙ ap (λ x. greatest_id (ids_in_statement x)) (compound_is v))

pub switch_ids : (s : Stmt) (e : Expr) (v : Vec SwitchCase) (a b : ℕ) → s ≡ variant.Switch e v → a ≡ greatest_id (ids_in (expression_of e)) →
    b ≡ greatest_id (ids_in_cases (cases_in v.items)) → max a b ≡ greatest_id (ids_in_statement (statement_of s))
switch_ids s e v a b is p q = both a b _ _ p q ∙ sym (ap (λ x. greatest_id (ids_in_statement (statement_of x))) is ∙ ap (λ x. greatest_id (ids_in_statement x)) (switch_is e v))
