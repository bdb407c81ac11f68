-- Initialisers and statements that hold others, without marks.
use Rattle.std.proofs.Common.{◌≡◌, sym, ap, ◌∙◌, subst, List}
use Rattle.std.specs.Prelude.{Result, IfOk}
use Rattle.std.specs.Global.{Vec}
use Rattle.lt_tree.specs.declared.declaration.Initialiser.{Initialiser}
use Rattle.lt_tree.specs.declared.declaration.Initialiser.TheVariants as form
use Rattle.lt_tree.specs.declared.expression.Expr.{Expr}
use Rattle.lt_tree.specs.declared.statement.Item.{Item}
use Rattle.lt_tree.specs.declared.statement.Stmt.{Stmt}
use Rattle.lt_tree.specs.declared.statement.Stmt.TheVariants as variant
use Rattle.lt_tree.specs.declared.statement.SwitchCase.{SwitchCase}
use Rattle.lt_tree.specs.Tree as t
use Rattle.lt_tree.specs.View.{expression_of}
use Rattle.lt_tree.specs.UnitView.{initialiser_of, initialisers_in, statement_of, items_in, cases_in}
use Rattle.lt_tree.specs.Erasure.{erased, erased_initialiser, erased_initialisers, erased_statement, erased_items, erased_cases}
use Rattle.lt_tree.proofs.UnitRows.{braces_is, compound_is, switch_is}

pub braces_erased : (i : Initialiser) (v : Vec Initialiser) (parts : t.Initialisers) → i ≡ form.List v → parts ≡ erased_initialisers (initialisers_in v.items) →
    t.Braces parts ≡ erased_initialiser (initialiser_of i)
braces_erased i v parts is p = ap t.Braces p ∙ sym (ap (λ x. erased_initialiser (initialiser_of x)) is ∙ ap erased_initialiser (braces_is v))

pub compound_erased : (s : Stmt) (v : Vec Item) (items : t.Items) → s ≡ variant.Compound v → items ≡ erased_items (items_in v.items) → t.Compound items ≡ erased_statement (statement_of s)
compound_erased s v items is p = ap t.Compound p ∙ sym (ap (λ x. erased_statement (statement_of x)) is ∙ ap erased_statement (compound_is v))

pub switch_erased : {E : Type 0} (s : Stmt) (e : Expr) (v : Vec SwitchCase) (list made : List SwitchCase) (r : Result Stmt E) → s ≡ variant.Switch e v → list ≡ v.items →
    cases_in made ≡ erased_cases (cases_in list) → IfOk r (λ all. statement_of all ≡ t.Switch (erased (expression_of e)) (cases_in made)) → IfOk r (λ all. statement_of all ≡ erased_statement (statement_of s))
switch_erased s e v list made r is same cases old =
    subst (λ x. IfOk r (λ all. statement_of all ≡ x))
    (ap (t.Switch (erased (expression_of e))) (cases ∙ ap (λ xs. erased_cases (cases_in xs)) same) ∙ sym (ap (λ x. erased_statement (statement_of x)) is ∙ ap erased_statement (switch_is e v))) old
