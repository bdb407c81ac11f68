-- What is listed inside of initialisers, statements and externals.
use Rattle.std.proofs.Common.{◌≡◌, refl, sym, ap, ◌∙◌, List, [], ◌∷◌, ◌++◌}
use Rattle.std.specs.Global.{Vec}
use Rattle.lt_tree.specs.declared.expression.Expr.{Expr}
use Rattle.lt_tree.specs.declared.declaration.Initialiser.{Initialiser}
use Rattle.lt_tree.specs.declared.declaration.Initialiser.TheVariants as form
use Rattle.lt_tree.specs.declared.statement.Item.{Item}
use Rattle.lt_tree.specs.declared.statement.Item.TheBlock as at
use Rattle.lt_tree.specs.declared.statement.Label.{Label}
use Rattle.lt_tree.specs.declared.statement.Label.TheVariants as label
use Rattle.lt_tree.specs.declared.statement.Stmt.{Stmt}
use Rattle.lt_tree.specs.declared.statement.Stmt.TheVariants as variant
use Rattle.lt_tree.specs.declared.statement.SwitchCase.{SwitchCase}
use Rattle.lt_tree.specs.declared.declaration.Declaration.{Declaration}
use Rattle.lt_tree.specs.declared.unit.External.{External}
use Rattle.lt_tree.specs.declared.unit.External.TheVariants as external
use Rattle.lt_tree.specs.declared.unit.FunctionDefinition.{FunctionDefinition}
use Rattle.lt_tree.specs.Tree as c
use Rattle.lt_tree.specs.View.{expression_of}
use Rattle.lt_tree.specs.Records.{specifiers_of, declarator_of}
use Rattle.lt_tree.specs.UnitView.{initialiser_of, initialisers_in, declaration_of, external_of, label_of, statement_of, item_before, items_in, cases_in}
use Rattle.lt_tree.specs.Nodes.{Node, an_external, an_initialiser, a_label, a_statement, in_expression, in_specifiers, in_declarator, in_initialisers, in_declaration, in_label, in_items, in_cases, in_external}
use Rattle.lt_tree.proofs.UnitRows.{braces_is, compound_is, switch_is}
use Rattle.lt_sites.specs.Sites.{in_node}
use Rattle.lt_sites.specs.Listed.{inside, item_of}

pub braces_within : (i : Initialiser) (v : Vec Initialiser) (list : List Initialiser) → i ≡ form.List v → list ≡ v.items → in_initialisers (initialisers_in list) ≡ inside (an_initialiser (initialiser_of i))
braces_within i v list is items = ap (λ xs. in_initialisers (initialisers_in xs)) items ∙ sym (ap (λ z. inside (an_initialiser (initialiser_of z))) is ∙ ap (λ x. inside (an_initialiser x)) (braces_is v))

pub case_node : (l : Label) (e : Expr) → l ≡ label.Case e → in_label (label_of l) ≡ a_label (label_of l) ∷ in_expression (expression_of e)
case_node l e is = ap (λ z. in_label (label_of z)) is ∙ sym (ap (λ z. a_label (label_of z) ∷ in_expression (expression_of e)) is)

pub default_node : (l : Label) → l ≡ label.Default → in_label (label_of l) ≡ a_label (label_of l) ∷ []
default_node l is = ap (λ z. in_label (label_of z)) is ∙ sym (ap (λ z. a_label (label_of z) ∷ []) is)

-- what is inside of a statement in memory
abbrev pub within : Stmt → List Node
within x = inside (a_statement (statement_of x))

pub compound_within : (x : Stmt) (v : Vec Item) (list : List Item) → x ≡ variant.Compound v → list ≡ v.items → in_items (items_in list) ≡ within x
compound_within x v list is items = ap (λ xs. in_items (items_in xs)) items ∙ sym (ap within is ∙ ap (λ y. inside (a_statement y)) (compound_is v))

pub switch_within : (x : Stmt) (e : Expr) (v : Vec SwitchCase) (list : List SwitchCase) → x ≡ variant.Switch e v → list ≡ v.items → in_expression (expression_of e) ++ in_cases (cases_in list) ≡ within x
switch_within x e v list is items =
    ap (λ xs. in_expression (expression_of e) ++ in_cases (cases_in xs)) items ∙ sym (ap within is ∙ ap (λ y. inside (a_statement y)) (switch_is e v))

pub items_more : (i : Item) (rest : c.Items) → in_items (item_before i rest) ≡ in_node (item_of i) ++ in_items rest
items_more (at.Declaration d) rest = refl
items_more (at.Statement x) rest = refl
items_more (at.Mark m) rest = refl

pub function_node : (x : External) (f : FunctionDefinition) → x ≡ external.Function f
    → in_external (external_of x) ≡ an_external (external_of x) ∷ in_specifiers (specifiers_of f.specifiers) ++ in_declarator (declarator_of f.declarator) ++ in_items (items_in f.body.items)
function_node x f is =
    ap (λ z. in_external (external_of z)) is
    ∙ sym (ap (λ z. an_external (external_of z) ∷ in_specifiers (specifiers_of f.specifiers) ++ in_declarator (declarator_of f.declarator) ++ in_items (items_in f.body.items)) is)

pub declaration_node : (x : External) (d : Declaration) → x ≡ external.Declaration d → in_external (external_of x) ≡ an_external (external_of x) ∷ in_declaration (declaration_of d)
declaration_node x d is = ap (λ z. in_external (external_of z)) is ∙ sym (ap (λ z. an_external (external_of z) ∷ in_declaration (declaration_of d)) is)
