-- How a walk goes over declarations, statements and functions.
use Rattle.std.specs.Prelude.{◌≡◌, ℕ, ◌+◌, List, [], ◌∷◌, ◌++◌, length, map, take, drop, Option, Result, IfOk}
use Rattle.std.specs.List.{flat_map}
use Rattle.lt_tree.specs.declared.declaration.InitDeclarator.{InitDeclarator}
use Rattle.lt_tree.specs.declared.statement.Item.{Item}
use Rattle.lt_tree.specs.declared.statement.Stmt.{Stmt}
use Rattle.lt_tree.specs.declared.statement.SwitchCase.{SwitchCase}
use Rattle.lt_tree.specs.declared.unit.FunctionDefinition.{FunctionDefinition}
use Rattle.lt_tree.specs.Tree as c
use Rattle.lt_tree.specs.Records.{specifiers_of, declarator_of}
use Rattle.lt_tree.specs.UnitView.{init_declarator_of, label_of, statement_of, item_before, items_in}
use Rattle.lt_tree.specs.Nodes.{Node, a_declared_item, a_stated_item, a_marked_item, in_declarator, in_init_declarator, in_declaration, in_mark, in_label, in_optional, in_start, in_statement, in_external}
use Rattle.lt_objectives.specs.Marked.{NewMark, start_with_marks, for_start_with_marks, optional_with_marks, statement_with_marks, items_with_marks, external_with_marks, labels_before, after_leading}
use Rattle.lt_placing.specs.declared.walk.Walk.{Walk}
use Rattle.lt_placing.specs.Walks.{Passes, Gives}

-- a declarator with its initialiser
abbrev pub init_declarator_with_marks : List NewMark → ℕ → c.InitDeclarator → c.InitDeclarator
init_declarator_with_marks new k d = record { declarator = d.declarator; initialiser = start_with_marks new (k + length (in_declarator d.declarator)) d.initialiser }

abbrev pub GivesInitDeclarator : {E : Type 0} → Walk → Walk → Result InitDeclarator E → c.InitDeclarator → Type 0
GivesInitDeclarator before now result d = Gives before now result init_declarator_of (λ new k. init_declarator_with_marks new k d) (in_init_declarator d)

abbrev pub GivesStatement : {R E : Type 0} → Walk → Walk → Result R E → (R → Stmt) → c.Statement → Type 0
GivesStatement before now result held x = Gives before now result (λ made. statement_of (held made)) (λ new k. statement_with_marks new k x) (in_statement x)

-- what stands in the parentheses of a `for`, from this number, and its body
abbrev pub for_with_marks : List NewMark → ℕ → c.ForStart → (test step : Option c.Expression) → c.Statement → c.Statement
for_with_marks new k start test step x =
    let i = k + length (in_start start) in
    let j = i + length (in_optional test) in
    c.For (for_start_with_marks new k start) (optional_with_marks new i test) (optional_with_marks new j step) (statement_with_marks new (j + length (in_optional step)) x)

abbrev pub GivesFor : {E : Type 0} → Walk → Walk → Result Stmt E → c.ForStart → (test step : Option c.Expression) → c.Statement → Type 0
GivesFor before now result start test step x =
    Gives before now result statement_of (λ new k. for_with_marks new k start test step x) (in_start start ++ in_optional test ++ in_optional step ++ in_statement x)

-- the nodes of the first of these items
abbrev pub in_first_item : c.Items → List Node
in_first_item c.no_items = []
in_first_item (c.a_declaration d items) = a_declared_item d ∷ in_declaration d
in_first_item (c.a_statement x items) = a_stated_item x ∷ in_statement x
in_first_item (c.a_label m items) = a_marked_item m ∷ in_mark m

abbrev pub in_item : Item → List Node
in_item item = in_first_item (item_before item c.no_items)

-- an item, whatever items follow it
abbrev pub GivesItem : {E : Type 0} → Walk → Walk → Result Item E → Item → Type 0
GivesItem before now result item =
    IfOk result (λ made. Passes before now
    (λ new k. (rest : c.Items) → items_with_marks new k (item_before item rest) ≡ item_before made (items_with_marks new (k + length (in_item item)) rest)) (in_item item))

-- a statement in the body of a `switch`, and its labels as they are
abbrev pub GivesCase : {E : Type 0} → Walk → Walk → Result SwitchCase E → (labels : List c.Label) → c.Statement → Type 0
GivesCase before now result labels x =
    IfOk result (λ made. Passes before now
    (λ new k. (map label_of made.labels.items ≡ labels) × (statement_of made.statement ≡ statement_with_marks new (k + length (flat_map in_label labels)) x))
    (flat_map in_label labels ++ in_statement x))

-- a function with its marks
abbrev pub function_of : FunctionDefinition → c.External
function_of f = c.Defines (specifiers_of f.specifiers) (declarator_of f.declarator) (items_in f.body.items)

abbrev pub GivesFunction : {E : Type 0} → Walk → Walk → Result FunctionDefinition E → c.External → Type 0
GivesFunction before now result f = Gives before now result function_of (λ new k. external_with_marks new k f) (in_external f)

-- items before others
abbrev pub items_before : List Item → c.Items → c.Items
items_before [] rest = rest
items_before (item ∷ items) rest = item_before item (items_before items rest)

-- this many items are the marks with which a body begins
abbrev pub BeginsWithMarks : List Item → ℕ → Type 0
BeginsWithMarks items len = (marks : c.Marks) → after_leading marks (items_in items) ≡ items_before (take len items) (labels_before marks (items_in (drop len items)))
