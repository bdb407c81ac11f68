-- What walks do in rows and inside of nodes.
use Rattle.std.proofs.Common.{◌≡◌, refl, sym, ap, subst, ◌∙◌, ℕ, suc, ◌-◌, ◌<◌, ◌≤◌, List, ◌∷◌, [], length, drop, get_or, drop-cons, Option, Some, None, option_map, Result, arith}
use Rattle.std.specs.Result.{IfOk}
use Rattle.std.specs.Global.{Box, Vec}
use Rattle.lt_tree.specs.declared.expression.Expr.{Expr}
use Rattle.lt_tree.specs.declared.declaration.Initialiser.{Initialiser}
use Rattle.lt_tree.specs.declared.declaration.Initialiser.TheVariants as form
use Rattle.lt_tree.specs.declared.statement.ForStart.{ForStart}
use Rattle.lt_tree.specs.declared.statement.Label.{Label}
use Rattle.lt_tree.specs.declared.statement.Label.TheVariants as label
use Rattle.lt_tree.specs.declared.statement.Item.{Item}
use Rattle.lt_tree.specs.declared.statement.Item.TheBlock as at
use Rattle.lt_tree.specs.declared.statement.Stmt.{Stmt}
use Rattle.lt_tree.specs.declared.statement.Stmt.TheVariants as variant
use Rattle.lt_tree.specs.declared.statement.SwitchCase.{SwitchCase}
use Rattle.lt_tree.specs.declared.declaration.Declaration.{Declaration}
use Rattle.lt_tree.specs.declared.unit.External.{External}
use Rattle.lt_tree.specs.declared.unit.External.TheVariants as external
use Rattle.lt_tree.specs.declared.unit.FunctionDefinition.{FunctionDefinition}
use Rattle.lt_tree.specs.Tree as c
use Rattle.lt_tree.specs.Records.{specifiers_of, declarator_of}
use Rattle.lt_tree.specs.View.{expression_of}
use Rattle.lt_tree.specs.UnitView.{initialiser_of, initialisers_in, declaration_of, external_of, start_of, label_of, statement_of, item_before, items_in, cases_in}
use Rattle.lt_tree.proofs.UnitRows.{braces_is, compound_is, switch_is}
use Rattle.lt_expr.specs.Walk.{Walked, node, last_end, walk, walk_specifiers, walk_declarator}
use Rattle.lt_expr.specs.Inside.{inside}
use Rattle.lt_decl.specs.Items as read
use Rattle.lt_decl.specs.ItemView.{item_of}
use Rattle.lt_decl.specs.Walk.{walk_initialiser, walk_initialisers, walk_declaration, walk_optional, walk_start, walk_labels, walk_statement, walk_items, walk_cases, walk_item, walk_external}

-- the answer of a call that ensures the same
pub ok_then : {A E : Type 0} (r : Result A E) (x : Walked) {a b : Walked} → IfOk r (λ _. x ≡ a) → a ≡ b → IfOk r (λ _. x ≡ b)
ok_then r x h e = subst (λ (y : Walked). IfOk r (λ _. x ≡ y)) e h

-- a row that was walked from its end to its front
pub walked_whole : {X : Type 0} (walks : List X → Walked → Walked) (list : List X) (at : ℕ) (w now : Walked) → at ≤ 0 → now ≡ walks (drop at list) w → now ≡ walks list w
walked_whole walks list at w now none is =
    let first : at ≡ 0 = omega arith in
    is ∙ ap (λ n. walks (drop n list) w) first

-- ---- nodes

-- a node that was gone into, walked inside and left
pub left_is : (within : Walked → Walked) (w entered walked : Walked) (start : ℕ) → start ≡ last_end w.0 → entered ≡ (drop 1 w.0, w.1) → walked ≡ within entered → (walked.0, start ∷ walked.1) ≡ node within w
left_is within w entered walked start is goes in_it =
    ap (λ (v : Walked). (v.0, start ∷ v.1)) (in_it ∙ ap within goes)
    ∙ ap (λ s. ((within (drop 1 w.0, w.1)).0, s ∷ (within (drop 1 w.0, w.1)).1)) is

pub initialiser_node : (i : c.Initialiser) (w : Walked) → node (inside (walk_initialiser i)) w ≡ walk_initialiser i w
initialiser_node (c.Value e) w = refl
initialiser_node (c.Braces parts) w = refl

pub label_node : (l : c.Label) (w : Walked) → node (inside (walk_labels (l ∷ []))) w ≡ walk_labels (l ∷ []) w
label_node (c.Case e) w = refl
label_node c.Default w = refl

pub statement_node : (x : c.Statement) (w : Walked) → node (inside (walk_statement x)) w ≡ walk_statement x w
statement_node (c.Compound items) w = refl
statement_node (c.Evaluates e) w = refl
statement_node c.Null w = refl
statement_node (c.If test body) w = refl
statement_node (c.IfElse test body other) w = refl
statement_node (c.While test body) w = refl
statement_node (c.Do body test) w = refl
statement_node (c.For start test step body) w = refl
statement_node (c.Switch operand cases) w = refl
statement_node c.Break w = refl
statement_node c.Continue w = refl
statement_node (c.Return value) w = refl

pub item_node : (i : read.Item) (w : Walked) → node (inside (walk_item i)) w ≡ walk_item i w
item_node (read.declared d) w = refl
item_node (read.stated x) w = refl
item_node (read.marked m) w = refl

pub external_node : (x : c.External) (w : Walked) → node (inside (walk_external x)) w ≡ walk_external x w
external_node (c.Defines s d body) w = refl
external_node (c.Declared d) w = refl

-- ---- inside of an initialiser

pub value_walked : (i : Initialiser) (e : Expr) (w : Walked) → i ≡ form.Expression e → walk (expression_of e) w ≡ inside (walk_initialiser (initialiser_of i)) w
value_walked i e w is = sym (ap (λ z. inside (walk_initialiser (initialiser_of z)) w) is)

pub braces_walked : (i : Initialiser) (v : Vec Initialiser) (list : List Initialiser) (w : Walked) → i ≡ form.List v → list ≡ v.items → walk_initialisers (initialisers_in list) w ≡ inside (walk_initialiser (initialiser_of i)) w
braces_walked i v list w is items =
    ap (λ xs. walk_initialisers (initialisers_in xs) w) items ∙ sym (ap (λ z. inside (walk_initialiser (initialiser_of z)) w) is ∙ ap (λ x. inside (walk_initialiser x) w) (braces_is v))

pub case_walked : (l : Label) (e : Expr) (w : Walked) → l ≡ label.Case e → walk (expression_of e) w ≡ inside (walk_labels (label_of l ∷ [])) w
case_walked l e w is = sym (ap (λ z. inside (walk_labels (label_of z ∷ [])) w) is)

-- ---- inside of a statement

abbrev pub within : Stmt → Walked → Walked
within x w = inside (walk_statement (statement_of x)) w

pub compound_walked : (x : Stmt) (v : Vec Item) (list : List Item) (w : Walked) → x ≡ variant.Compound v → list ≡ v.items → walk_items (items_in list) w ≡ within x w
compound_walked x v list w is items =
    ap (λ xs. walk_items (items_in xs) w) items ∙ sym (ap (λ z. within z w) is ∙ ap (λ y. inside (walk_statement y) w) (compound_is v))

pub evaluates_walked : (x : Stmt) (e : Expr) (w : Walked) → x ≡ variant.Expression e → walk (expression_of e) w ≡ within x w
evaluates_walked x e w is = sym (ap (λ z. within z w) is)

pub if_walked : (x : Stmt) (test : Expr) (b : Box Stmt) (other : Option (Box Stmt)) (body : Stmt) (w first : Walked) → x ≡ variant.If test b other → other ≡ None → body ≡ b.value
    → first ≡ walk_statement (statement_of body) w → walk (expression_of test) first ≡ within x w
if_walked x test b other body w first is none same before =
    ap (walk (expression_of test)) (before ∙ ap (λ z. walk_statement (statement_of z) w) same) ∙ sym (ap (λ z. within z w) is ∙ ap (λ o. within (variant.If test b o) w) none)

pub if_else_walked : (x : Stmt) (test : Expr) (b o : Box Stmt) (other : Option (Box Stmt)) (body otherwise : Stmt) (w first second : Walked) → x ≡ variant.If test b other → other ≡ Some o → body ≡ b.value → otherwise ≡ o.value
    → first ≡ walk_statement (statement_of otherwise) w → second ≡ walk_statement (statement_of body) first → walk (expression_of test) second ≡ within x w
if_else_walked x test b o other body otherwise w first second is some same also before next =
    ap (walk (expression_of test)) (next ∙ ap (λ z. walk_statement (statement_of z) first) same ∙ ap (walk_statement (statement_of b.value)) (before ∙ ap (λ z. walk_statement (statement_of z) w) also))
    ∙ sym (ap (λ z. within z w) is ∙ ap (λ o. within (variant.If test b o) w) some)

pub while_walked : (x : Stmt) (test : Expr) (b : Box Stmt) (body : Stmt) (w first : Walked) → x ≡ variant.While test b → body ≡ b.value → first ≡ walk_statement (statement_of body) w → walk (expression_of test) first ≡ within x w
while_walked x test b body w first is same before =
    ap (walk (expression_of test)) (before ∙ ap (λ z. walk_statement (statement_of z) w) same) ∙ sym (ap (λ z. within z w) is)

pub do_walked : (x : Stmt) (b : Box Stmt) (test : Expr) (body : Stmt) (w first : Walked) → x ≡ variant.Do b test → body ≡ b.value → first ≡ walk (expression_of test) w → walk_statement (statement_of body) first ≡ within x w
do_walked x b test body w first is same before =
    ap (λ z. walk_statement (statement_of z) first) same ∙ ap (walk_statement (statement_of b.value)) before ∙ sym (ap (λ z. within z w) is)

pub for_walked : (x : Stmt) (start : ForStart) (test step : Option Expr) (b : Box Stmt) (body : Stmt) (w first second third : Walked) → x ≡ variant.For start test step b → body ≡ b.value
    → first ≡ walk_statement (statement_of body) w → second ≡ walk_optional (option_map expression_of step) first → third ≡ walk_optional (option_map expression_of test) second
    → walk_start (start_of start) third ≡ within x w
for_walked x start test step b body w first second third is same one two three =
    ap (walk_start (start_of start)) (three ∙ ap (walk_optional (option_map expression_of test)) (two ∙ ap (walk_optional (option_map expression_of step)) (one ∙ ap (λ z. walk_statement (statement_of z) w) same)))
    ∙ sym (ap (λ z. within z w) is)

pub switch_walked : (x : Stmt) (e : Expr) (v : Vec SwitchCase) (list : List SwitchCase) (w first : Walked) → x ≡ variant.Switch e v → list ≡ v.items → first ≡ walk_cases (cases_in list) w → walk (expression_of e) first ≡ within x w
switch_walked x e v list w first is items before =
    ap (walk (expression_of e)) (before ∙ ap (λ xs. walk_cases (cases_in xs) w) items) ∙ sym (ap (λ z. within z w) is ∙ ap (λ y. inside (walk_statement y) w) (switch_is e v))

pub return_walked : (x : Stmt) (value : Option Expr) (w : Walked) → x ≡ variant.Return value → walk_optional (option_map expression_of value) w ≡ within x w
return_walked x value w is = sym (ap (λ z. within z w) is)

-- an item before others
pub item_first : (i : Item) (rest : c.Items) (w : Walked) → walk_items (item_before i rest) w ≡ walk_item (item_of i) (walk_items rest w)
item_first (at.Declaration d) rest w = refl
item_first (at.Statement x) rest w = refl
item_first (at.Mark m) rest w = refl

pub walked_item : (list : List Item) (k : ℕ) (i : Item) (w now next : Walked) → 0 < k → k ≤ length list → i ≡ get_or list (k - 1) i → now ≡ walk_items (items_in (drop k list)) w
    → next ≡ walk_item (item_of i) now → next ≡ walk_items (items_in (drop (k - 1) list)) w
walked_item list k i w now next some all is before one =
    let less = k - 1 in
    let more : suc less ≡ k = omega arith in
    let there : less < length list = omega arith in
    let split : drop less list ≡ i ∷ drop k list = drop-cons list less i there ∙ ap (λ x. x ∷ drop (suc less) list) (sym is) ∙ ap (λ n. i ∷ drop n list) more in
    one ∙ ap (walk_item (item_of i)) before
    ∙ sym (item_first i (items_in (drop k list)) w)
    ∙ sym (ap (λ xs. walk_items (items_in xs) w) split)

-- ---- inside of an external

pub function_walked : (x : External) (f : FunctionDefinition) (w : Walked) → x ≡ external.Function f
    → walk_specifiers (specifiers_of f.specifiers) (walk_declarator (declarator_of f.declarator) (walk_items (items_in f.body.items) w)) ≡ inside (walk_external (external_of x)) w
function_walked x f w is = sym (ap (λ z. inside (walk_external (external_of z)) w) is)

pub declaration_walked : (x : External) (d : Declaration) (w : Walked) → x ≡ external.Declaration d → walk_declaration (declaration_of d) w ≡ inside (walk_external (external_of x)) w
declaration_walked x d w is = sym (ap (λ z. inside (walk_external (external_of z)) w) is)
