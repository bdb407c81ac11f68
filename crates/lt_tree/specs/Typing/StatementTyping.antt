-- The typing of statements, C11 6.8. A statement is judged where it ends; so what its body breaks comes before what its test does.
use Rattle.std.specs.Prelude.{ℕ, ℤ, Bool, true, false, not, ◌||◌, if◌then◌else◌, List, [], ◌∷◌, ◌++◌, Option, Some, None, option_map}
use Rattle.std.specs.Ordering.{int_eq}
use Rattle.std.specs.List.{list_any}
use Rattle.lt_model.specs.declared.scalar.DataModel.{DataModel}
use Rattle.lt_model.specs.declared.scalar.Scalar.{Scalar}
use Rattle.lt_model.specs.Scalar.{convert_of}
use Rattle.lt_model.specs.Conversions.{promoted}
use Rattle.lt_tree.specs.Tree as c
use Rattle.lt_tree.specs.Typing.Types.{CType, unqualified, scalar_of, is_void, is_integer, is_scalar}
use Rattle.lt_tree.specs.Typing.Constants.{number}
use Rattle.lt_tree.specs.Typing.Rules.{Rule, broken_if, unless, not_scalar, bad_assignment, bad_case, stray_jump, bad_return}
use Rattle.lt_tree.specs.Typing.TypedTree as e
use Rattle.lt_tree.specs.Typing.TypedTree.{Value, Local}
use Rattle.lt_tree.specs.Typing.Steps.{Walk, ◌>>=◌, ◌>>◌, gives, here, enter, settle, in_block, without_marks}
use Rattle.lt_tree.specs.Typing.Expressions.{Typed, as_value, as_truth, own_type, value_in, converted_to}
use Rattle.lt_tree.specs.Typing.Operations.{fits, promoted_value}
use Rattle.lt_tree.specs.Typing.ExpressionTyping.{expression, mark}
use Rattle.lt_tree.specs.Typing.DeclarationTyping.{declaration, declaration_in_for}

-- what stands around a statement: the function's type of value, loops and switches
pub record Around : Type 0 where
  pub result : CType
  pub in_loop : Bool
  pub in_switch : Bool

abbrev pub in_a_loop : Around → Around
in_a_loop around = record around { in_loop = true }

abbrev pub in_a_switch : Around → Around
in_a_switch around = record around { in_switch = true }

-- ---- tests

abbrev pub test_faults : Typed → List Rule
test_faults x = unless (is_scalar (own_type x)) not_scalar

abbrev pub optional_test_faults : Option Typed → List Rule
optional_test_faults None = []
optional_test_faults (Some x) = test_faults x

abbrev pub optional_expression : Option c.Expression → Walk (Option Typed)
optional_expression None = gives None
optional_expression (Some it) = expression it as_value >>= (λ x. gives (Some x))

abbrev pub optional_test : Option c.Expression → Walk (Option Typed)
optional_test None = gives None
optional_test (Some it) = expression it as_truth >>= (λ x. gives (Some x))

abbrev pub optional_value : Option Typed → Option Value
optional_value x = option_map value_in x

-- ---- the start of a `for`

pub record TypedStart : Type 0 where
  pub start : e.ForStart
  pub faults : List Rule

abbrev pub for_start : c.ForStart → Walk TypedStart
for_start c.Nothing = gives (record { start = e.Nothing; faults = [] })
for_start (c.First it) = expression it as_value >>= (λ x. gives (record { start = e.First (value_in x); faults = [] }))
for_start (c.Declares d) = declaration_in_for d >>= (λ it. gives (record { start = e.Locals it.locals; faults = it.faults }))

-- ---- `switch`, C11 6.8.4.2

-- the promoted type of the operand, if it is an integer
abbrev pub switch_type : DataModel → Typed → Option Scalar
switch_type m x = option_map (promoted m) (scalar_of (own_type x))

abbrev pub switch_value : DataModel → Typed → Value
switch_value m x = if is_integer (own_type x) then promoted_value m x else value_in x

-- what the labels before have
pub record Seen : Type 0 where
  pub values : List ℤ
  pub has_default : Bool

abbrev pub as_case : DataModel → Option Scalar → ℤ → ℤ
as_case m None z = z
as_case m (Some s) z = convert_of m s z

-- the value of a case, converted to the type of the switch, if it is an integer constant expression
abbrev pub case_value : DataModel → Option Scalar → Typed → Option ℤ
case_value m s x = elim (x.constancy) [ number z ↦ (if is_integer (own_type x) then Some (as_case m s z) else None) | _ ↦ None ]

abbrev pub is_new_case : Seen → Option ℤ → Bool
is_new_case seen None = false
is_new_case seen (Some z) = not (list_any (int_eq z) seen.values)

abbrev pub with_case : Seen → Option ℤ → Seen
with_case seen None = seen
with_case seen (Some z) = record seen { values = z ∷ seen.values }

abbrev pub case_label : Option ℤ → e.Label
case_label None = e.Default
case_label (Some z) = e.Case z

pub record Labelled : Type 0 where
  pub labels : List e.Label
  pub seen : Seen

abbrev pub label_before : e.Label → Labelled → Labelled
label_before label rest = record { labels = label ∷ rest.labels; seen = rest.seen }

-- The end of a case: its value is a constant and new. Gives the value.
abbrev pub end_of_case : ℕ → Option Scalar → Seen → Typed → Walk (Option ℤ)
end_of_case node s seen x = do
  known ← here
  settle node (unless (is_new_case seen (case_value known.model s x)) bad_case)
  gives (case_value known.model s x)

-- the labels of a statement
abbrev pub labels : List c.Label → Option Scalar → Seen → Walk Labelled
labels [] s seen = gives (record { labels = []; seen = seen })
labels (c.Case it ∷ rest) s seen = do
  node ← enter
  x ← without_marks (expression it as_value)
  z ← end_of_case node s seen x
  others ← labels rest s (with_case seen z)
  gives (label_before (case_label z) others)
labels (c.Default ∷ rest) s seen = do
  node ← enter
  settle node (broken_if bad_case seen.has_default)
  others ← labels rest s (record seen { has_default = true })
  gives (label_before e.Default others)

-- ---- `return`, C11 6.8.6.4

abbrev pub return_faults : CType → Option Typed → List Rule
return_faults result None = unless (is_void result) bad_return
return_faults result (Some x) = if is_void result then bad_return ∷ [] else unless (fits (unqualified result) x) bad_assignment

abbrev pub returned : CType → Option Typed → Option Value
returned result None = None
returned result (Some x) = Some (converted_to (unqualified result) (value_in x))

-- ---- statements

abbrev pub locals_before : List Local → e.Items → e.Items
locals_before [] items = items
locals_before (local ∷ locals) items = e.a_local local (locals_before locals items)

-- A statement that chooses or repeats is a block, and so is each of its statements, C11 6.8.4p3 and 6.8.5p5.
abbrev mutual
  pub statement : c.Statement → Around → Walk e.Statement
  statement (c.Compound list) around = do
    node ← enter
    typed_items ← in_block (items list around)
    gives (e.Compound typed_items)
  statement (c.Evaluates it) around = do
    node ← enter
    x ← expression it as_value
    gives (e.Evaluates (value_in x))
  statement c.Null around = do
    node ← enter
    gives e.Null
  statement (c.If test body) around = do
    node ← enter
    in_block (do
      x ← expression test as_truth
      first ← in_block (statement body around)
      settle node (test_faults x)
      gives (e.If (value_in x) first))
  statement (c.IfElse test body other) around = do
    node ← enter
    in_block (do
      x ← expression test as_truth
      first ← in_block (statement body around)
      second ← in_block (statement other around)
      settle node (test_faults x)
      gives (e.IfElse (value_in x) first second))
  statement (c.While test body) around = do
    node ← enter
    in_block (do
      x ← expression test as_truth
      first ← in_block (statement body (in_a_loop around))
      settle node (test_faults x)
      gives (e.While (value_in x) first))
  statement (c.Do body test) around = do
    node ← enter
    in_block (do
      first ← in_block (statement body (in_a_loop around))
      x ← expression test as_truth
      settle node (test_faults x)
      gives (e.Do first (value_in x)))
  statement (c.For start test step body) around = do
    node ← enter
    in_block (do
      begin ← for_start start
      x ← optional_test test
      y ← optional_expression step
      first ← in_block (statement body (in_a_loop around))
      settle node (begin.faults ++ optional_test_faults x)
      gives (e.For begin.start (optional_value x) (optional_value y) first))
  statement (c.Switch operand list) around = do
    node ← enter
    in_block (do
      x ← expression operand as_truth
      known ← here
      typed_cases ← cases list (switch_type known.model x) (record { values = []; has_default = false }) (in_a_switch around)
      settle node (test_faults x ++ unless (is_integer (own_type x)) bad_case)
      gives (e.Switch (switch_value known.model x) typed_cases))
  statement c.Break around = do
    node ← enter
    settle node (unless (around.in_loop || around.in_switch) stray_jump)
    gives e.Break
  statement c.Continue around = do
    node ← enter
    settle node (unless around.in_loop stray_jump)
    gives e.Continue
  statement (c.Return it) around = do
    node ← enter
    x ← optional_expression it
    settle node (return_faults around.result x)
    gives (e.Return (returned around.result x))

  -- the items of a block; each is a node beside the statement or the mark that it is
  pub items : c.Items → Around → Walk e.Items
  items c.no_items around = gives e.no_items
  items (c.a_declaration first rest) around = do
    node ← enter
    it ← declaration first
    settle node it.faults
    others ← items rest around
    gives (locals_before it.locals others)
  items (c.a_statement first rest) around = do
    node ← enter
    s ← statement first around
    others ← items rest around
    gives (e.a_statement s others)
  items (c.a_label first rest) around = do
    node ← enter
    m ← mark first
    others ← items rest around
    gives (e.a_label m others)

  -- the statements of a switch, with what the labels before have
  pub cases : c.Cases → Option Scalar → Seen → Around → Walk e.Cases
  cases c.no_cases s seen around = gives e.no_cases
  cases (c.a_case list first rest) s seen around = do
    it ← labels list s seen
    body ← in_block (statement first around)
    others ← cases rest s it.seen around
    gives (e.a_case it.labels body others)
