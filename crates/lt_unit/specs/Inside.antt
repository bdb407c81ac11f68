-- What stands inside the block that a statement is, once its node has begun, C11 6.8.4p3 and 6.8.5p5, and how its parts end.
use Rattle.std.specs.Prelude.{ℕ, Bool, false, if◌then◌else◌, List, [], ◌++◌, Option, Some, None}
use Rattle.lt_tree.specs.Tree as c
use Rattle.lt_tree.specs.Typing.Rules.{unless, bad_case}
use Rattle.lt_tree.specs.Typing.Types.{is_integer}
use Rattle.lt_tree.specs.Typing.TypedTree as e
use Rattle.lt_tree.specs.Typing.Entities.{Frame}
use Rattle.lt_tree.specs.Typing.Steps.{Walk, ◌>>=◌, ◌>>◌, gives, here, enter, changes, settle, within, in_block}
use Rattle.lt_tree.specs.Typing.Declaring.{Kind, with_start}
use Rattle.lt_tree.specs.Typing.Declarators.{Declares}
use Rattle.lt_tree.specs.Typing.InitialiserTyping.{Started}
use Rattle.lt_tree.specs.Typing.DeclarationTyping.{created, no_object, declare, declaration}
use Rattle.lt_tree.specs.Typing.Expressions.{Typed, as_truth, own_type, value_in}
use Rattle.lt_tree.specs.Typing.ExpressionTyping.{expression, mark}
use Rattle.lt_tree.specs.Typing.StatementTyping.{Around, in_a_loop, in_a_switch, test_faults, optional_test_faults, optional_expression, optional_test, optional_value, TypedStart, for_start, switch_type, switch_value, statement, cases}

abbrev pub if_end : ℕ → Typed → e.Statement → Walk e.Statement
if_end node x first = settle node (test_faults x) >> gives (e.If (value_in x) first)

abbrev pub if_inside : ℕ → c.Expression → c.Statement → Around → Walk e.Statement
if_inside node test body around = do
  x ← expression test as_truth
  first ← in_block (statement body around)
  if_end node x first

abbrev pub if_else_end : ℕ → Typed → e.Statement → e.Statement → Walk e.Statement
if_else_end node x first second = settle node (test_faults x) >> gives (e.IfElse (value_in x) first second)

abbrev pub if_else_inside : ℕ → c.Expression → c.Statement → c.Statement → Around → Walk e.Statement
if_else_inside node test body other around = do
  x ← expression test as_truth
  first ← in_block (statement body around)
  second ← in_block (statement other around)
  if_else_end node x first second

abbrev pub while_end : ℕ → Typed → e.Statement → Walk e.Statement
while_end node x first = settle node (test_faults x) >> gives (e.While (value_in x) first)

abbrev pub while_inside : ℕ → c.Expression → c.Statement → Around → Walk e.Statement
while_inside node test body around = do
  x ← expression test as_truth
  first ← in_block (statement body (in_a_loop around))
  while_end node x first

abbrev pub do_end : ℕ → e.Statement → Typed → Walk e.Statement
do_end node first x = settle node (test_faults x) >> gives (e.Do first (value_in x))

abbrev pub do_inside : ℕ → c.Statement → c.Expression → Around → Walk e.Statement
do_inside node body test around = do
  first ← in_block (statement body (in_a_loop around))
  x ← expression test as_truth
  do_end node first x

abbrev pub for_end : ℕ → TypedStart → Option Typed → Option Typed → e.Statement → Walk e.Statement
for_end node begin x y first = settle node (begin.faults ++ optional_test_faults x) >> gives (e.For begin.start (optional_value x) (optional_value y) first)

abbrev pub for_inside : ℕ → c.ForStart → Option c.Expression → Option c.Expression → c.Statement → Around → Walk e.Statement
for_inside node start test step body around = do
  begin ← for_start start
  x ← optional_test test
  y ← optional_expression step
  first ← in_block (statement body (in_a_loop around))
  for_end node begin x y first

abbrev pub switch_end : ℕ → Typed → e.Value → e.Cases → Walk e.Statement
switch_end node x operand typed_cases = settle node (test_faults x ++ unless (is_integer (own_type x)) bad_case) >> gives (e.Switch operand typed_cases)

abbrev pub switch_inside : ℕ → c.Expression → c.Cases → Around → Walk e.Statement
switch_inside node operand list around = do
  x ← expression operand as_truth
  known ← here
  typed_cases ← cases list (switch_type known.model x) (record { values = []; has_default = false }) (in_a_switch around)
  switch_end node x (switch_value known.model x) typed_cases

-- ---- declarations and items

-- an object starts so, from the start or where it is created
abbrev pub start_end : Bool → ℕ → Started → Walk (List e.Local)
start_end is_there n it = changes (with_start n (if is_there then Some it.start else None) it.type) >> gives (created is_there n (Some it.start))

-- what is so declared, if it has a name
abbrev pub declare_as : Kind → Declares → Option c.Initialiser → Walk (List e.Local)
declare_as kind declared i = elim (declared.name) [ None ↦ no_object i | Some name ↦ declare kind declared.node name declared.type i ]

abbrev pub declaration_item : c.Declaration → Walk (List e.Local)
declaration_item d = do
  node ← enter
  it ← declaration d
  settle node it.faults
  gives it.locals

abbrev pub statement_item : c.Statement → Around → Walk e.Statement
statement_item s around = do
  node ← enter
  statement s around

abbrev pub mark_item : c.Mark → Walk e.Mark
mark_item m = do
  node ← enter
  mark m

-- ---- bodies of functions

-- where the names of a frame are in scope
abbrev pub in_frame : {A : Type 0} → Frame → Walk A → Walk A
in_frame frame part = within frame part >>= (λ r. gives r.0)
