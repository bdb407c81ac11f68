-- The values of typed statements, and of how objects start, that lie in memory, where types stand in a table.
use Rattle.std.specs.Prelude.{List, [], ◌∷◌, Option, map, option_map}
use Rattle.std.specs.Global.{Box}
use Rattle.lt_tree.specs.declared.typed.tree.Value.{Value}
use Rattle.lt_tree.specs.declared.typed.statement.StartPart.{StartPart}
use Rattle.lt_tree.specs.declared.typed.statement.StartPart.TheVariants as part
use Rattle.lt_tree.specs.declared.typed.statement.Start.{Start}
use Rattle.lt_tree.specs.declared.typed.statement.Local.{Local}
use Rattle.lt_tree.specs.declared.typed.statement.ForStart.{ForStart}
use Rattle.lt_tree.specs.declared.typed.statement.ForStart.TheVariants as start
use Rattle.lt_tree.specs.declared.typed.statement.Label.{Label}
use Rattle.lt_tree.specs.declared.typed.statement.Label.TheVariants as label
use Rattle.lt_tree.specs.declared.typed.statement.Statement.{Statement}
use Rattle.lt_tree.specs.declared.typed.statement.Case.{Case}
use Rattle.lt_tree.specs.declared.typed.statement.Item.{Item}
use Rattle.lt_tree.specs.declared.typed.statement.Item.TheBlock as at
use Rattle.lt_tree.specs.Typing.Types.{CType}
use Rattle.lt_tree.specs.Typing.TypeRows.{type_in}
use Rattle.lt_tree.specs.Typing.ConstancyView.{constancy_of}
use Rattle.lt_tree.specs.Typing.ValueView.{value_of, mark_of}
use Rattle.lt_tree.specs.Typing.TypedTree as e

-- ---- how objects start

abbrev pub start_part_of : List CType → StartPart → e.StartPart
start_part_of types (part.Stored offset value) = e.stored offset (value_of types value.value)
start_part_of types (part.Fixed offset ty content) = e.fixed offset (type_in types ty) (constancy_of content)
start_part_of types (part.Letters offset ty bytes) = e.letters offset ty bytes

abbrev pub start_of : List CType → Start → e.Start
start_of types s = record { zeroed = s.zeroed; parts = map (start_part_of types) s.parts.items }

abbrev pub local_of : List CType → Local → e.Local
local_of types l = record { object = l.object; start = option_map (start_of types) l.start }

-- ---- statements

abbrev pub for_start_of : List CType → ForStart → e.ForStart
for_start_of types start.Nothing = e.Nothing
for_start_of types (start.First value) = e.First (value_of types value.value)
for_start_of types (start.Locals locals) = e.Locals (map (local_of types) locals.items)

abbrev pub label_of : Label → e.Label
label_of (label.Case z) = e.Case z
label_of label.Default = e.Default

-- a value that may be left out
abbrev pub maybe_of : List CType → Option (Box Value) → Option e.Value
maybe_of types value = option_map (λ v. value_of types v.value) value

abbrev mutual
  pub statement_of : List CType → Statement → e.Statement
  statement_of types (at.Compound' shape items) = e.Compound (items_of types items)
  statement_of types (at.Evaluates value) = e.Evaluates (value_of types value.value)
  statement_of types at.Null = e.Null
  statement_of types (at.If' test p body) = e.If (value_of types test.value) (statement_of types body)
  statement_of types (at.IfElse' test p body q other) = e.IfElse (value_of types test.value) (statement_of types body) (statement_of types other)
  statement_of types (at.While' test p body) = e.While (value_of types test.value) (statement_of types body)
  statement_of types (at.Do' p body test) = e.Do (statement_of types body) (value_of types test.value)
  statement_of types (at.For' start test step p body) = e.For (for_start_of types start) (maybe_of types test) (maybe_of types step) (statement_of types body)
  statement_of types (at.Switch' operand shape cases) = e.Switch (value_of types operand.value) (cases_of types cases)
  statement_of types at.Break = e.Break
  statement_of types at.Continue = e.Continue
  statement_of types (at.Return value) = e.Return (maybe_of types value)

  pub items_of : {m : _} → List CType → at.Row_of-Item m → e.Items
  items_of types at.end_of-Item = e.no_items
  items_of types (at.more_of-Item first rest) = item_before types first (items_of types rest)

  pub item_before : List CType → Item → e.Items → e.Items
  item_before types (at.Local local) rest = e.a_local (local_of types local) rest
  item_before types (at.Statement statement) rest = e.a_statement (statement_of types statement) rest
  item_before types (at.Label mark) rest = e.a_label (mark_of types mark) rest

  pub cases_of : {m : _} → List CType → at.Row_of-Case m → e.Cases
  cases_of types at.end_of-Case = e.no_cases
  cases_of types (at.more_of-Case labels statement rest) = e.a_case (map label_of labels.items) (statement_of types statement) (cases_of types rest)

abbrev pub items_in : List CType → List Item → e.Items
items_in types [] = e.no_items
items_in types (first ∷ rest) = item_before types first (items_in types rest)

abbrev pub cases_in : List CType → List Case → e.Cases
cases_in types [] = e.no_cases
cases_in types (first ∷ rest) = e.a_case (map label_of first.labels.items) (statement_of types first.statement) (cases_in types rest)
