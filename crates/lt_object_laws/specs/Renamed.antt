-- Typed trees whose objects have other numbers.
use Rattle.std.specs.Prelude.{ℕ, zero, suc, Bool, true, false, List, [], ◌∷◌, map, Option, Some, None}
use Rattle.lt_tree.specs.Typing.Constants.{Constancy, address}
use Rattle.lt_tree.specs.Typing.TypedTree as e
use Rattle.lt_tree.specs.Typing.TypedTree.{Value, Values, Place, Marks, Mark, Bindings, Start, StartPart, Local, Statement, Items, Cases}
use Rattle.lt_tree.specs.Typing.Entities.{Object, Function}

-- The number that the n-th has once further ones stand among the others: each flag says of one, in order, whether it is a further one. Behind the
-- flags are no further ones.
abbrev pub renumbered : List Bool → ℕ → ℕ
renumbered [] n = n
renumbered (true ∷ further) n = suc (renumbered further n)
renumbered (false ∷ further) zero = zero
renumbered (false ∷ further) (suc n) = suc (renumbered further n)

-- ---- trees whose objects have the numbers that r gives

abbrev mutual
  pub value_with : (ℕ → ℕ) → Value → Value
  value_with r (e.Constant t z) = e.Constant t z
  value_with r (e.Load t p) = e.Load t (place_with r p)
  value_with r (e.Whole t p) = e.Whole t (place_with r p)
  value_with r (e.Decay t p) = e.Decay t (place_with r p)
  value_with r (e.AddressOf t p) = e.AddressOf t (place_with r p)
  value_with r (e.Convert how t v) = e.Convert how t (value_with r v)
  value_with r (e.Minus t v) = e.Minus t (value_with r v)
  value_with r (e.Complement t v) = e.Complement t (value_with r v)
  value_with r (e.Not t v) = e.Not t (value_with r v)
  value_with r (e.Arithmetic t op s a b) = e.Arithmetic t op s (value_with r a) (value_with r b)
  value_with r (e.Move t op size side a b) = e.Move t op size side (value_with r a) (value_with r b)
  value_with r (e.Distance t size a b) = e.Distance t size (value_with r a) (value_with r b)
  value_with r (e.Compare t op a b) = e.Compare t op (value_with r a) (value_with r b)
  value_with r (e.Logical t op a b) = e.Logical t op (value_with r a) (value_with r b)
  value_with r (e.Conditional t test a b) = e.Conditional t (value_with r test) (value_with r a) (value_with r b)
  value_with r (e.Assign t p v) = e.Assign t (place_with r p) (value_with r v)
  value_with r (e.Update t op s p v) = e.Update t op s (place_with r p) (value_with r v)
  value_with r (e.UpdatePointer t op size p v) = e.UpdatePointer t op size (place_with r p) (value_with r v)
  value_with r (e.Step t gives op s p) = e.Step t gives op s (place_with r p)
  value_with r (e.StepPointer t gives op size p) = e.StepPointer t gives op size (place_with r p)
  value_with r (e.Call t f vs) = e.Call t f (values_with r vs)
  value_with r (e.Comma t vs) = e.Comma t (values_with r vs)
  value_with r (e.Marked t ms v) = e.Marked t (marks_with r ms) (value_with r v)
  value_with r (e.Decide t v when_true when_false) = e.Decide t (value_with r v) when_true when_false
  value_with r (e.After t v id) = e.After t (value_with r v) id

  pub values_with : (ℕ → ℕ) → Values → Values
  values_with r e.no_values = e.no_values
  values_with r (e.a_value v vs) = e.a_value (value_with r v) (values_with r vs)

  pub place_with : (ℕ → ℕ) → Place → Place
  place_with r (e.Object t n) = e.Object t (r n)
  place_with r (e.Pointed t v) = e.Pointed t (value_with r v)
  place_with r (e.Element t size side a b) = e.Element t size side (value_with r a) (value_with r b)
  place_with r (e.Part t offset p) = e.Part t offset (place_with r p)
  place_with r (e.Held t v) = e.Held t (value_with r v)

  pub marks_with : (ℕ → ℕ) → Marks → Marks
  marks_with r e.no_marks = e.no_marks
  marks_with r (e.a_mark m ms) = e.a_mark (mark_with r m) (marks_with r ms)

  pub mark_with : (ℕ → ℕ) → Mark → Mark
  mark_with r (e.mark predicate id bound) = e.mark (value_with r predicate) id (bindings_with r bound)

  pub bindings_with : (ℕ → ℕ) → Bindings → Bindings
  bindings_with r e.no_bindings = e.no_bindings
  bindings_with r (e.a_binding name v rest) = e.a_binding name (value_with r v) (bindings_with r rest)

abbrev pub constancy_with : (ℕ → ℕ) → Constancy → Constancy
constancy_with r (address n offset) = address (r n) offset
constancy_with r c = c

abbrev pub part_with : (ℕ → ℕ) → StartPart → StartPart
part_with r (e.stored offset v) = e.stored offset (value_with r v)
part_with r (e.fixed offset t c) = e.fixed offset t (constancy_with r c)
part_with r (e.letters offset s bytes) = e.letters offset s bytes

abbrev pub parts_with : (ℕ → ℕ) → List StartPart → List StartPart
parts_with r [] = []
parts_with r (part ∷ parts) = part_with r part ∷ parts_with r parts

abbrev pub start_with : (ℕ → ℕ) → Option Start → Option Start
start_with r None = None
start_with r (Some start) = Some (record { zeroed = start.zeroed; parts = parts_with r start.parts })

abbrev pub local_with : (ℕ → ℕ) → Local → Local
local_with r local = record { object = r local.object; start = start_with r local.start }

abbrev pub locals_with : (ℕ → ℕ) → List Local → List Local
locals_with r [] = []
locals_with r (local ∷ locals) = local_with r local ∷ locals_with r locals

abbrev pub optional_with : (ℕ → ℕ) → Option Value → Option Value
optional_with r None = None
optional_with r (Some v) = Some (value_with r v)

abbrev pub for_start_with : (ℕ → ℕ) → e.ForStart → e.ForStart
for_start_with r e.Nothing = e.Nothing
for_start_with r (e.First v) = e.First (value_with r v)
for_start_with r (e.Locals locals) = e.Locals (locals_with r locals)

abbrev mutual
  pub statement_with : (ℕ → ℕ) → Statement → Statement
  statement_with r (e.Compound items) = e.Compound (items_with r items)
  statement_with r (e.Evaluates v) = e.Evaluates (value_with r v)
  statement_with r e.Null = e.Null
  statement_with r (e.If test body) = e.If (value_with r test) (statement_with r body)
  statement_with r (e.IfElse test body other) = e.IfElse (value_with r test) (statement_with r body) (statement_with r other)
  statement_with r (e.While test body) = e.While (value_with r test) (statement_with r body)
  statement_with r (e.Do body test) = e.Do (statement_with r body) (value_with r test)
  statement_with r (e.For start test step body) = e.For (for_start_with r start) (optional_with r test) (optional_with r step) (statement_with r body)
  statement_with r (e.Switch operand cases) = e.Switch (value_with r operand) (cases_with r cases)
  statement_with r e.Break = e.Break
  statement_with r e.Continue = e.Continue
  statement_with r (e.Return v) = e.Return (optional_with r v)

  pub items_with : (ℕ → ℕ) → Items → Items
  items_with r e.no_items = e.no_items
  items_with r (e.a_local local rest) = e.a_local (local_with r local) (items_with r rest)
  items_with r (e.a_statement first rest) = e.a_statement (statement_with r first) (items_with r rest)
  items_with r (e.a_label label rest) = e.a_label (mark_with r label) (items_with r rest)

  pub cases_with : (ℕ → ℕ) → Cases → Cases
  cases_with r e.no_cases = e.no_cases
  cases_with r (e.a_case labels first rest) = e.a_case labels (statement_with r first) (cases_with r rest)

-- ---- objects and functions

abbrev pub object_with : (ℕ → ℕ) → Object → Object
object_with r object = record object { start = start_with r object.start }

abbrev pub function_with : (ℕ → ℕ) → Function → Function
function_with r f = record f { parameters = map r f.parameters; body = items_with r f.body }
