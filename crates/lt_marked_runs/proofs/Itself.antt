-- Trees whose objects keep their numbers.
use Rattle.std.proofs.Common.{◌≡◌, ℕ, List, [], ◌∷◌, map, Option, Some, None, refl}
use Rattle.lt_tree.specs.Typing.Constants.{Constancy, varying, faulty, number, null_constant, null_address, address}
use Rattle.lt_tree.specs.Typing.TypedTree as e
use Rattle.lt_tree.specs.Typing.TypedTree.{Value, Values, Place, Marks, Mark, Bindings, Statement, Items, Cases, Local, Start, StartPart}
use Rattle.lt_tree.specs.Typing.Entities.{Function, Object}
use Rattle.lt_object_laws.specs.Renamed.{value_with, values_with, place_with, marks_with, mark_with, bindings_with, constancy_with, part_with, parts_with, start_with, local_with, locals_with, optional_with, for_start_with, statement_with, items_with, cases_with, object_with, function_with}

-- the same numbers
abbrev pub same : ℕ → ℕ
same n = n

mutual
  itself : (v : Value) → value_with same v ≡ v
  itself (e.Constant t z) = refl
  itself (e.Load t p) = λ i. e.Load t (place_itself p i)
  itself (e.Whole t p) = λ i. e.Whole t (place_itself p i)
  itself (e.Decay t p) = λ i. e.Decay t (place_itself p i)
  itself (e.AddressOf t p) = λ i. e.AddressOf t (place_itself p i)
  itself (e.Convert how t v) = λ i. e.Convert how t (itself v i)
  itself (e.Minus t v) = λ i. e.Minus t (itself v i)
  itself (e.Complement t v) = λ i. e.Complement t (itself v i)
  itself (e.Not t v) = λ i. e.Not t (itself v i)
  itself (e.Arithmetic t op k a b) = λ i. e.Arithmetic t op k (itself a i) (itself b i)
  itself (e.Move t op size side a b) = λ i. e.Move t op size side (itself a i) (itself b i)
  itself (e.Distance t size a b) = λ i. e.Distance t size (itself a i) (itself b i)
  itself (e.Compare t op a b) = λ i. e.Compare t op (itself a i) (itself b i)
  itself (e.Logical t op a b) = λ i. e.Logical t op (itself a i) (itself b i)
  itself (e.Conditional t test a b) = λ i. e.Conditional t (itself test i) (itself a i) (itself b i)
  itself (e.Assign t p v) = λ i. e.Assign t (place_itself p i) (itself v i)
  itself (e.Update t op k p v) = λ i. e.Update t op k (place_itself p i) (itself v i)
  itself (e.UpdatePointer t op size p v) = λ i. e.UpdatePointer t op size (place_itself p i) (itself v i)
  itself (e.Step t gives op k p) = λ i. e.Step t gives op k (place_itself p i)
  itself (e.StepPointer t gives op size p) = λ i. e.StepPointer t gives op size (place_itself p i)
  itself (e.Call t f vs) = λ i. e.Call t f (values_itself vs i)
  itself (e.Comma t vs) = λ i. e.Comma t (values_itself vs i)
  itself (e.Marked t ms v) = λ i. e.Marked t (marks_itself ms i) (itself v i)
  itself (e.Decide t v when_true when_false) = λ i. e.Decide t (itself v i) when_true when_false
  itself (e.After t v id) = λ i. e.After t (itself v i) id

  values_itself : (vs : Values) → values_with same vs ≡ vs
  values_itself e.no_values = refl
  values_itself (e.a_value v vs) = λ i. e.a_value (itself v i) (values_itself vs i)

  place_itself : (p : Place) → place_with same p ≡ p
  place_itself (e.Object t n) = refl
  place_itself (e.Pointed t v) = λ i. e.Pointed t (itself v i)
  place_itself (e.Element t size side a b) = λ i. e.Element t size side (itself a i) (itself b i)
  place_itself (e.Part t offset p) = λ i. e.Part t offset (place_itself p i)
  place_itself (e.Held t v) = λ i. e.Held t (itself v i)

  marks_itself : (ms : Marks) → marks_with same ms ≡ ms
  marks_itself e.no_marks = refl
  marks_itself (e.a_mark m ms) = λ i. e.a_mark (mark_itself m i) (marks_itself ms i)

  mark_itself : (m : Mark) → mark_with same m ≡ m
  mark_itself (e.mark predicate id bound) = λ i. e.mark (itself predicate i) id (bindings_itself bound i)

  bindings_itself : (bound : Bindings) → bindings_with same bound ≡ bound
  bindings_itself e.no_bindings = refl
  bindings_itself (e.a_binding name v rest) = λ i. e.a_binding name (itself v i) (bindings_itself rest i)

constancy_itself : (c : Constancy) → constancy_with same c ≡ c
constancy_itself varying = refl
constancy_itself faulty = refl
constancy_itself (number z) = refl
constancy_itself null_constant = refl
constancy_itself null_address = refl
constancy_itself (address n offset) = refl

part_itself : (part : StartPart) → part_with same part ≡ part
part_itself (e.stored offset v) = λ i. e.stored offset (itself v i)
part_itself (e.fixed offset t c) = λ i. e.fixed offset t (constancy_itself c i)
part_itself (e.letters offset k bytes) = refl

parts_itself : (parts : List StartPart) → parts_with same parts ≡ parts
parts_itself [] = refl
parts_itself (part ∷ parts) = λ i. part_itself part i ∷ parts_itself parts i

start_itself : (x : Option Start) → start_with same x ≡ x
start_itself None = refl
start_itself (Some x) = λ i. Some (record { zeroed = x.zeroed; parts = parts_itself x.parts i })

local_itself : (x : Local) → local_with same x ≡ x
local_itself x = λ i. record { object = x.object; start = start_itself x.start i }

locals_itself : (xs : List Local) → locals_with same xs ≡ xs
locals_itself [] = refl
locals_itself (x ∷ xs) = λ i. local_itself x i ∷ locals_itself xs i

optional_itself : (v : Option Value) → optional_with same v ≡ v
optional_itself None = refl
optional_itself (Some v) = λ i. Some (itself v i)

for_start_itself : (x : e.ForStart) → for_start_with same x ≡ x
for_start_itself e.Nothing = refl
for_start_itself (e.First v) = λ i. e.First (itself v i)
for_start_itself (e.Locals xs) = λ i. e.Locals (locals_itself xs i)

mutual
  statement_itself : (c : Statement) → statement_with same c ≡ c
  statement_itself (e.Compound items) = λ i. e.Compound (items_itself items i)
  statement_itself (e.Evaluates v) = λ i. e.Evaluates (itself v i)
  statement_itself e.Null = refl
  statement_itself (e.If test body) = λ i. e.If (itself test i) (statement_itself body i)
  statement_itself (e.IfElse test body other) = λ i. e.IfElse (itself test i) (statement_itself body i) (statement_itself other i)
  statement_itself (e.While test body) = λ i. e.While (itself test i) (statement_itself body i)
  statement_itself (e.Do body test) = λ i. e.Do (statement_itself body i) (itself test i)
  statement_itself (e.For x test step body) = λ i. e.For (for_start_itself x i) (optional_itself test i) (optional_itself step i) (statement_itself body i)
  statement_itself (e.Switch operand cases) = λ i. e.Switch (itself operand i) (cases_itself cases i)
  statement_itself e.Break = refl
  statement_itself e.Continue = refl
  statement_itself (e.Return v) = λ i. e.Return (optional_itself v i)

  items_itself : (items : Items) → items_with same items ≡ items
  items_itself e.no_items = refl
  items_itself (e.a_local x rest) = λ i. e.a_local (local_itself x i) (items_itself rest i)
  items_itself (e.a_statement first rest) = λ i. e.a_statement (statement_itself first i) (items_itself rest i)
  items_itself (e.a_label label rest) = λ i. e.a_label (mark_itself label i) (items_itself rest i)

  cases_itself : (cases : Cases) → cases_with same cases ≡ cases
  cases_itself e.no_cases = refl
  cases_itself (e.a_case labels first rest) = λ i. e.a_case labels (statement_itself first i) (cases_itself rest i)

pub object_itself : (x : Object) → object_with same x ≡ x
object_itself x = λ i. record x { start = start_itself x.start i }

list_itself : (ns : List ℕ) → map same ns ≡ ns
list_itself [] = refl
list_itself (n ∷ ns) = λ i. n ∷ list_itself ns i

function_itself : (f : Function) → function_with same f ≡ f
function_itself f = λ i. record f { parameters = list_itself f.parameters i; body = items_itself f.body i }

pub functions_itself : (fs : List Function) → map (function_with same) fs ≡ fs
functions_itself [] = refl
functions_itself (f ∷ fs) = λ i. function_itself f i ∷ functions_itself fs i
