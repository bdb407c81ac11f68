-- Trees whose objects get other numbers twice.
use Rattle.std.proofs.Common.{◌≡◌, ℕ, List, [], ◌∷◌, map, Option, Some, None, refl}
use Rattle.lt_tree.specs.Typing.Constants.{Constancy, varying, faulty, number, null_constant, null_address, address}
use Rattle.lt_tree.specs.Typing.TypedTree as e
use Rattle.lt_tree.specs.Typing.TypedTree.{Value, Values, Place, Marks, Mark, Bindings, Statement, Items, Cases, Local, Start, StartPart}
use Rattle.lt_tree.specs.Typing.Entities.{Function, Object}
use Rattle.lt_object_laws.specs.Renamed.{value_with, values_with, place_with, marks_with, mark_with, bindings_with, constancy_with, part_with, parts_with, start_with, local_with, locals_with, optional_with, for_start_with, statement_with, items_with, cases_with, object_with, function_with}

module _ (r s : ℕ → ℕ) where
  abbrev pub both : ℕ → ℕ
  both n = s (r n)

  mutual
    twice : (v : Value) → value_with both v ≡ value_with s (value_with r v)
    twice (e.Constant t z) = refl
    twice (e.Load t p) = λ i. e.Load t (place_twice p i)
    twice (e.Whole t p) = λ i. e.Whole t (place_twice p i)
    twice (e.Decay t p) = λ i. e.Decay t (place_twice p i)
    twice (e.AddressOf t p) = λ i. e.AddressOf t (place_twice p i)
    twice (e.Convert how t v) = λ i. e.Convert how t (twice v i)
    twice (e.Minus t v) = λ i. e.Minus t (twice v i)
    twice (e.Complement t v) = λ i. e.Complement t (twice v i)
    twice (e.Not t v) = λ i. e.Not t (twice v i)
    twice (e.Arithmetic t op k a b) = λ i. e.Arithmetic t op k (twice a i) (twice b i)
    twice (e.Move t op size side a b) = λ i. e.Move t op size side (twice a i) (twice b i)
    twice (e.Distance t size a b) = λ i. e.Distance t size (twice a i) (twice b i)
    twice (e.Compare t op a b) = λ i. e.Compare t op (twice a i) (twice b i)
    twice (e.Logical t op a b) = λ i. e.Logical t op (twice a i) (twice b i)
    twice (e.Conditional t test a b) = λ i. e.Conditional t (twice test i) (twice a i) (twice b i)
    twice (e.Assign t p v) = λ i. e.Assign t (place_twice p i) (twice v i)
    twice (e.Update t op k p v) = λ i. e.Update t op k (place_twice p i) (twice v i)
    twice (e.UpdatePointer t op size p v) = λ i. e.UpdatePointer t op size (place_twice p i) (twice v i)
    twice (e.Step t gives op k p) = λ i. e.Step t gives op k (place_twice p i)
    twice (e.StepPointer t gives op size p) = λ i. e.StepPointer t gives op size (place_twice p i)
    twice (e.Call t f vs) = λ i. e.Call t f (values_twice vs i)
    twice (e.Comma t vs) = λ i. e.Comma t (values_twice vs i)
    twice (e.Marked t ms v) = λ i. e.Marked t (marks_twice ms i) (twice v i)
    twice (e.Decide t v when_true when_false) = λ i. e.Decide t (twice v i) when_true when_false
    twice (e.After t v id) = λ i. e.After t (twice v i) id

    values_twice : (vs : Values) → values_with both vs ≡ values_with s (values_with r vs)
    values_twice e.no_values = refl
    values_twice (e.a_value v vs) = λ i. e.a_value (twice v i) (values_twice vs i)

    place_twice : (p : Place) → place_with both p ≡ place_with s (place_with r p)
    place_twice (e.Object t n) = refl
    place_twice (e.Pointed t v) = λ i. e.Pointed t (twice v i)
    place_twice (e.Element t size side a b) = λ i. e.Element t size side (twice a i) (twice b i)
    place_twice (e.Part t offset p) = λ i. e.Part t offset (place_twice p i)
    place_twice (e.Held t v) = λ i. e.Held t (twice v i)

    marks_twice : (ms : Marks) → marks_with both ms ≡ marks_with s (marks_with r ms)
    marks_twice e.no_marks = refl
    marks_twice (e.a_mark m ms) = λ i. e.a_mark (mark_twice m i) (marks_twice ms i)

    mark_twice : (m : Mark) → mark_with both m ≡ mark_with s (mark_with r m)
    mark_twice (e.mark predicate id bound) = λ i. e.mark (twice predicate i) id (bindings_twice bound i)

    bindings_twice : (bound : Bindings) → bindings_with both bound ≡ bindings_with s (bindings_with r bound)
    bindings_twice e.no_bindings = refl
    bindings_twice (e.a_binding name v rest) = λ i. e.a_binding name (twice v i) (bindings_twice rest i)

  constancy_twice : (c : Constancy) → constancy_with both c ≡ constancy_with s (constancy_with r c)
  constancy_twice varying = refl
  constancy_twice faulty = refl
  constancy_twice (number z) = refl
  constancy_twice null_constant = refl
  constancy_twice null_address = refl
  constancy_twice (address n offset) = refl

  part_twice : (part : StartPart) → part_with both part ≡ part_with s (part_with r part)
  part_twice (e.stored offset v) = λ i. e.stored offset (twice v i)
  part_twice (e.fixed offset t c) = λ i. e.fixed offset t (constancy_twice c i)
  part_twice (e.letters offset k bytes) = refl

  parts_twice : (parts : List StartPart) → parts_with both parts ≡ parts_with s (parts_with r parts)
  parts_twice [] = refl
  parts_twice (part ∷ parts) = λ i. part_twice part i ∷ parts_twice parts i

  start_twice : (x : Option Start) → start_with both x ≡ start_with s (start_with r x)
  start_twice None = refl
  start_twice (Some x) = λ i. Some (record { zeroed = x.zeroed; parts = parts_twice x.parts i })

  local_twice : (x : Local) → local_with both x ≡ local_with s (local_with r x)
  local_twice x = λ i. record { object = s (r x.object); start = start_twice x.start i }

  locals_twice : (xs : List Local) → locals_with both xs ≡ locals_with s (locals_with r xs)
  locals_twice [] = refl
  locals_twice (x ∷ xs) = λ i. local_twice x i ∷ locals_twice xs i

  optional_twice : (v : Option Value) → optional_with both v ≡ optional_with s (optional_with r v)
  optional_twice None = refl
  optional_twice (Some v) = λ i. Some (twice v i)

  for_start_twice : (x : e.ForStart) → for_start_with both x ≡ for_start_with s (for_start_with r x)
  for_start_twice e.Nothing = refl
  for_start_twice (e.First v) = λ i. e.First (twice v i)
  for_start_twice (e.Locals xs) = λ i. e.Locals (locals_twice xs i)

  mutual
    statement_twice : (c : Statement) → statement_with both c ≡ statement_with s (statement_with r c)
    statement_twice (e.Compound items) = λ i. e.Compound (items_twice items i)
    statement_twice (e.Evaluates v) = λ i. e.Evaluates (twice v i)
    statement_twice e.Null = refl
    statement_twice (e.If test body) = λ i. e.If (twice test i) (statement_twice body i)
    statement_twice (e.IfElse test body other) = λ i. e.IfElse (twice test i) (statement_twice body i) (statement_twice other i)
    statement_twice (e.While test body) = λ i. e.While (twice test i) (statement_twice body i)
    statement_twice (e.Do body test) = λ i. e.Do (statement_twice body i) (twice test i)
    statement_twice (e.For x test step body) = λ i. e.For (for_start_twice x i) (optional_twice test i) (optional_twice step i) (statement_twice body i)
    statement_twice (e.Switch operand cases) = λ i. e.Switch (twice operand i) (cases_twice cases i)
    statement_twice e.Break = refl
    statement_twice e.Continue = refl
    statement_twice (e.Return v) = λ i. e.Return (optional_twice v i)

    items_twice : (items : Items) → items_with both items ≡ items_with s (items_with r items)
    items_twice e.no_items = refl
    items_twice (e.a_local x rest) = λ i. e.a_local (local_twice x i) (items_twice rest i)
    items_twice (e.a_statement first rest) = λ i. e.a_statement (statement_twice first i) (items_twice rest i)
    items_twice (e.a_label label rest) = λ i. e.a_label (mark_twice label i) (items_twice rest i)

    cases_twice : (cases : Cases) → cases_with both cases ≡ cases_with s (cases_with r cases)
    cases_twice e.no_cases = refl
    cases_twice (e.a_case labels first rest) = λ i. e.a_case labels (statement_twice first i) (cases_twice rest i)

  pub object_twice : (x : Object) → object_with both x ≡ object_with s (object_with r x)
  object_twice x = λ i. record x { start = start_twice x.start i }

  list_twice : (ns : List ℕ) → map both ns ≡ map s (map r ns)
  list_twice [] = refl
  list_twice (n ∷ ns) = λ i. s (r n) ∷ list_twice ns i

  function_twice : (f : Function) → function_with both f ≡ function_with s (function_with r f)
  function_twice f = λ i. record f { parameters = list_twice f.parameters i; body = items_twice f.body i }

  pub functions_twice : (fs : List Function) → map (function_with both) fs ≡ map (function_with s) (map (function_with r) fs)
  functions_twice [] = refl
  functions_twice (f ∷ fs) = λ i. function_twice f i ∷ functions_twice fs i
