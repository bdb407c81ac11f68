-- Tests that the types pass by which code gets at memory.
use Rattle.std.proofs.Common.{◌≡◌, List, [], ◌∷◌, Option, Some, None, Bool, true}
use Rattle.std.specs.List.{AllByRecursion}
use Rattle.lt_tree.specs.Typing.Types.{CType}
use Rattle.lt_tree.specs.Typing.TypedTree as e
use Rattle.lt_tree.specs.Typing.TypedTree.{Value, Values, Place, Marks, Mark, Bindings, Start, StartPart, Local, Statement, Items, Cases, type_of}
use Rattle.lt_tree.specs.Typing.Entities.{Function}
use Rattle.lt_type_laws.specs.Accesses.{Accesses, AccessesAll, AccessesPlace, AccessesMarks, AccessesMark, AccessesBindings, AccessesPart, AccessesParts, AccessesStart, AccessesLocals, AccessesOptional, AccessesForStart, AccessesStatement, AccessesItems, AccessesCases}

-- ---- a test that each type passes

module _ (test : CType → Bool) (passes : (t : CType) → test t ≡ true) where
  mutual
    value_pass : (v : Value) → Accesses test v
    value_pass (e.Constant t z) = tt
    value_pass (e.Load t p) = (passes t, place_pass p)
    value_pass (e.Whole t p) = place_pass p
    value_pass (e.Decay t p) = place_pass p
    value_pass (e.AddressOf t p) = place_pass p
    value_pass (e.Convert how t v) = value_pass v
    value_pass (e.Minus t v) = value_pass v
    value_pass (e.Complement t v) = value_pass v
    value_pass (e.Not t v) = value_pass v
    value_pass (e.Arithmetic t op s a b) = (value_pass a, value_pass b)
    value_pass (e.Move t op size side a b) = (value_pass a, value_pass b)
    value_pass (e.Distance t size a b) = (value_pass a, value_pass b)
    value_pass (e.Compare t op a b) = (value_pass a, value_pass b)
    value_pass (e.Logical t op a b) = (value_pass a, value_pass b)
    value_pass (e.Conditional t p a b) = (value_pass p, value_pass a, value_pass b)
    value_pass (e.Assign t p v) = (passes t, place_pass p, value_pass v)
    value_pass (e.Update t op s p v) = (passes t, place_pass p, value_pass v)
    value_pass (e.UpdatePointer t op size p v) = (passes t, place_pass p, value_pass v)
    value_pass (e.Step t when op s p) = (passes t, place_pass p)
    value_pass (e.StepPointer t when op size p) = (passes t, place_pass p)
    value_pass (e.Call t f vs) = values_pass vs
    value_pass (e.Comma t vs) = values_pass vs
    value_pass (e.Marked t ms v) = (marks_pass ms, value_pass v)
    value_pass (e.Decide t v when_true when_false) = value_pass v
    value_pass (e.After t v id) = value_pass v

    values_pass : (vs : Values) → AccessesAll test vs
    values_pass e.no_values = tt
    values_pass (e.a_value v vs) = (value_pass v, values_pass vs)

    place_pass : (p : Place) → AccessesPlace test p
    place_pass (e.Object t n) = tt
    place_pass (e.Pointed t v) = value_pass v
    place_pass (e.Element t size side a b) = (value_pass a, value_pass b)
    place_pass (e.Part t offset p) = place_pass p
    place_pass (e.Held t v) = value_pass v

    marks_pass : (ms : Marks) → AccessesMarks test ms
    marks_pass e.no_marks = tt
    marks_pass (e.a_mark m ms) = (mark_pass m, marks_pass ms)

    mark_pass : (m : Mark) → AccessesMark test m
    mark_pass (e.mark predicate id bound) = (value_pass predicate, bindings_pass bound)

    bindings_pass : (bound : Bindings) → AccessesBindings test bound
    bindings_pass e.no_bindings = tt
    bindings_pass (e.a_binding name v rest) = (value_pass v, bindings_pass rest)

  -- initialisers
  part_pass : (part : StartPart) → AccessesPart test part
  part_pass (e.stored offset v) = (passes (type_of v), value_pass v)
  part_pass (e.fixed offset t c) = tt
  part_pass (e.letters offset s bytes) = tt

  parts_pass : (parts : List StartPart) → AccessesParts test parts
  parts_pass [] = tt
  parts_pass (part ∷ parts) = (part_pass part, parts_pass parts)

  start_pass : (start : Option Start) → AccessesStart test start
  start_pass None = tt
  start_pass (Some start) = parts_pass start.parts

  locals_pass : (locals : List Local) → AccessesLocals test locals
  locals_pass [] = tt
  locals_pass (local ∷ locals) = (start_pass local.start, locals_pass locals)

  optional_pass : (v : Option Value) → AccessesOptional test v
  optional_pass None = tt
  optional_pass (Some v) = value_pass v

  for_start_pass : (start : e.ForStart) → AccessesForStart test start
  for_start_pass e.Nothing = tt
  for_start_pass (e.First v) = value_pass v
  for_start_pass (e.Locals locals) = locals_pass locals

  -- statements
  mutual
    statement_pass : (c : Statement) → AccessesStatement test c
    statement_pass (e.Compound list) = items_pass list
    statement_pass (e.Evaluates v) = value_pass v
    statement_pass e.Null = tt
    statement_pass (e.If p body) = (value_pass p, statement_pass body)
    statement_pass (e.IfElse p body other) = (value_pass p, statement_pass body, statement_pass other)
    statement_pass (e.While p body) = (value_pass p, statement_pass body)
    statement_pass (e.Do body p) = (statement_pass body, value_pass p)
    statement_pass (e.For start p step body) = (for_start_pass start, optional_pass p, optional_pass step, statement_pass body)
    statement_pass (e.Switch operand cases) = (value_pass operand, cases_pass cases)
    statement_pass e.Break = tt
    statement_pass e.Continue = tt
    statement_pass (e.Return v) = optional_pass v

    pub items_pass : (items : Items) → AccessesItems test items
    items_pass e.no_items = tt
    items_pass (e.a_local local rest) = (start_pass local.start, items_pass rest)
    items_pass (e.a_statement first rest) = (statement_pass first, items_pass rest)
    items_pass (e.a_label label rest) = (mark_pass label, items_pass rest)

    cases_pass : (cases : Cases) → AccessesCases test cases
    cases_pass e.no_cases = tt
    cases_pass (e.a_case labels first rest) = (statement_pass first, cases_pass rest)

  pub functions_pass : (fs : List Function) → AllByRecursion (λ (f : Function). AccessesItems test f.body) fs
  functions_pass [] = tt
  functions_pass (f ∷ fs) = (items_pass f.body, functions_pass fs)

-- ---- a test that types pass which pass two others

module _ (one two both : CType → Bool) (passes : (t : CType) → one t ≡ true → two t ≡ true → both t ≡ true) where
  mutual
    value_both : (v : Value) → Accesses one v → Accesses two v → Accesses both v
    value_both (e.Constant t z) h g = tt
    value_both (e.Load t p) h g = (passes t h.0 g.0, place_both p h.1 g.1)
    value_both (e.Whole t p) h g = place_both p h g
    value_both (e.Decay t p) h g = place_both p h g
    value_both (e.AddressOf t p) h g = place_both p h g
    value_both (e.Convert how t v) h g = value_both v h g
    value_both (e.Minus t v) h g = value_both v h g
    value_both (e.Complement t v) h g = value_both v h g
    value_both (e.Not t v) h g = value_both v h g
    value_both (e.Arithmetic t op s a b) h g = (value_both a h.0 g.0, value_both b h.1 g.1)
    value_both (e.Move t op size side a b) h g = (value_both a h.0 g.0, value_both b h.1 g.1)
    value_both (e.Distance t size a b) h g = (value_both a h.0 g.0, value_both b h.1 g.1)
    value_both (e.Compare t op a b) h g = (value_both a h.0 g.0, value_both b h.1 g.1)
    value_both (e.Logical t op a b) h g = (value_both a h.0 g.0, value_both b h.1 g.1)
    value_both (e.Conditional t p a b) h g = (value_both p h.0 g.0, value_both a h.1 g.1, value_both b h.2 g.2)
    value_both (e.Assign t p v) h g = (passes t h.0 g.0, place_both p h.1 g.1, value_both v h.2 g.2)
    value_both (e.Update t op s p v) h g = (passes t h.0 g.0, place_both p h.1 g.1, value_both v h.2 g.2)
    value_both (e.UpdatePointer t op size p v) h g = (passes t h.0 g.0, place_both p h.1 g.1, value_both v h.2 g.2)
    value_both (e.Step t when op s p) h g = (passes t h.0 g.0, place_both p h.1 g.1)
    value_both (e.StepPointer t when op size p) h g = (passes t h.0 g.0, place_both p h.1 g.1)
    value_both (e.Call t f vs) h g = values_both vs h g
    value_both (e.Comma t vs) h g = values_both vs h g
    value_both (e.Marked t ms v) h g = (marks_both ms h.0 g.0, value_both v h.1 g.1)
    value_both (e.Decide t v when_true when_false) h g = value_both v h g
    value_both (e.After t v id) h g = value_both v h g

    values_both : (vs : Values) → AccessesAll one vs → AccessesAll two vs → AccessesAll both vs
    values_both e.no_values h g = tt
    values_both (e.a_value v vs) h g = (value_both v h.0 g.0, values_both vs h.1 g.1)

    place_both : (p : Place) → AccessesPlace one p → AccessesPlace two p → AccessesPlace both p
    place_both (e.Object t n) h g = tt
    place_both (e.Pointed t v) h g = value_both v h g
    place_both (e.Element t size side a b) h g = (value_both a h.0 g.0, value_both b h.1 g.1)
    place_both (e.Part t offset p) h g = place_both p h g
    place_both (e.Held t v) h g = value_both v h g

    marks_both : (ms : Marks) → AccessesMarks one ms → AccessesMarks two ms → AccessesMarks both ms
    marks_both e.no_marks h g = tt
    marks_both (e.a_mark m ms) h g = (mark_both m h.0 g.0, marks_both ms h.1 g.1)

    mark_both : (m : Mark) → AccessesMark one m → AccessesMark two m → AccessesMark both m
    mark_both (e.mark predicate id bound) h g = (value_both predicate h.0 g.0, bindings_both bound h.1 g.1)

    bindings_both : (bound : Bindings) → AccessesBindings one bound → AccessesBindings two bound → AccessesBindings both bound
    bindings_both e.no_bindings h g = tt
    bindings_both (e.a_binding name v rest) h g = (value_both v h.0 g.0, bindings_both rest h.1 g.1)

  -- initialisers
  part_both : (part : StartPart) → AccessesPart one part → AccessesPart two part → AccessesPart both part
  part_both (e.stored offset v) h g = (passes (type_of v) h.0 g.0, value_both v h.1 g.1)
  part_both (e.fixed offset t c) h g = tt
  part_both (e.letters offset s bytes) h g = tt

  parts_both : (parts : List StartPart) → AccessesParts one parts → AccessesParts two parts → AccessesParts both parts
  parts_both [] h g = tt
  parts_both (part ∷ parts) h g = (part_both part h.0 g.0, parts_both parts h.1 g.1)

  start_both : (start : Option Start) → AccessesStart one start → AccessesStart two start → AccessesStart both start
  start_both None h g = tt
  start_both (Some start) h g = parts_both start.parts h g

  locals_both : (locals : List Local) → AccessesLocals one locals → AccessesLocals two locals → AccessesLocals both locals
  locals_both [] h g = tt
  locals_both (local ∷ locals) h g = (start_both local.start h.0 g.0, locals_both locals h.1 g.1)

  optional_both : (v : Option Value) → AccessesOptional one v → AccessesOptional two v → AccessesOptional both v
  optional_both None h g = tt
  optional_both (Some v) h g = value_both v h g

  for_start_both : (start : e.ForStart) → AccessesForStart one start → AccessesForStart two start → AccessesForStart both start
  for_start_both e.Nothing h g = tt
  for_start_both (e.First v) h g = value_both v h g
  for_start_both (e.Locals locals) h g = locals_both locals h g

  -- statements
  mutual
    statement_both : (c : Statement) → AccessesStatement one c → AccessesStatement two c → AccessesStatement both c
    statement_both (e.Compound list) h g = items_both list h g
    statement_both (e.Evaluates v) h g = value_both v h g
    statement_both e.Null h g = tt
    statement_both (e.If p body) h g = (value_both p h.0 g.0, statement_both body h.1 g.1)
    statement_both (e.IfElse p body other) h g = (value_both p h.0 g.0, statement_both body h.1 g.1, statement_both other h.2 g.2)
    statement_both (e.While p body) h g = (value_both p h.0 g.0, statement_both body h.1 g.1)
    statement_both (e.Do body p) h g = (statement_both body h.0 g.0, value_both p h.1 g.1)
    statement_both (e.For start p step body) h g = (for_start_both start h.0 g.0, optional_both p h.1 g.1, optional_both step h.2 g.2, statement_both body h.3 g.3)
    statement_both (e.Switch operand cases) h g = (value_both operand h.0 g.0, cases_both cases h.1 g.1)
    statement_both e.Break h g = tt
    statement_both e.Continue h g = tt
    statement_both (e.Return v) h g = optional_both v h g

    pub items_both : (items : Items) → AccessesItems one items → AccessesItems two items → AccessesItems both items
    items_both e.no_items h g = tt
    items_both (e.a_local local rest) h g = (start_both local.start h.0 g.0, items_both rest h.1 g.1)
    items_both (e.a_statement first rest) h g = (statement_both first h.0 g.0, items_both rest h.1 g.1)
    items_both (e.a_label label rest) h g = (mark_both label h.0 g.0, items_both rest h.1 g.1)

    cases_both : (cases : Cases) → AccessesCases one cases → AccessesCases two cases → AccessesCases both cases
    cases_both e.no_cases h g = tt
    cases_both (e.a_case labels first rest) h g = (statement_both first h.0 g.0, cases_both rest h.1 g.1)

  pub functions_both : (fs : List Function) → AllByRecursion (λ (f : Function). AccessesItems one f.body) fs → AllByRecursion (λ (f : Function). AccessesItems two f.body) fs → AllByRecursion (λ (f : Function). AccessesItems both f.body) fs
  functions_both [] h g = tt
  functions_both (f ∷ fs) h g = (items_both f.body h.0 g.0, functions_both fs h.1 g.1)
