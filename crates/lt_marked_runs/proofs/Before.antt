-- Code gets at memory by the same types where objects have other numbers.
use Rattle.std.proofs.Common.{ℕ, List, [], ◌∷◌, map, Option, Some, None, Bool, sym, ap, ◌∙◌}
use Rattle.lt_tree.specs.Typing.Types.{CType}
use Rattle.lt_tree.specs.Typing.TypedTree as e
use Rattle.lt_tree.specs.Typing.TypedTree.{Value, Values, Place, Marks, Mark, Bindings, Start, StartPart, Local, Statement, Items, Cases, type_of}
use Rattle.lt_tree.specs.Typing.Entities.{Function}
use Rattle.lt_object_laws.specs.Renamed.{value_with, values_with, place_with, marks_with, mark_with, bindings_with, part_with, parts_with, start_with, locals_with, optional_with, for_start_with, statement_with, items_with, cases_with, function_with}
use Rattle.lt_object_laws.proofs.Trees.{type_with}
use Rattle.lt_type_laws.specs.Accesses.{is_named_in, Accesses, AccessesAll, AccessesPlace, AccessesMarks, AccessesMark, AccessesBindings, AccessesPart, AccessesParts, AccessesStart, AccessesLocals, AccessesOptional, AccessesForStart, AccessesStatement, AccessesItems, AccessesCases}
use Rattle.lt_type_laws.specs.Laws.{FunctionsAccess}

module _ (r : ℕ → ℕ) (test : CType → Bool) where
  mutual
    value_before : (v : Value) → Accesses test (value_with r v) → Accesses test v
    value_before (e.Constant t z) h = tt
    value_before (e.Load t p) h = (h.0, place_before p h.1)
    value_before (e.Whole t p) h = place_before p h
    value_before (e.Decay t p) h = place_before p h
    value_before (e.AddressOf t p) h = place_before p h
    value_before (e.Convert how t v) h = value_before v h
    value_before (e.Minus t v) h = value_before v h
    value_before (e.Complement t v) h = value_before v h
    value_before (e.Not t v) h = value_before v h
    value_before (e.Arithmetic t op s a b) h = (value_before a h.0, value_before b h.1)
    value_before (e.Move t op size side a b) h = (value_before a h.0, value_before b h.1)
    value_before (e.Distance t size a b) h = (value_before a h.0, value_before b h.1)
    value_before (e.Compare t op a b) h = (value_before a h.0, value_before b h.1)
    value_before (e.Logical t op a b) h = (value_before a h.0, value_before b h.1)
    value_before (e.Conditional t p a b) h = (value_before p h.0, value_before a h.1, value_before b h.2)
    value_before (e.Assign t p v) h = (h.0, place_before p h.1, value_before v h.2)
    value_before (e.Update t op s p v) h = (h.0, place_before p h.1, value_before v h.2)
    value_before (e.UpdatePointer t op size p v) h = (h.0, place_before p h.1, value_before v h.2)
    value_before (e.Step t when op s p) h = (h.0, place_before p h.1)
    value_before (e.StepPointer t when op size p) h = (h.0, place_before p h.1)
    value_before (e.Call t f vs) h = values_before vs h
    value_before (e.Comma t vs) h = values_before vs h
    value_before (e.Marked t ms v) h = (marks_before ms h.0, value_before v h.1)
    value_before (e.Decide t v when_true when_false) h = value_before v h
    value_before (e.After t v id) h = value_before v h

    values_before : (vs : Values) → AccessesAll test (values_with r vs) → AccessesAll test vs
    values_before e.no_values h = tt
    values_before (e.a_value v vs) h = (value_before v h.0, values_before vs h.1)

    place_before : (p : Place) → AccessesPlace test (place_with r p) → AccessesPlace test p
    place_before (e.Object t n) h = tt
    place_before (e.Pointed t v) h = value_before v h
    place_before (e.Element t size side a b) h = (value_before a h.0, value_before b h.1)
    place_before (e.Part t offset p) h = place_before p h
    place_before (e.Held t v) h = value_before v h

    marks_before : (ms : Marks) → AccessesMarks test (marks_with r ms) → AccessesMarks test ms
    marks_before e.no_marks h = tt
    marks_before (e.a_mark m ms) h = (mark_before m h.0, marks_before ms h.1)

    mark_before : (m : Mark) → AccessesMark test (mark_with r m) → AccessesMark test m
    mark_before (e.mark predicate id bound) h = (value_before predicate h.0, bindings_before bound h.1)

    bindings_before : (bound : Bindings) → AccessesBindings test (bindings_with r bound) → AccessesBindings test bound
    bindings_before e.no_bindings h = tt
    bindings_before (e.a_binding name v rest) h = (value_before v h.0, bindings_before rest h.1)

  -- ---- initialisers

  part_before : (part : StartPart) → AccessesPart test (part_with r part) → AccessesPart test part
  part_before (e.stored offset v) h = (ap test (sym (type_with r v)) ∙ h.0, value_before v h.1)
  part_before (e.fixed offset t c) h = tt
  part_before (e.letters offset s bytes) h = tt

  parts_before : (parts : List StartPart) → AccessesParts test (parts_with r parts) → AccessesParts test parts
  parts_before [] h = tt
  parts_before (part ∷ parts) h = (part_before part h.0, parts_before parts h.1)

  start_before : (start : Option Start) → AccessesStart test (start_with r start) → AccessesStart test start
  start_before None h = tt
  start_before (Some start) h = parts_before start.parts h

  locals_before : (locals : List Local) → AccessesLocals test (locals_with r locals) → AccessesLocals test locals
  locals_before [] h = tt
  locals_before (local ∷ locals) h = (start_before local.start h.0, locals_before locals h.1)

  optional_before : (v : Option Value) → AccessesOptional test (optional_with r v) → AccessesOptional test v
  optional_before None h = tt
  optional_before (Some v) h = value_before v h

  for_start_before : (start : e.ForStart) → AccessesForStart test (for_start_with r start) → AccessesForStart test start
  for_start_before e.Nothing h = tt
  for_start_before (e.First v) h = value_before v h
  for_start_before (e.Locals locals) h = locals_before locals h

  -- ---- statements

  mutual
    statement_before : (c : Statement) → AccessesStatement test (statement_with r c) → AccessesStatement test c
    statement_before (e.Compound list) h = items_before list h
    statement_before (e.Evaluates v) h = value_before v h
    statement_before e.Null h = tt
    statement_before (e.If p body) h = (value_before p h.0, statement_before body h.1)
    statement_before (e.IfElse p body other) h = (value_before p h.0, statement_before body h.1, statement_before other h.2)
    statement_before (e.While p body) h = (value_before p h.0, statement_before body h.1)
    statement_before (e.Do body p) h = (statement_before body h.0, value_before p h.1)
    statement_before (e.For start p step body) h = (for_start_before start h.0, optional_before p h.1, optional_before step h.2, statement_before body h.3)
    statement_before (e.Switch operand cases) h = (value_before operand h.0, cases_before cases h.1)
    statement_before e.Break h = tt
    statement_before e.Continue h = tt
    statement_before (e.Return v) h = optional_before v h

    items_before : (items : Items) → AccessesItems test (items_with r items) → AccessesItems test items
    items_before e.no_items h = tt
    items_before (e.a_local local rest) h = (start_before local.start h.0, items_before rest h.1)
    items_before (e.a_statement first rest) h = (statement_before first h.0, items_before rest h.1)
    items_before (e.a_label label rest) h = (mark_before label h.0, items_before rest h.1)

    cases_before : (cases : Cases) → AccessesCases test (cases_with r cases) → AccessesCases test cases
    cases_before e.no_cases h = tt
    cases_before (e.a_case labels first rest) h = (statement_before first h.0, cases_before rest h.1)

-- ---- functions

pub functions_before : (r : ℕ → ℕ) (types : List CType) (fs : List Function) → FunctionsAccess types (map (function_with r) fs) → FunctionsAccess types fs
functions_before r types [] h = tt
functions_before r types (f ∷ fs) h = (items_before r (is_named_in types) f.body h.0, functions_before r types fs h.1)
