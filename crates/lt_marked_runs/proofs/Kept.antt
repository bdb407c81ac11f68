-- Marks that are added leave the types by which the code gets at memory that was there.
use Rattle.std.proofs.Common.{ℕ, List, [], ◌∷◌, Option, Some, None, Bool, ap, ◌∙◌}
use Rattle.lt_tree.specs.Typing.Types.{CType}
use Rattle.lt_tree.specs.Typing.TypedTree as e
use Rattle.lt_tree.specs.Typing.TypedTree.{Value, Values, Place, Marks, Start, StartPart, Local, Statement, Items, Cases, type_of}
use Rattle.lt_tree.specs.Typing.Entities.{Function}
use Rattle.lt_tree.specs.Typing.Programs.{Program}
use Rattle.lt_mark_laws.specs.Added as a
use Rattle.lt_mark_laws.specs.Added.{Adds, AddsTruth, AddsAll, AddsPlace, AddsMarks, AddsPart, AddsParts, AddsStart, AddsLocals, AddsOptional, AddsForStart, AddsStatement, AddsItems, AddsCases, AddsFunctions}
use Rattle.lt_type_laws.specs.Accesses.{is_named_in, Accesses, AccessesAll, AccessesPlace, AccessesMarks, AccessesPart, AccessesParts, AccessesStart, AccessesLocals, AccessesOptional, AccessesForStart, AccessesStatement, AccessesItems, AccessesCases}
use Rattle.lt_type_laws.specs.Laws.{FunctionsAccess}
use Rattle.lt_mark_typing.specs.MarkedPrograms.{AddsInSteps, no_step, a_step}

module _ (new : ℕ → Bool) (test : CType → Bool) where
  mutual
    value_kept : {v w : Value} → Adds new v w → Accesses test w → Accesses test v
    value_kept a.Constant h = tt
    value_kept (a.Load d) h = (h.0, place_kept d h.1)
    value_kept (a.Whole d) h = place_kept d h
    value_kept (a.Decay d) h = place_kept d h
    value_kept (a.AddressOf d) h = place_kept d h
    value_kept (a.Convert how d) h = value_kept d h
    value_kept (a.Minus d) h = value_kept d h
    value_kept (a.Complement d) h = value_kept d h
    value_kept (a.Not d) h = truth_kept d h
    value_kept (a.Arithmetic c d) h = (value_kept c h.0, value_kept d h.1)
    value_kept (a.Move c d) h = (value_kept c h.0, value_kept d h.1)
    value_kept (a.Distance c d) h = (value_kept c h.0, value_kept d h.1)
    value_kept (a.Compare c d) h = (value_kept c h.0, value_kept d h.1)
    value_kept (a.Logical c d) h = (truth_kept c h.0, truth_kept d h.1)
    value_kept (a.Conditional b c d) h = (truth_kept b h.0, value_kept c h.1, value_kept d h.2)
    value_kept (a.Assign c d) h = (h.0, place_kept c h.1, value_kept d h.2)
    value_kept (a.Update c d) h = (h.0, place_kept c h.1, value_kept d h.2)
    value_kept (a.UpdatePointer c d) h = (h.0, place_kept c h.1, value_kept d h.2)
    value_kept (a.Step d) h = (h.0, place_kept d h.1)
    value_kept (a.StepPointer d) h = (h.0, place_kept d h.1)
    value_kept (a.Call d) h = values_kept d h
    value_kept (a.Comma d) h = values_kept d h
    value_kept (a.Marked c d) h = (marks_kept c h.0, value_kept d h.1)
    value_kept (a.Decide d) h = truth_kept d h
    value_kept (a.After d) h = value_kept d h
    value_kept (a.labels_after are_new d) h = value_kept d h.1
    value_kept (a.in_front are_new may same d) h = value_kept d h.1

    values_kept : {vs ws : Values} → AddsAll new vs ws → AccessesAll test ws → AccessesAll test vs
    values_kept a.no_values h = tt
    values_kept (a.a_value c d) h = (value_kept c h.0, values_kept d h.1)

    place_kept : {p q : Place} → AddsPlace new p q → AccessesPlace test q → AccessesPlace test p
    place_kept a.Object h = tt
    place_kept (a.Pointed d) h = value_kept d h
    place_kept (a.Element c d) h = (value_kept c h.0, value_kept d h.1)
    place_kept (a.Part d) h = place_kept d h
    place_kept (a.Held d) h = value_kept d h

    truth_kept : {v w : Value} → AddsTruth new v w → Accesses test w → Accesses test v
    truth_kept (a.as_value d) h = value_kept d h
    truth_kept (a.round when_true when_false d) h = truth_kept d h
    truth_kept (a.before are_new d) h = truth_kept d h.1
    truth_kept (a.behind c d) h = (marks_kept c h.0, truth_kept d h.1)

    marks_kept : {ms ns : Marks} → AddsMarks new ms ns → AccessesMarks test ns → AccessesMarks test ms
    marks_kept a.no_marks h = tt
    marks_kept (a.kept c d) h = (h.0, marks_kept d h.1)
    marks_kept (a.added is_new d) h = marks_kept d h.1

  -- ---- initialisers

  part_kept : (p q : StartPart) → AddsPart new p q → AccessesPart test q → AccessesPart test p
  part_kept (e.stored m v) (e.stored n w) d h = (ap test d.1 ∙ h.0, value_kept d.2 h.1)
  part_kept (e.fixed m t c) q d h = tt
  part_kept (e.letters m s bytes) q d h = tt
  part_kept (e.stored m v) (e.fixed n t c) d h = absurd d
  part_kept (e.stored m v) (e.letters n s bytes) d h = absurd d

  parts_kept : (ps qs : List StartPart) → AddsParts new ps qs → AccessesParts test qs → AccessesParts test ps
  parts_kept [] qs d h = tt
  parts_kept (p ∷ ps) (q ∷ qs) d h = (part_kept p q d.0 h.0, parts_kept ps qs d.1 h.1)
  parts_kept (p ∷ ps) [] d h = absurd d

  start_kept : (x y : Option Start) → AddsStart new x y → AccessesStart test y → AccessesStart test x
  start_kept None y d h = tt
  start_kept (Some x) (Some y) d h = parts_kept x.parts y.parts d.1 h
  start_kept (Some x) None d h = absurd d

  locals_kept : (xs ys : List Local) → AddsLocals new xs ys → AccessesLocals test ys → AccessesLocals test xs
  locals_kept [] ys d h = tt
  locals_kept (x ∷ xs) (y ∷ ys) d h = (start_kept x.start y.start d.0.1 h.0, locals_kept xs ys d.1 h.1)
  locals_kept (x ∷ xs) [] d h = absurd d

  -- ---- statements

  optional_kept : (v w : Option Value) → AddsOptional (Adds new) v w → AccessesOptional test w → AccessesOptional test v
  optional_kept None w d h = tt
  optional_kept (Some v) (Some w) d h = value_kept d h
  optional_kept (Some v) None d h = absurd d

  optional_truth_kept : (v w : Option Value) → AddsOptional (AddsTruth new) v w → AccessesOptional test w → AccessesOptional test v
  optional_truth_kept None w d h = tt
  optional_truth_kept (Some v) (Some w) d h = truth_kept d h
  optional_truth_kept (Some v) None d h = absurd d

  for_start_kept : (x y : e.ForStart) → AddsForStart new x y → AccessesForStart test y → AccessesForStart test x
  for_start_kept e.Nothing y d h = tt
  for_start_kept (e.First v) (e.First w) d h = value_kept d h
  for_start_kept (e.Locals xs) (e.Locals ys) d h = locals_kept xs ys d h
  for_start_kept (e.First v) e.Nothing d h = absurd d
  for_start_kept (e.First v) (e.Locals ys) d h = absurd d
  for_start_kept (e.Locals xs) e.Nothing d h = absurd d
  for_start_kept (e.Locals xs) (e.First w) d h = absurd d

  mutual
    statement_kept : {c d : Statement} → AddsStatement new c d → AccessesStatement test d → AccessesStatement test c
    statement_kept (a.Compound d) h = items_kept d h
    statement_kept (a.Evaluates d) h = value_kept d h
    statement_kept a.Null h = tt
    statement_kept (a.If c d) h = (truth_kept c h.0, statement_kept d h.1)
    statement_kept (a.IfElse b c d) h = (truth_kept b h.0, statement_kept c h.1, statement_kept d h.2)
    statement_kept (a.While c d) h = (truth_kept c h.0, statement_kept d h.1)
    statement_kept (a.Do c d) h = (statement_kept c h.0, truth_kept d h.1)
    statement_kept (a.For {x} {y} {v} {w} {s = s1} {r = s2} h1 h2 h3 d) h = (for_start_kept x y h1 h.0, optional_truth_kept v w h2 h.1, optional_kept s1 s2 h3 h.2, statement_kept d h.3)
    statement_kept (a.Switch c d) h = (value_kept c h.0, cases_kept d h.1)
    statement_kept a.Break h = tt
    statement_kept a.Continue h = tt
    statement_kept (a.Return {v} {w} d) h = optional_kept v w d h

    pub items_kept : {is js : Items} → AddsItems new is js → AccessesItems test js → AccessesItems test is
    items_kept a.no_items h = tt
    items_kept (a.a_local {a = x} {b = y} c d) h = (start_kept x.start y.start c.1 h.0, items_kept d h.1)
    items_kept (a.a_statement c d) h = (statement_kept c h.0, items_kept d h.1)
    items_kept (a.a_label c d) h = (h.0, items_kept d h.1)
    items_kept (a.an_added_label is_new d) h = items_kept d h.1

    cases_kept : {cs ds : Cases} → AddsCases new cs ds → AccessesCases test ds → AccessesCases test cs
    cases_kept a.no_cases h = tt
    cases_kept (a.a_case c d) h = (statement_kept c h.0, cases_kept d h.1)

-- ---- functions

functions_kept : (new : ℕ → Bool) (types : List CType) (fs gs : List Function) → AddsFunctions new fs gs → FunctionsAccess types gs → FunctionsAccess types fs
functions_kept new types [] gs d h = tt
functions_kept new types (f ∷ fs) (g ∷ gs) d h = (items_kept new (is_named_in types) d.0.body h.0, functions_kept new types fs gs d.1 h.1)
functions_kept new types (f ∷ fs) [] d h = absurd d

pub steps_kept : {new : ℕ → Bool} {p q : Program} (types : List CType) → AddsInSteps new p q → FunctionsAccess types q.functions → FunctionsAccess types p.functions
steps_kept types no_step h = h
steps_kept types (a_step {p} {q} own all_new d steps) h = functions_kept own types p.functions q.functions d.functions (steps_kept types steps h)
