-- Marks are added just so where objects have other numbers.
use Rattle.std.proofs.Common.{◌≡◌, ℕ, List, [], ◌∷◌, map, Option, Some, None, Bool, refl, sym, ap, ◌∙◌}
use Rattle.lt_tree.specs.Typing.TypedTree as e
use Rattle.lt_tree.specs.Typing.TypedTree.{Value, Values, Place, Marks, Mark, Bindings, Statement, Items, Cases, Local, Start, StartPart, type_of}
use Rattle.lt_tree.specs.Typing.Entities.{Function}
use Rattle.lt_mark_laws.specs.Added as a
use Rattle.lt_mark_laws.specs.Added.{AreNew, can_be_marked, Adds, AddsTruth, AddsAll, AddsPlace, AddsMarks, Keeps, KeepsBound, AddsPart, AddsParts, AddsStart, AddsLocal, AddsLocals, AddsOptional, AddsForStart, AddsStatement, AddsItems, AddsCases, AddsFunction, AddsFunctions}
use Rattle.lt_object_laws.specs.Renamed.{value_with, values_with, place_with, marks_with, mark_with, bindings_with, part_with, parts_with, start_with, local_with, locals_with, optional_with, for_start_with, statement_with, items_with, cases_with, function_with}
use Rattle.lt_object_laws.proofs.Trees.{type_with}

module _ (new : ℕ → Bool) (r : ℕ → ℕ) where
  new_still : (ms : Marks) → AreNew new ms → AreNew new (marks_with r ms)
  new_still e.no_marks h = tt
  new_still (e.a_mark (e.mark predicate id bound) rest) h = (h.0, new_still rest h.1)

  marked_still : (v : Value) → can_be_marked (value_with r v) ≡ can_be_marked v
  marked_still (e.Convert how t v) = refl
  marked_still (e.Call t f vs) = refl
  marked_still v = refl

  mutual
    pub renamed : {v w : Value} → Adds new v w → Adds new (value_with r v) (value_with r w)
    renamed a.Constant = a.Constant
    renamed (a.Load d) = a.Load (place_renamed d)
    renamed (a.Whole d) = a.Whole (place_renamed d)
    renamed (a.Decay d) = a.Decay (place_renamed d)
    renamed (a.AddressOf d) = a.AddressOf (place_renamed d)
    renamed (a.Convert how d) = a.Convert how (renamed d)
    renamed (a.Minus d) = a.Minus (renamed d)
    renamed (a.Complement d) = a.Complement (renamed d)
    renamed (a.Not d) = a.Not (truth_renamed d)
    renamed (a.Arithmetic c d) = a.Arithmetic (renamed c) (renamed d)
    renamed (a.Move c d) = a.Move (renamed c) (renamed d)
    renamed (a.Distance c d) = a.Distance (renamed c) (renamed d)
    renamed (a.Compare c d) = a.Compare (renamed c) (renamed d)
    renamed (a.Logical c d) = a.Logical (truth_renamed c) (truth_renamed d)
    renamed (a.Conditional b c d) = a.Conditional (truth_renamed b) (renamed c) (renamed d)
    renamed (a.Assign c d) = a.Assign (place_renamed c) (renamed d)
    renamed (a.Update c d) = a.Update (place_renamed c) (renamed d)
    renamed (a.UpdatePointer c d) = a.UpdatePointer (place_renamed c) (renamed d)
    renamed (a.Step d) = a.Step (place_renamed d)
    renamed (a.StepPointer d) = a.StepPointer (place_renamed d)
    renamed (a.Call d) = a.Call (all_renamed d)
    renamed (a.Comma d) = a.Comma (all_renamed d)
    renamed (a.Marked c d) = a.Marked (marks_renamed c) (renamed d)
    renamed (a.Decide d) = a.Decide (truth_renamed d)
    renamed (a.After d) = a.After (renamed d)
    renamed (a.labels_after {ms = ms} h d) = a.labels_after (new_still ms h) (renamed d)
    renamed (a.in_front {ms = ms} {v = v} h g f d) = a.in_front (new_still ms h) (marked_still v ∙ g) (type_with r v ∙ f) (renamed d)

    all_renamed : {vs ws : Values} → AddsAll new vs ws → AddsAll new (values_with r vs) (values_with r ws)
    all_renamed a.no_values = a.no_values
    all_renamed (a.a_value c d) = a.a_value (renamed c) (all_renamed d)

    place_renamed : {p q : Place} → AddsPlace new p q → AddsPlace new (place_with r p) (place_with r q)
    place_renamed a.Object = a.Object
    place_renamed (a.Pointed d) = a.Pointed (renamed d)
    place_renamed (a.Element c d) = a.Element (renamed c) (renamed d)
    place_renamed (a.Part d) = a.Part (place_renamed d)
    place_renamed (a.Held d) = a.Held (renamed d)

    truth_renamed : {v w : Value} → AddsTruth new v w → AddsTruth new (value_with r v) (value_with r w)
    truth_renamed (a.as_value d) = a.as_value (renamed d)
    truth_renamed (a.round h g d) = a.round h g (truth_renamed d)
    truth_renamed (a.before {ms = ms} h d) = a.before (new_still ms h) (truth_renamed d)
    truth_renamed (a.behind c d) = a.behind (marks_renamed c) (truth_renamed d)

    marks_renamed : {ms ns : Marks} → AddsMarks new ms ns → AddsMarks new (marks_with r ms) (marks_with r ns)
    marks_renamed a.no_marks = a.no_marks
    marks_renamed (a.kept c d) = a.kept (keeps_renamed c) (marks_renamed d)
    marks_renamed (a.added h d) = a.added h (marks_renamed d)

    keeps_renamed : {m : Mark} → Keeps new m → Keeps new (mark_with r m)
    keeps_renamed (a.a_kept_mark c d) = a.a_kept_mark (renamed c) (bound_renamed d)

    bound_renamed : {bound : Bindings} → KeepsBound new bound → KeepsBound new (bindings_with r bound)
    bound_renamed a.no_bindings = a.no_bindings
    bound_renamed (a.a_binding c d) = a.a_binding (renamed c) (bound_renamed d)

  -- ---- initialisers

  part_renamed : (p q : StartPart) → AddsPart new p q → AddsPart new (part_with r p) (part_with r q)
  part_renamed (e.stored m v) (e.stored n w) h = (h.0, type_with r v ∙ h.1 ∙ sym (type_with r w), renamed h.2)
  part_renamed (e.fixed m t c) q h = ap (part_with r) h
  part_renamed (e.letters m s bytes) q h = ap (part_with r) h
  part_renamed (e.stored m v) (e.fixed n t c) h = absurd h
  part_renamed (e.stored m v) (e.letters n s bytes) h = absurd h

  parts_renamed : (ps qs : List StartPart) → AddsParts new ps qs → AddsParts new (parts_with r ps) (parts_with r qs)
  parts_renamed [] [] h = tt
  parts_renamed (p ∷ ps) (q ∷ qs) h = (part_renamed p q h.0, parts_renamed ps qs h.1)
  parts_renamed [] (q ∷ qs) h = absurd h
  parts_renamed (p ∷ ps) [] h = absurd h

  start_renamed : (x y : Option Start) → AddsStart new x y → AddsStart new (start_with r x) (start_with r y)
  start_renamed None None h = tt
  start_renamed (Some x) (Some y) h = (h.0, parts_renamed x.parts y.parts h.1)
  start_renamed None (Some y) h = absurd h
  start_renamed (Some x) None h = absurd h

  local_renamed : (x y : Local) → AddsLocal new x y → AddsLocal new (local_with r x) (local_with r y)
  local_renamed x y h = (ap r h.0, start_renamed x.start y.start h.1)

  locals_renamed : (xs ys : List Local) → AddsLocals new xs ys → AddsLocals new (locals_with r xs) (locals_with r ys)
  locals_renamed [] [] h = tt
  locals_renamed (x ∷ xs) (y ∷ ys) h = (local_renamed x y h.0, locals_renamed xs ys h.1)
  locals_renamed [] (y ∷ ys) h = absurd h
  locals_renamed (x ∷ xs) [] h = absurd h

  -- ---- statements

  optional_renamed : (v w : Option Value) → AddsOptional (Adds new) v w → AddsOptional (Adds new) (optional_with r v) (optional_with r w)
  optional_renamed None None h = tt
  optional_renamed (Some v) (Some w) h = renamed h
  optional_renamed None (Some w) h = absurd h
  optional_renamed (Some v) None h = absurd h

  optional_truth_renamed : (v w : Option Value) → AddsOptional (AddsTruth new) v w → AddsOptional (AddsTruth new) (optional_with r v) (optional_with r w)
  optional_truth_renamed None None h = tt
  optional_truth_renamed (Some v) (Some w) h = truth_renamed h
  optional_truth_renamed None (Some w) h = absurd h
  optional_truth_renamed (Some v) None h = absurd h

  for_start_renamed : (x y : e.ForStart) → AddsForStart new x y → AddsForStart new (for_start_with r x) (for_start_with r y)
  for_start_renamed e.Nothing e.Nothing h = tt
  for_start_renamed (e.First v) (e.First w) h = renamed h
  for_start_renamed (e.Locals xs) (e.Locals ys) h = locals_renamed xs ys h
  for_start_renamed e.Nothing (e.First w) h = absurd h
  for_start_renamed e.Nothing (e.Locals ys) h = absurd h
  for_start_renamed (e.First v) e.Nothing h = absurd h
  for_start_renamed (e.First v) (e.Locals ys) h = absurd h
  for_start_renamed (e.Locals xs) e.Nothing h = absurd h
  for_start_renamed (e.Locals xs) (e.First w) h = absurd h

  mutual
    statement_renamed : {c d : Statement} → AddsStatement new c d → AddsStatement new (statement_with r c) (statement_with r d)
    statement_renamed (a.Compound d) = a.Compound (items_renamed d)
    statement_renamed (a.Evaluates d) = a.Evaluates (renamed d)
    statement_renamed a.Null = a.Null
    statement_renamed (a.If c d) = a.If (truth_renamed c) (statement_renamed d)
    statement_renamed (a.IfElse b c d) = a.IfElse (truth_renamed b) (statement_renamed c) (statement_renamed d)
    statement_renamed (a.While c d) = a.While (truth_renamed c) (statement_renamed d)
    statement_renamed (a.Do c d) = a.Do (statement_renamed c) (truth_renamed d)
    statement_renamed (a.For {x} {y} {v} {w} {s = s1} {r = s2} h g f d) = a.For (for_start_renamed x y h) (optional_truth_renamed v w g) (optional_renamed s1 s2 f) (statement_renamed d)
    statement_renamed (a.Switch c d) = a.Switch (renamed c) (cases_renamed d)
    statement_renamed a.Break = a.Break
    statement_renamed a.Continue = a.Continue
    statement_renamed (a.Return {v} {w} h) = a.Return (optional_renamed v w h)

    items_renamed : {is js : Items} → AddsItems new is js → AddsItems new (items_with r is) (items_with r js)
    items_renamed a.no_items = a.no_items
    items_renamed (a.a_local {a = x} {b = y} h d) = a.a_local (local_renamed x y h) (items_renamed d)
    items_renamed (a.a_statement c d) = a.a_statement (statement_renamed c) (items_renamed d)
    items_renamed (a.a_label c d) = a.a_label (keeps_renamed c) (items_renamed d)
    items_renamed (a.an_added_label h d) = a.an_added_label h (items_renamed d)

    cases_renamed : {cs ds : Cases} → AddsCases new cs ds → AddsCases new (cases_with r cs) (cases_with r ds)
    cases_renamed a.no_cases = a.no_cases
    cases_renamed (a.a_case c d) = a.a_case (statement_renamed c) (cases_renamed d)

  -- ---- functions

  function_renamed : (f g : Function) → AddsFunction new f g → AddsFunction new (function_with r f) (function_with r g)
  function_renamed f g h = record { name = h.name; type = h.type; parameters = ap (map r) h.parameters; body = items_renamed h.body }

  pub functions_renamed : (fs gs : List Function) → AddsFunctions new fs gs → AddsFunctions new (map (function_with r) fs) (map (function_with r) gs)
  functions_renamed [] [] h = tt
  functions_renamed (f ∷ fs) (g ∷ gs) h = (function_renamed f g h.0, functions_renamed fs gs h.1)
  functions_renamed [] (g ∷ gs) h = absurd h
  functions_renamed (f ∷ fs) [] h = absurd h
