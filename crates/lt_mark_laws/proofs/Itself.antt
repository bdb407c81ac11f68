-- A program is itself with no marks added.
use Rattle.std.proofs.Common.{ℕ, Bool, List, [], ◌∷◌, Option, Some, None, refl}
use Rattle.lt_tree.specs.Typing.TypedTree as e
use Rattle.lt_tree.specs.Typing.TypedTree.{Value, Values, Place, Marks, Mark, Bindings, Statement, Items, Cases, Local, Start, StartPart}
use Rattle.lt_tree.specs.Typing.Entities.{Function, Object}
use Rattle.lt_mark_laws.specs.Added as a
use Rattle.lt_mark_laws.specs.Added.{Adds, AddsTruth, AddsAll, AddsPlace, AddsMarks, Keeps, KeepsBound, AddsPart, AddsParts, AddsStart, AddsLocal, AddsLocals, AddsOptional, AddsForStart, AddsStatement, AddsItems, AddsCases, AddsFunction, AddsFunctions, AddsProgram, AreSameObjects}
use Rattle.lt_mark_laws.specs.Laws.{ProgramsAreThemselves}

module _ (new : ℕ → Bool) where
  mutual
    pub itself : (v : Value) → Adds new v v
    itself (e.Constant t z) = a.Constant
    itself (e.Load t p) = a.Load (place p)
    itself (e.Whole t p) = a.Whole (place p)
    itself (e.Decay t p) = a.Decay (place p)
    itself (e.AddressOf t p) = a.AddressOf (place p)
    itself (e.Convert how t v) = a.Convert how (itself v)
    itself (e.Minus t v) = a.Minus (itself v)
    itself (e.Complement t v) = a.Complement (itself v)
    itself (e.Not t v) = a.Not (a.as_value (itself v))
    itself (e.Arithmetic t op s x y) = a.Arithmetic (itself x) (itself y)
    itself (e.Move t op size side x y) = a.Move (itself x) (itself y)
    itself (e.Distance t size x y) = a.Distance (itself x) (itself y)
    itself (e.Compare t op x y) = a.Compare (itself x) (itself y)
    itself (e.Logical t op x y) = a.Logical (a.as_value (itself x)) (a.as_value (itself y))
    itself (e.Conditional t test x y) = a.Conditional (a.as_value (itself test)) (itself x) (itself y)
    itself (e.Assign t p v) = a.Assign (place p) (itself v)
    itself (e.Update t op s p v) = a.Update (place p) (itself v)
    itself (e.UpdatePointer t op size p v) = a.UpdatePointer (place p) (itself v)
    itself (e.Step t when op s p) = a.Step (place p)
    itself (e.StepPointer t when op size p) = a.StepPointer (place p)
    itself (e.Call t f vs) = a.Call (all vs)
    itself (e.Comma t vs) = a.Comma (all vs)
    itself (e.Marked t ms v) = a.Marked (marks ms) (itself v)
    itself (e.Decide t v p q) = a.Decide (a.as_value (itself v))
    itself (e.After t v id) = a.After (itself v)

    all : (vs : Values) → AddsAll new vs vs
    all e.no_values = a.no_values
    all (e.a_value v vs) = a.a_value (itself v) (all vs)

    pub place : (p : Place) → AddsPlace new p p
    place (e.Object t n) = a.Object
    place (e.Pointed t v) = a.Pointed (itself v)
    place (e.Element t size side x y) = a.Element (itself x) (itself y)
    place (e.Part t offset p) = a.Part (place p)
    place (e.Held t v) = a.Held (itself v)

    marks : (ms : Marks) → AddsMarks new ms ms
    marks e.no_marks = a.no_marks
    marks (e.a_mark m ms) = a.kept (mark m) (marks ms)

    pub mark : (m : Mark) → Keeps new m
    mark (e.mark predicate id bound) = a.a_kept_mark (itself predicate) (bindings bound)

    bindings : (bound : Bindings) → KeepsBound new bound
    bindings e.no_bindings = a.no_bindings
    bindings (e.a_binding name v rest) = a.a_binding (itself v) (bindings rest)

  -- ---- initialisers

  part : (p : StartPart) → AddsPart new p p
  part (e.stored offset v) = (refl, refl, itself v)
  part (e.fixed offset t c) = refl
  part (e.letters offset s bytes) = refl

  pub parts : (ps : List StartPart) → AddsParts new ps ps
  parts [] = tt
  parts (p ∷ ps) = (part p, parts ps)

  start : (x : Option Start) → AddsStart new x x
  start None = tt
  start (Some x) = (refl, parts x.parts)

  local : (x : Local) → AddsLocal new x x
  local x = (refl, start x.start)

  pub locals : (xs : List Local) → AddsLocals new xs xs
  locals [] = tt
  locals (x ∷ xs) = (local x, locals xs)

  -- ---- statements

  optional : (v : Option Value) → AddsOptional (Adds new) v v
  optional None = tt
  optional (Some v) = itself v

  optional_truth : (v : Option Value) → AddsOptional (AddsTruth new) v v
  optional_truth None = tt
  optional_truth (Some v) = a.as_value (itself v)

  for_start : (x : e.ForStart) → AddsForStart new x x
  for_start e.Nothing = tt
  for_start (e.First v) = itself v
  for_start (e.Locals xs) = locals xs

  mutual
    statement : (c : Statement) → AddsStatement new c c
    statement (e.Compound is) = a.Compound (items is)
    statement (e.Evaluates v) = a.Evaluates (itself v)
    statement e.Null = a.Null
    statement (e.If v c) = a.If (a.as_value (itself v)) (statement c)
    statement (e.IfElse v c d) = a.IfElse (a.as_value (itself v)) (statement c) (statement d)
    statement (e.While v c) = a.While (a.as_value (itself v)) (statement c)
    statement (e.Do c v) = a.Do (statement c) (a.as_value (itself v))
    statement (e.For x v s c) = a.For (for_start x) (optional_truth v) (optional s) (statement c)
    statement (e.Switch v cs) = a.Switch (itself v) (cases cs)
    statement e.Break = a.Break
    statement e.Continue = a.Continue
    statement (e.Return v) = a.Return (optional v)

    items : (is : Items) → AddsItems new is is
    items e.no_items = a.no_items
    items (e.a_local x is) = a.a_local (local x) (items is)
    items (e.a_statement c is) = a.a_statement (statement c) (items is)
    items (e.a_label m is) = a.a_label (mark m) (items is)

    cases : (cs : Cases) → AddsCases new cs cs
    cases e.no_cases = a.no_cases
    cases (e.a_case labels c cs) = a.a_case (statement c) (cases cs)

  -- ---- programs

  function : (f : Function) → AddsFunction new f f
  function f = record { name = refl; type = refl; parameters = refl; body = items f.body }

  functions : (fs : List Function) → AddsFunctions new fs fs
  functions [] = tt
  functions (f ∷ fs) = (function f, functions fs)

objects : (xs : List Object) → AreSameObjects xs xs
objects [] = tt
objects (x ∷ xs) = (refl, objects xs)

pub themselves : ProgramsAreThemselves
themselves new = ((λ p. record { model = refl; structs = refl; objects = objects p.objects; types = refl; functions = functions new p.functions }), function new)
