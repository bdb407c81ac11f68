-- The types by which the code of a typed program gets at memory: of what is loaded, stored and stepped.
use Rattle.std.specs.Prelude.{◌≡◌, Bool, true, List, [], ◌∷◌, Option, Some, None}
use Rattle.std.specs.List.{list_any}
use Rattle.lt_tree.specs.Typing.Types.{CType, Num, Qualified, bare, same}
use Rattle.lt_tree.specs.Typing.TypedTree as e
use Rattle.lt_tree.specs.Typing.TypedTree.{Value, Values, Place, Marks, Mark, Bindings, Start, StartPart, Local, Statement, Items, Cases, type_of}

-- a type's name in memory's cells is that of a number, or it is in a list
abbrev pub is_named_in : List CType → CType → Bool
is_named_in types (Num s) = true
is_named_in types (Qualified q t) = is_named_in types t
is_named_in types t = list_any (same (bare t)) types

-- ---- each type by which a tree gets at memory passes a test

abbrev mutual
  pub Accesses : (CType → Bool) → Value → Type 0
  Accesses test (e.Constant t z) = Unit {0}
  Accesses test (e.Load t p) = (test t ≡ true) × AccessesPlace test p
  Accesses test (e.Whole t p) = AccessesPlace test p
  Accesses test (e.Decay t p) = AccessesPlace test p
  Accesses test (e.AddressOf t p) = AccessesPlace test p
  Accesses test (e.Convert how t v) = Accesses test v
  Accesses test (e.Minus t v) = Accesses test v
  Accesses test (e.Complement t v) = Accesses test v
  Accesses test (e.Not t v) = Accesses test v
  Accesses test (e.Arithmetic t op s a b) = Accesses test a × Accesses test b
  Accesses test (e.Move t op size side a b) = Accesses test a × Accesses test b
  Accesses test (e.Distance t size a b) = Accesses test a × Accesses test b
  Accesses test (e.Compare t op a b) = Accesses test a × Accesses test b
  Accesses test (e.Logical t op a b) = Accesses test a × Accesses test b
  Accesses test (e.Conditional t p a b) = Accesses test p × Accesses test a × Accesses test b
  Accesses test (e.Assign t p v) = (test t ≡ true) × AccessesPlace test p × Accesses test v
  Accesses test (e.Update t op s p v) = (test t ≡ true) × AccessesPlace test p × Accesses test v
  Accesses test (e.UpdatePointer t op size p v) = (test t ≡ true) × AccessesPlace test p × Accesses test v
  Accesses test (e.Step t gives op s p) = (test t ≡ true) × AccessesPlace test p
  Accesses test (e.StepPointer t gives op size p) = (test t ≡ true) × AccessesPlace test p
  Accesses test (e.Call t f vs) = AccessesAll test vs
  Accesses test (e.Comma t vs) = AccessesAll test vs
  Accesses test (e.Marked t ms v) = AccessesMarks test ms × Accesses test v
  Accesses test (e.Decide t v when_true when_false) = Accesses test v
  Accesses test (e.After t v id) = Accesses test v

  pub AccessesAll : (CType → Bool) → Values → Type 0
  AccessesAll test e.no_values = Unit {0}
  AccessesAll test (e.a_value v vs) = Accesses test v × AccessesAll test vs

  pub AccessesPlace : (CType → Bool) → Place → Type 0
  AccessesPlace test (e.Object t n) = Unit {0}
  AccessesPlace test (e.Pointed t v) = Accesses test v
  AccessesPlace test (e.Element t size side a b) = Accesses test a × Accesses test b
  AccessesPlace test (e.Part t offset p) = AccessesPlace test p
  AccessesPlace test (e.Held t v) = Accesses test v

  pub AccessesMarks : (CType → Bool) → Marks → Type 0
  AccessesMarks test e.no_marks = Unit {0}
  AccessesMarks test (e.a_mark m ms) = AccessesMark test m × AccessesMarks test ms

  pub AccessesMark : (CType → Bool) → Mark → Type 0
  AccessesMark test (e.mark predicate id bound) = Accesses test predicate × AccessesBindings test bound

  pub AccessesBindings : (CType → Bool) → Bindings → Type 0
  AccessesBindings test e.no_bindings = Unit {0}
  AccessesBindings test (e.a_binding name v rest) = Accesses test v × AccessesBindings test rest

-- what is stored is of the type of its value; nothing is fixed in an object that a declaration creates
abbrev pub AccessesPart : (CType → Bool) → StartPart → Type 0
AccessesPart test (e.stored offset v) = (test (type_of v) ≡ true) × Accesses test v
AccessesPart test (e.fixed offset t c) = Unit {0}
AccessesPart test (e.letters offset s bytes) = Unit {0}

abbrev pub AccessesParts : (CType → Bool) → List StartPart → Type 0
AccessesParts test [] = Unit {0}
AccessesParts test (part ∷ parts) = AccessesPart test part × AccessesParts test parts

abbrev pub AccessesStart : (CType → Bool) → Option Start → Type 0
AccessesStart test None = Unit {0}
AccessesStart test (Some start) = AccessesParts test start.parts

abbrev pub AccessesLocals : (CType → Bool) → List Local → Type 0
AccessesLocals test [] = Unit {0}
AccessesLocals test (local ∷ locals) = AccessesStart test local.start × AccessesLocals test locals

abbrev pub AccessesOptional : (CType → Bool) → Option Value → Type 0
AccessesOptional test None = Unit {0}
AccessesOptional test (Some v) = Accesses test v

abbrev pub AccessesForStart : (CType → Bool) → e.ForStart → Type 0
AccessesForStart test e.Nothing = Unit {0}
AccessesForStart test (e.First v) = Accesses test v
AccessesForStart test (e.Locals locals) = AccessesLocals test locals

abbrev mutual
  pub AccessesStatement : (CType → Bool) → Statement → Type 0
  AccessesStatement test (e.Compound list) = AccessesItems test list
  AccessesStatement test (e.Evaluates v) = Accesses test v
  AccessesStatement test e.Null = Unit {0}
  AccessesStatement test (e.If p body) = Accesses test p × AccessesStatement test body
  AccessesStatement test (e.IfElse p body other) = Accesses test p × AccessesStatement test body × AccessesStatement test other
  AccessesStatement test (e.While p body) = Accesses test p × AccessesStatement test body
  AccessesStatement test (e.Do body p) = AccessesStatement test body × Accesses test p
  AccessesStatement test (e.For start p step body) = AccessesForStart test start × AccessesOptional test p × AccessesOptional test step × AccessesStatement test body
  AccessesStatement test (e.Switch operand cases) = Accesses test operand × AccessesCases test cases
  AccessesStatement test e.Break = Unit {0}
  AccessesStatement test e.Continue = Unit {0}
  AccessesStatement test (e.Return v) = AccessesOptional test v

  pub AccessesItems : (CType → Bool) → Items → Type 0
  AccessesItems test e.no_items = Unit {0}
  AccessesItems test (e.a_local local rest) = AccessesStart test local.start × AccessesItems test rest
  AccessesItems test (e.a_statement first rest) = AccessesStatement test first × AccessesItems test rest
  AccessesItems test (e.a_label label rest) = AccessesMark test label × AccessesItems test rest

  pub AccessesCases : (CType → Bool) → Cases → Type 0
  AccessesCases test e.no_cases = Unit {0}
  AccessesCases test (e.a_case labels first rest) = AccessesStatement test first × AccessesCases test rest
