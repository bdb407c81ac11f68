-- That what an expression names is known: its labels and the functions that it calls.
use Rattle.std.specs.Prelude.{◌≡◌, ℕ, List, [], false, Some, None, slice_get}
use Rattle.lt_tree.specs.Typing.Types.{CType, is_void}
use Rattle.lt_tree.specs.Typing.Entities.{Label}
use Rattle.lt_tree.specs.Typing.Programs.{Program}
use Rattle.lt_tree.specs.Typing.TypedTree as e
use Rattle.lt_tree.specs.Typing.TypedTree.{Value, Values, Place, Marks, Mark, no_values, a_value}
use Rattle.lt_meaning.specs.Runs.{stops, is_there_first}
use Rattle.lt_code.specs.Predicates.{names_bound}
use Rattle.lt_tables.specs.Lookups.{function_number, label_number, name_among, parameter_number, local_number}
use Rattle.lt_emit.specs.Emission.{Here}

-- the program, and the names of its functions without a body that have values
pub record Named : Type 0 where
  pub program : Program
  pub stubs : List (List ℕ)

abbrev pub named_in : Here → Named
named_in here = record { program = here.program; stubs = here.stubs }

-- there is a label with this id, and it binds these names
abbrev pub HasLabel : Named → (id : ℕ) → List (List ℕ) → Type 0
HasLabel named id names =
    (k : ℕ) × (label : Label) × (label_number named.program id ≡ Some k) × (slice_get named.program.labels k ≡ Some label)
    × (label.id ≡ id) × (label.bound ≡ names)

abbrev pub IsLabelled : Here → (id : ℕ) → List (List ℕ) → Type 0
IsLabelled here = HasLabel (named_in here)

-- a function without a body that gives a value has a place among such
abbrev pub CanCall : Named → List ℕ → CType → Type 0
CanCall named name t =
    function_number named.program name ≡ None → stops name ≡ false → is_void t ≡ false
    → (k : ℕ) × (name_among 0 name named.stubs ≡ Some k)

abbrev pub HasMark : Named → Mark → Type 0
HasMark named (e.mark predicate id bound) = HasLabel named id (names_bound bound)

abbrev pub HaveMarks : Named → Marks → Type 0
HaveMarks named e.no_marks = Unit {0}
HaveMarks named (e.a_mark first rest) = HasMark named first × HaveMarks named rest

abbrev mutual
  pub Knows : Named → Value → Type 0
  Knows named (e.Constant t z) = Unit {0}
  Knows named (e.Load t p) = KnowsPlace named p
  Knows named (e.Whole t p) = KnowsPlace named p
  Knows named (e.Decay t p) = KnowsPlace named p
  Knows named (e.AddressOf t p) = KnowsPlace named p
  Knows named (e.Convert how t v) = Knows named v
  Knows named (e.Minus t v) = Knows named v
  Knows named (e.Complement t v) = Knows named v
  Knows named (e.Not t v) = Knows named v
  Knows named (e.Arithmetic t op k a b) = Knows named a × Knows named b
  Knows named (e.Move t op size side a b) = Knows named a × Knows named b
  Knows named (e.Distance t size a b) = Knows named a × Knows named b
  Knows named (e.Compare t op a b) = Knows named a × Knows named b
  Knows named (e.Logical t op a b) = Knows named a × Knows named b
  Knows named (e.Conditional t test a b) = Knows named test × Knows named a × Knows named b
  Knows named (e.Assign t p v) = KnowsPlace named p × Knows named v
  Knows named (e.Update t op k p v) = KnowsPlace named p × Knows named v
  Knows named (e.UpdatePointer t op size p v) = KnowsPlace named p × Knows named v
  Knows named (e.Step t when op k p) = KnowsPlace named p
  Knows named (e.StepPointer t when op size p) = KnowsPlace named p
  Knows named (e.Call t name vs) = CanCall named name t × KnowsAll named vs
  Knows named (e.Comma t vs) = KnowsAll named vs
  Knows named (e.Marked t ms v) = HaveMarks named ms × Knows named v
  Knows named (e.Decide t v when_true when_false) =
      Knows named v × HasLabel named when_true [] × HasLabel named when_false []
  Knows named (e.After t v id) = Knows named v × HasLabel named id []

  pub KnowsPlace : Named → Place → Type 0
  KnowsPlace named (e.Object t n) = Unit {0}
  KnowsPlace named (e.Pointed t v) = Knows named v
  KnowsPlace named (e.Element t size side a b) = Knows named a × Knows named b
  KnowsPlace named (e.Part t offset p) = KnowsPlace named p
  KnowsPlace named (e.Held t v) = Knows named v

  pub KnowsAll : Named → Values → Type 0
  KnowsAll named no_values = Unit {0}
  KnowsAll named (a_value v vs) = Knows named v × KnowsAll named vs

abbrev pub IsCallable : Here → List ℕ → CType → Type 0
IsCallable here = CanCall (named_in here)

abbrev pub IsMarked : Here → Mark → Type 0
IsMarked here = HasMark (named_in here)

abbrev pub AreMarked : Here → Marks → Type 0
AreMarked here = HaveMarks (named_in here)

abbrev pub IsKnown : Here → Value → Type 0
IsKnown here = Knows (named_in here)

abbrev pub IsKnownPlace : Here → Place → Type 0
IsKnownPlace here = KnowsPlace (named_in here)

abbrev pub AreKnown : Here → Values → Type 0
AreKnown here = KnowsAll (named_in here)

-- an object that the function's statements begin: it is no parameter, and isn't there from the start
abbrev pub IsOwn : Here → ℕ → Type 0
IsOwn here n =
    (k : ℕ) × (local_number here.function n ≡ Some k) × (parameter_number here.function n ≡ None)
    × (is_there_first here.program n ≡ false)
