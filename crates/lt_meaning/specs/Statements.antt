-- What statements do, C11 6.8: each but a block and a mark spends a tick at its start, and a loop one at each test.
use Rattle.std.specs.Prelude.{ℕ, zero, suc, ℤ, pos, ◌+◌, List, [], ◌∷◌, Bool, true, false, ◌||◌, Option, Some, None}
use Rattle.std.specs.Prelude.{if◌then◌else◌, slice_get}
use Rattle.std.specs.Ordering.{int_eq}
use Rattle.std.specs.List.{list_any}
use Rattle.lt_model.specs.declared.cell.Content.{Content}
use Rattle.lt_model.specs.declared.cell.Content.TheVariants as content
use Rattle.lt_model.specs.declared.scalar.Scalar.{Scalar}
use Rattle.lt_model.specs.declared.run.End.TheVariants.{Steps}
use Rattle.lt_model.specs.State.{untouched}
use Rattle.lt_tree.specs.Typing.Types.{CType, Void, Num, is_struct}
use Rattle.lt_tree.specs.Typing.TypedTree as e
use Rattle.lt_tree.specs.Typing.TypedTree.{Value, Statement, Items, Cases, Label, Local, Start, StartPart, type_of}
use Rattle.lt_tree.specs.Typing.Entities.{is_sealed}
use Rattle.lt_tree.specs.Typing.Programs.{Program}
use Rattle.lt_ir.specs.declared.variable.Variable.{Variable}
use Rattle.lt_ir.specs.Running.{Step, gives, over, absurdity, ◌>>=◌, ◌>>◌, tick, place, begins, ends, seals}
use Rattle.lt_ir.specs.Evaluation.{number_in, truth_in, used, stored, member_at}
use Rattle.lt_meaning.specs.Expressions.{tracking, Around, wanted, dropped, untaken, shape, cell_type, assigned, eval}
use Rattle.lt_meaning.specs.Expressions.{marked}

-- how a statement is done
pub data Flow : Type 0 where
  Next : Flow
  Breaks : Flow
  Continues : Flow
  Returns : (value : Option Content) → Flow

-- goes on behind a statement that is done normally
abbrev pub after : Flow → Step Flow → Step Flow
after Next go = go
after flow go = gives flow

-- goes on to the next turn of a loop
abbrev pub next_turn : Flow → Step Flow → Step Flow
next_turn Next go = go
next_turn Continues go = go
next_turn Breaks go = gives Next
next_turn (Returns c) go = gives (Returns c)

abbrev pub left_switch : Flow → Flow
left_switch Breaks = Next
left_switch flow = flow

-- ---- objects and how they start, C11 6.2.4 and 6.7.9

abbrev pub type_of_object : Program → ℕ → CType
type_of_object program n = elim (slice_get program.objects n) [ None ↦ Void | Some object ↦ object.type ]

abbrev pub is_sealed_object : Program → ℕ → Bool
is_sealed_object program n = elim (slice_get program.objects n) [ None ↦ false | Some object ↦ is_sealed object ]

-- a content goes to a part of a variable
abbrev pub put_at : Program → Variable → ℕ → CType → Content → Step (Unit {0})
put_at program v offset t c = do
  a ← place v
  p ← member_at offset a
  stored false program.model (cell_type program t) p c untouched
  gives tt

-- bytes go to the characters from this offset on
abbrev pub spelled : Program → Variable → Scalar → ℕ → List ℕ → Step (Unit {0})
spelled program v s offset [] = gives tt
spelled program v s offset (b ∷ bytes) =
    put_at program v offset (Num s) (content.Number (pos b)) >> spelled program v s (offset + 1) bytes

-- A full expression's value goes to its part of the variable: behind the expression's end nothing clashes.
abbrev pub filled : Around → Variable → StartPart → Step (Unit {0})
filled here v (e.stored offset value) = do
  a ← place v
  p ← member_at offset a
  x ← eval here wanted value
  assigned (tracking false here) (type_of value) p x.value untouched (is_struct (type_of value))
  gives tt
filled here v (e.fixed offset t c) = absurdity
filled here v (e.letters offset s bytes) = spelled here.program v s offset bytes

abbrev pub filled_all : Around → Variable → List StartPart → Step (Unit {0})
filled_all here v [] = gives tt
filled_all here v (part ∷ parts) = filled here v part >> filled_all here v parts

abbrev pub is_zeroed : Option Start → Bool
is_zeroed None = false
is_zeroed (Some start) = start.zeroed

abbrev pub parts_in : Option Start → List StartPart
parts_in None = []
parts_in (Some start) = start.parts

abbrev pub sealed_if : Bool → Variable → Step (Unit {0})
sealed_if false v = gives tt
sealed_if true v = seals v

-- a variable's lifetime begins, and it gets its first value
abbrev pub opened : Around → Local → Step (Unit {0})
opened here local =
    begins (here.variable local.object) (shape here.program (type_of_object here.program local.object))
    (is_zeroed local.start)
    >> (filled_all here (here.variable local.object) (parts_in local.start)
    >> sealed_if (is_sealed_object here.program local.object) (here.variable local.object))

-- what follows a declaration, at whose end the variable ends however it is left
abbrev pub within : Around → Local → Step Flow → Step Flow
within here local rest = do
  opened here local
  flow ← rest
  ends (here.variable local.object)
  gives flow

-- the variables of a `for`
abbrev pub within_all : Around → List Local → Step Flow → Step Flow
within_all here [] rest = rest
within_all here (local ∷ locals) rest = within here local (within_all here locals rest)

-- ---- tests

abbrev pub tested : Around → Value → Step Bool
tested here v = eval here wanted v >>= (λ x. truth_in x.value)

-- a missing test holds
abbrev pub tested_if : Around → Option Value → Step Bool
tested_if here None = gives true
tested_if here (Some v) = tested here v

-- a value that isn't used; a call in the head of a `for` takes one all the same
abbrev pub stepped : Around → Option Value → Step (Unit {0})
stepped here None = gives tt
stepped here (Some v) = eval here dropped v >> gives tt

-- ---- loops, with at most so many tests

abbrev pub turns : ℕ → Step Bool → Step (Unit {0}) → Step Flow → Step Flow
turns zero test step body = over Steps
turns (suc n) test step body = do
  tick
  holds ← test
  if holds then (do
    flow ← body
    next_turn flow (step >> turns n test step body)) else gives Next

abbrev pub do_turns : ℕ → Step Bool → Step Flow → Step Flow
do_turns zero test body = over Steps
do_turns (suc n) test body = do
  flow ← body
  next_turn flow (do
    tick
    holds ← test
    if holds then do_turns n test body else gives Next)

-- a loop has fewer tests than there are ticks, and one more
abbrev pub looped : Around → Option Value → Option Value → Step Flow → Step Flow
looped here test step body = λ at. turns (suc at.ticks) (tested_if here test) (stepped here step) body at

abbrev pub do_looped : Around → Value → Step Flow → Step Flow
do_looped here test body = λ at. do_turns (suc at.ticks) (tested here test) body at

-- ---- `switch`

abbrev pub is_case : ℤ → Label → Bool
is_case z (e.Case value) = int_eq value z
is_case z e.Default = false

abbrev pub is_default : Label → Bool
is_default (e.Case value) = false
is_default e.Default = true

abbrev pub has_label : (Label → Bool) → Cases → Bool
has_label test e.no_cases = false
has_label test (e.a_case labels first rest) = list_any test labels || has_label test rest

-- the label at which the body begins: the case of the value if there is one, else the default
abbrev pub entry_label : ℤ → Cases → Label → Bool
entry_label z cases = if has_label (is_case z) cases then is_case z else is_default

-- ---- statements

abbrev mutual
  pub exec : Around → Statement → Step Flow
  exec here (e.Compound items) = exec_items here items
  exec here (e.Evaluates v) = tick >> (eval here untaken v >> gives Next)
  exec here e.Null = tick >> gives Next
  exec here (e.If test body) = do
    tick
    holds ← tested here test
    if holds then exec here body else gives Next
  exec here (e.IfElse test body other) = do
    tick
    holds ← tested here test
    if holds then exec here body else exec here other
  exec here (e.While test body) = tick >> looped here (Some test) None (exec here body)
  exec here (e.Do body test) = tick >> do_looped here test (exec here body)
  exec here (e.For e.Nothing test step body) = tick >> looped here test step (exec here body)
  exec here (e.For (e.First v) test step body) = tick >> (eval here dropped v >> looped here test step (exec here body))
  exec here (e.For (e.Locals locals) test step body) =
      tick >> within_all here locals (looped here test step (exec here body))
  exec here (e.Switch operand cases) = do
    tick
    z ← eval here wanted operand >>= (λ x. number_in x.value)
    flow ← exec_cases here (entry_label z cases) false cases
    gives (left_switch flow)
  exec here e.Break = tick >> gives Breaks
  exec here e.Continue = tick >> gives Continues
  exec here (e.Return None) = tick >> gives (Returns None)
  exec here (e.Return (Some v)) =
      tick >> (eval here wanted v >>= (λ x. used x.value) >>= (λ c. gives (Returns (Some c))))

  -- the items of a block
  pub exec_items : Around → Items → Step Flow
  exec_items here e.no_items = gives Next
  exec_items here (e.a_local local rest) = within here local (exec_items here rest)
  exec_items here (e.a_statement first rest) = exec here first >>= (λ flow. after flow (exec_items here rest))
  exec_items here (e.a_label label rest) = λ at. exec_items here rest (marked here label at)

  -- the statements of a `switch` from its label on
  pub exec_cases : Around → (Label → Bool) → (runs : Bool) → Cases → Step Flow
  exec_cases here entry runs e.no_cases = gives Next
  exec_cases here entry runs (e.a_case labels first rest) =
      if runs || list_any entry labels then exec here first >>= (λ flow. after flow (exec_cases here entry true rest))
      else exec_cases here entry false rest
