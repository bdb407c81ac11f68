-- The state of a run, C11 5.1.2.3, and what an evaluation gives: a value and the state that follows, or the end of the
-- run.
use Rattle.std.specs.Prelude.{ℕ, zero, suc, ℤ, ◌+◌, ◌∷◌, [], ◌++◌, List, length, Bool, true, false, nat_eq, nat_lt}
use Rattle.std.specs.Prelude.{Option, Some, None, Result, Ok, Err, if◌then◌else◌, slice_get}
use Rattle.std.specs.Str.{bytes_eq}
use Rattle.lt_model.specs.declared.cell.Address.{Address}
use Rattle.lt_model.specs.declared.cell.Content.{Content}
use Rattle.lt_model.specs.declared.cell.Content.TheVariants as content
use Rattle.lt_model.specs.declared.cell.Shape.{Shape}
use Rattle.lt_model.specs.declared.operator.Ub.{Ub}
use Rattle.lt_model.specs.declared.run.End.{End}
use Rattle.lt_model.specs.declared.run.End.TheVariants.{Stopped, Undefined, NoInput, Steps, Deep, Cells}
use Rattle.lt_ir.specs.declared.variable.Variable.{Variable}
use Rattle.lt_ir.specs.declared.variable.Variable.TheVariants.{Parameter, Local, Static as StaticObject}
use Rattle.lt_model.specs.State.{Binding, Made, Left, Gives, Ends}
use Rattle.lt_model.specs.State as state
use Rattle.lt_model.specs.Memory.{Memory, create_shaped, end_block, seal_block}

-- a variable that is in scope, and its block
abbrev pub Bound : Type 0
Bound = state.Bound Variable

-- where a run stands
abbrev pub At : Type 0
At = state.At Variable

abbrev pub Answer : Type 0 → Type 0
Answer A = state.Answer Variable A

abbrev pub Step : Type 0 → Type 0
Step A = At → Answer A

-- goes on with the value, unless the run is over
infixl 10 ◌>>=◌
abbrev pub ◌>>=◌ : {A B : Type 0} → Step A → (A → Step B) → Step B
(step >>= go) at = elim (step at) [ Gives a at1 ↦ go a at1 | Ends end at1 ↦ Ends end at1 ]

infixl 10 ◌>>◌
abbrev pub ◌>>◌ : {A B : Type 0} → Step A → Step B → Step B
step >> go = step >>= (λ _. go)

abbrev pub gives : {A : Type 0} → A → Step A
gives a at = Gives a at

-- the run is over
abbrev pub over : {A : Type 0} → End → Step A
over end at = Ends end at

-- undefined behaviour ends the run
abbrev pub defined : {A : Type 0} → Result A Ub → Step A
defined (Ok a) = gives a
defined (Err kind) = over (Undefined kind)

-- What no typed program comes to, as the sum of an address and a number, stops the run.
abbrev pub absurdity : {A : Type 0} → Step A
absurdity = over Stopped

-- something that is asked of memory
abbrev pub asked : {A : Type 0} → (Memory → Result A Ub) → Step A
asked question at = defined (question at.memory) at

-- memory is changed
abbrev pub changed : (Memory → Result Memory Ub) → Step (Unit {0})
changed change at =
    elim (change at.memory) [
      | Ok memory ↦ Gives tt (record at { memory = memory })
      | Err kind ↦ Ends (Undefined kind) at
    ]

-- ---- ticks, calls and marks

abbrev pub spent : ℕ → Step (Unit {0})
spent zero at = Ends Steps at
spent (suc n) at = Gives tt (record at { ticks = n })

abbrev pub tick : Step (Unit {0})
tick at = spent at.ticks at

-- the most active calls, the entry's included
abbrev pub most_calls : ℕ
most_calls = 1024

abbrev pub one_deeper : Step (Unit {0})
one_deeper at = if nat_lt at.depth most_calls then Gives tt (record at { depth = at.depth + 1 }) else Ends Deep at

abbrev pub marks : ℕ → Bool → List Binding → At → At
marks id is_true bound at = record at { marks = at.marks ++ record { id = id; truth = is_true; bound = bound } ∷ [] }

-- what an evaluation gives, if it gives something; whatever else it does is forgotten
abbrev pub quietly : {A : Type 0} → Step A → At → Option A
quietly step at = elim (step at) [ Gives a at1 ↦ Some a | Ends end at1 ↦ None ]

abbrev pub one_more : List ℕ → Option ℤ → Option (List Binding) → Option (List Binding)
one_more name (Some z) (Some bound) = Some (record { name = name; value = z } ∷ bound)
one_more name z bound = None

-- A mark is true where its predicate is and each bound expression has a value.
abbrev pub marked_with : ℕ → Option Bool → Option (List Binding) → At → At
marked_with id (Some b) (Some bound) at = marks id b bound at
marked_with id b bound at = marks id false [] at

-- ---- variables, C11 6.2.4

abbrev pub same_variable : Variable → Variable → Bool
same_variable (Parameter m) (Parameter n) = nat_eq m n
same_variable (Local m) (Local n) = nat_eq m n
same_variable (StaticObject m) (StaticObject n) = nat_eq m n
same_variable v w = false

abbrev pub block_among : List Bound → Variable → Option ℕ
block_among [] v = None
block_among (bound ∷ scope) v = if same_variable bound.variable v then Some bound.block else block_among scope v

abbrev pub without : List Bound → Variable → List Bound
without [] v = []
without (bound ∷ scope) v = if same_variable bound.variable v then scope else bound ∷ without scope v

abbrev pub is_alive : Memory → ℕ → Bool
is_alive memory block = elim (slice_get memory block) [ None ↦ false | Some it ↦ it.alive ]

abbrev pub if_living : Memory → Option ℕ → Option ℕ
if_living memory None = None
if_living memory (Some block) = if is_alive memory block then Some block else None

-- the block of a variable in scope, whose lifetime lasts
abbrev pub living_block : Variable → At → Option ℕ
living_block v at = if_living at.memory (block_among at.scope v)

-- something that is done with the block of a variable
abbrev pub with_block : {A : Type 0} → Variable → (ℕ → Step A) → Step A
with_block v go at = elim (living_block v at) [ None ↦ absurdity at | Some block ↦ go block at ]

-- where a variable lies
abbrev pub place : Variable → Step (Option Address)
place v = with_block v (λ block. gives (Some (record { block = block; offset = 0 })))

-- one more object, unless too many cells would be alive; its block
abbrev pub created : Shape → (is_zeroed : Bool) → Step ℕ
created shape is_zeroed at =
    elim (create_shaped at.memory shape is_zeroed true) [
      | None ↦ Ends Cells at
      | Some memory ↦ Gives (length at.memory) (record at { memory = memory })
    ]

abbrev pub bound_to : Variable → ℕ → Step (Unit {0})
bound_to v block at = Gives tt (record at { scope = record { variable = v; block = block } ∷ at.scope })

abbrev pub is_begun : Variable → At → Bool
is_begun v at = elim (living_block v at) [ None ↦ false | Some block ↦ true ]

-- a variable's lifetime begins; it can't begin twice
abbrev pub begins : Variable → Shape → (is_zeroed : Bool) → Step (Unit {0})
begins v shape is_zeroed at = if is_begun v at then absurdity at else (created shape is_zeroed >>= bound_to v) at

-- its lifetime is over
abbrev pub ends : Variable → Step (Unit {0})
ends v =
    with_block v (λ block at. Gives tt (record at { scope = without at.scope v; memory = end_block at.memory block }))

-- it can't be written from now on
abbrev pub seals : Variable → Step (Unit {0})
seals v = with_block v (λ block at. Gives tt (record at { memory = seal_block at.memory block }))

-- ---- values that are left for functions without a body

abbrev pub put_before : Left → Option (ℤ × List Left) → Option (ℤ × List Left)
put_before left None = None
put_before left (Some (z, lefts)) = Some (z, left ∷ lefts)

abbrev pub first_value : List ℕ → List ℤ → List Left → Option (ℤ × List Left)
first_value name [] lefts = None
first_value name (z ∷ zs) lefts = Some (z, record { stub = name; values = zs } ∷ lefts)

-- the next value for a function, and what is left then
abbrev pub next_value : List ℕ → List Left → Option (ℤ × List Left)
next_value name [] = None
next_value name (left ∷ lefts) =
    if bytes_eq left.stub name then first_value name left.values lefts else put_before left (next_value name lefts)

abbrev pub took : List ℕ → At → Option (ℤ × List Left) → Answer Content
took name at None = Ends (NoInput name) at
took name at (Some (z, lefts)) = Gives (content.Number z) (record at { stubs = lefts })

abbrev pub stub_value : List ℕ → Step Content
stub_value name at = took name at (next_value name at.stubs)

-- ---- parameters, C11 6.9.1

abbrev pub is_static : Variable → Bool
is_static (StaticObject n) = true
is_static v = false

-- in a body only objects that are there from the start are in scope, beside its own
abbrev pub statics_of : List Bound → List Bound
statics_of [] = []
statics_of (bound ∷ scope) = if is_static bound.variable then bound ∷ statics_of scope else statics_of scope

abbrev pub with_scope : List Bound → Step (Unit {0})
with_scope scope at = Gives tt (record at { scope = scope })

abbrev pub begin_parameters : ℕ → List Shape → Step (Unit {0})
begin_parameters k [] = gives tt
begin_parameters k (shape ∷ shapes) = begins (Parameter k) shape false >> begin_parameters (suc k) shapes

-- the last first
abbrev pub end_parameters : ℕ → List Shape → Step (Unit {0})
end_parameters k [] = gives tt
end_parameters k (shape ∷ shapes) = end_parameters (suc k) shapes >> ends (Parameter k)

-- how a run is over: its end, and where it stood
pub record Over : Type 0 where
  pub end : End
  pub at : At
