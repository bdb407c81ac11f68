-- What the steps of objects and statements leave as it is: the scope, the depth, and no more ticks.
use Rattle.std.proofs.Common.{◌≡◌, ℕ, zero, suc, ◌+◌, ◌<◌, ◌≤◌, List, ◌∷◌, length, Option, Some, None, Bool, true, false, refl, ap, arith}
use Rattle.std.specs.Prelude.{if◌then◌else◌, nat_eq, nat_lt}
use Rattle.lt_model.specs.declared.cell.Shape.{Shape}
use Rattle.lt_model.specs.Memory.{Memory, create_shaped, end_block}
use Rattle.lt_model.specs.State.{Gives, Ends}
use Rattle.lt_model.specs.declared.run.End.{End as RunEnd}
use Rattle.lt_ir.specs.declared.graph.Graph.{Graph}
use Rattle.lt_ir.specs.declared.variable.Variable.{Variable}
use Rattle.lt_ir.specs.declared.variable.Variable.TheVariants.{Parameter, Local, Static}
use Rattle.lt_ir.specs.Running.{At, Bound, Answer, Over, ◌>>=◌, absurdity, tick, spent, one_deeper, most_calls, begins, ends, seals, is_begun, created, bound_to, without, same_variable, living_block}
use Rattle.lt_ir.specs.Graph.{State, Goes, Stops, step}
use Rattle.lt_code.proofs.Finishing.{finish, Finishes, Calm, go, stop}
use Rattle.lt_code.proofs.CalmSteps.{calm-with_block}

-- ---- what an answer gives holds

abbrev pub Holds : {A : Type 0} → (A → At → Type 0) → Answer A → Type 0
Holds P (Gives a at) = P a at
Holds P (Ends end at) = Unit {0}

-- a step that may end the run, with what is known of its answer
pub through_so : {A : Type 0} (graph : Graph) (P : A → At → Type 0) (c : State) (m : Answer A) (cont : A → At → State) (k : A → At → Over) → step graph c ≡ elim (m) [ Gives a at ↦ Goes (cont a at) | Ends end at ↦ Stops end at ] → Holds P m → ((a : A) (at : At) → P a at → Finishes graph (cont a at) (k a at)) → Finishes graph c (finish m k)
through_so graph P c (Gives a at) cont k e holds h = go graph c (cont a at) (k a at) e (h a at holds)
through_so graph P c (Ends end at) cont k e holds h = stop graph c end at e

pub calm-seals : (v : Variable) → Calm (seals v)
calm-seals v = calm-with_block v _ (λ b at. record { ticks = omega arith; scope = refl; depth = refl })

-- ---- ticks

abbrev pub Ticked : At → Unit {0} → At → Type 0
Ticked at u at1 = (at1.ticks < at.ticks) × (at1.scope ≡ at.scope) × (at1.depth ≡ at.depth)

pub tick_holds : (at : At) → Holds (Ticked at) (tick at)
tick_holds at = by_ticks at.ticks refl
  where
    by_ticks : (n : ℕ) → n ≡ at.ticks → Holds (Ticked at) (spent n at)
    by_ticks zero e = tt
    by_ticks (suc n) e = (omega arith, refl, refl)

-- ---- a variable's lifetime

-- it is the innermost variable in scope
abbrev pub Began : At → Variable → Unit {0} → At → Type 0
Began at v u at1 = (b : ℕ) × (at1.ticks ≤ at.ticks) × (at1.scope ≡ record { variable = v; block = b } ∷ at.scope) × (at1.depth ≡ at.depth)

pub begins_holds : (v : Variable) (shape : Shape) (is_zeroed : Bool) (at : At) → Holds (Began at v) (begins v shape is_zeroed at)
begins_holds v shape is_zeroed at = by_begun (is_begun v at)
  where
    by_memory : (o : Option Memory) → Holds (Began at v) (elim (elim (o) as (λ q. Answer ℕ) [ None ↦ Ends RunEnd.Cells at | Some memory ↦ Gives (length at.memory) (record at { memory = memory }) ]) [ Gives block at1 ↦ bound_to v block at1 | Ends end at1 ↦ Ends end at1 ])
    by_memory None = tt
    by_memory (Some memory) = (length at.memory, omega arith, refl, refl)

    by_begun : (b : Bool) → Holds (Began at v) (if b then absurdity at else (created shape is_zeroed >>= bound_to v) at)
    by_begun true = tt
    by_begun false = by_memory (create_shaped at.memory shape is_zeroed true)

pub same_number : (n : ℕ) → nat_eq n n ≡ true
same_number n = grind arith

pub same_variable_self : (v : Variable) → same_variable v v ≡ true
same_variable_self (Parameter n) = same_number n
same_variable_self (Local n) = same_number n
same_variable_self (Static n) = same_number n

pub without_first : (v : Variable) (b : ℕ) (scope : List Bound) → without (record { variable = v; block = b } ∷ scope) v ≡ scope
without_first v b scope = ap (λ t. if t then scope else record { variable = v; block = b } ∷ without scope v) (same_variable_self v)

abbrev pub Ended : At → Variable → Unit {0} → At → Type 0
Ended at v u at1 = (at1.ticks ≤ at.ticks) × (at1.scope ≡ without at.scope v) × (at1.depth ≡ at.depth)

pub ends_holds : (v : Variable) (at : At) → Holds (Ended at v) (ends v at)
ends_holds v at = by_block (living_block v at)
  where
    by_block : (o : Option ℕ) → Holds (Ended at v) (elim (o) [ None ↦ absurdity at | Some block ↦ Gives (tt {0}) (record at { scope = without at.scope v; memory = end_block at.memory block }) ])
    by_block None = tt
    by_block (Some b) = (omega arith, refl, refl)

-- one call more is active
abbrev pub Deeper : At → Unit {0} → At → Type 0
Deeper at u at1 = (at1.ticks ≤ at.ticks) × (at1.scope ≡ at.scope) × (at1.depth ≡ at.depth + 1)

pub deeper_holds : (at : At) → Holds (Deeper at) (one_deeper at)
deeper_holds at = by_room (nat_lt at.depth most_calls)
  where
    by_room : (b : Bool) → Holds (Deeper at) (if b then Gives (tt {0}) (record at { depth = at.depth + 1 }) else Ends RunEnd.Deep at)
    by_room true = (omega arith, refl, refl)
    by_room false = tt
