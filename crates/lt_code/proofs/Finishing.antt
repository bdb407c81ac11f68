-- How a run of a graph is over from a program point on.
use Rattle.std.proofs.Common.{◌≡◌, ℕ, suc, ◌≤◌, List, Some, refl, ap, ◌∙◌, arith}
use Rattle.lt_model.specs.State.{Gives, Ends}
use Rattle.lt_model.specs.declared.run.End.{End as RunEnd}
use Rattle.lt_ir.specs.declared.graph.Graph.{Graph}
use Rattle.lt_ir.specs.declared.node.Node.{Node}
use Rattle.lt_ir.specs.Running.{At, Answer, Step, Over, ◌>>=◌}
use Rattle.lt_ir.specs.Graph.{State, Frame, Register, Goes, Stops, act, step, steps, next_of, code_at, node_at}

-- what follows an answer
abbrev pub finish : {A : Type 0} → Answer A → (A → At → Over) → Over
finish (Gives a at) k = k a at
finish (Ends end at) k = record { end = end; at = at }

-- from there the run is over so
pub record Finishes (graph : Graph) (c : State) (o : Over) : Type 0 where
  pub count : ℕ
  pub is : steps graph count c ≡ Some o

abbrev pub conf : ℕ → ℕ → List Register → List Frame → At → State
conf f i rs stack at = record { code = f; place = i; registers = rs; stack = stack; at = at }

-- A later state of the same call: no more ticks are left, and the same variables are in scope.
pub record Later (at at1 : At) : Type 0 where
  pub ticks : at1.ticks ≤ at.ticks
  pub scope : at1.scope ≡ at.scope
  pub depth : at1.depth ≡ at.depth

abbrev pub Keeps : {A : Type 0} → At → Answer A → Type 0
Keeps at (Gives a at1) = Later at at1
Keeps at (Ends end at1) = Unit {0}

-- a step that gives no ticks back, and begins and ends nothing
abbrev pub Calm : {A : Type 0} → Step A → Type 0
Calm step = (at : At) → Keeps at (step at)

pub later_same : (at : At) → Later at at
later_same at = record { ticks = omega arith; scope = refl; depth = refl }

pub later_still : (at at1 at2 : At) → Later at at1 → Later at1 at2 → Later at at2
later_still at at1 at2 l m = record { ticks = omega (arith, l.ticks, m.ticks); scope = m.scope ∙ l.scope; depth = m.depth ∙ l.depth }

-- ---- steps of a graph

pub go : (graph : Graph) (c c' : State) (o : Over) → step graph c ≡ Goes c' → Finishes graph c' o → Finishes graph c o
go graph c c' o e h = record { count = suc h.count; is = ap (λ s. next_of s (steps graph h.count)) e ∙ h.is }

pub stop : (graph : Graph) (c : State) (end : RunEnd) (at : At) → step graph c ≡ Stops end at → Finishes graph c (record { end = end; at = at })
stop graph c end at h = record { count = 1; is = ap (λ s. next_of s (steps graph 0)) h }

-- a step that may end the run
pub through : {A : Type 0} (graph : Graph) (before : At) (c : State) (m : Answer A) (cont : A → At → State) (k : A → At → Over) → step graph c ≡ elim (m) [ Gives a at ↦ Goes (cont a at) | Ends end at ↦ Stops end at ] → Keeps before m → ((a : A) (at : At) → Later before at → Finishes graph (cont a at) (k a at)) → Finishes graph c (finish m k)
through graph before c (Gives a at) cont k e keeps h = go graph c (cont a at) (k a at) e (h a at keeps)
through graph before c (Ends end at) cont k e keeps h = stop graph c end at e

pub step_at : (graph : Graph) (f i : ℕ) (n : Node) (rs : List Register) (stack : List Frame) (at : At) → node_at graph f i ≡ Some n → step graph (conf f i rs stack at) ≡ act graph (code_at graph f) (Some n) (conf f i rs stack at)
step_at graph f i n rs stack at h = ap (λ o. act graph (code_at graph f) o (conf f i rs stack at)) h

-- an answer and what follows it
pub with_bind : {A B : Type 0} (graph : Graph) (c : State) (m : Step A) (go_on : A → Step B) (at : At) (k : B → At → Over) → Finishes graph c (finish (m at) (λ a at1. finish (go_on a at1) k)) → Finishes graph c (finish ((m >>= go_on) at) k)
with_bind graph c m go_on at k h = by_answer (m at) h
  where
    by_answer : (a : Answer _) → Finishes graph c (finish a (λ a at1. finish (go_on a at1) k)) → Finishes graph c (finish (elim (a) [ Gives a at1 ↦ go_on a at1 | Ends end at1 ↦ Ends end at1 ]) k)
    by_answer (Gives a at1) h = h
    by_answer (Ends end at1) h = h
