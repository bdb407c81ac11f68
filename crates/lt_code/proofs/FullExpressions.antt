-- The code of a full expression does what the expression does, whether it tracks footprints or not.
use Rattle.std.proofs.Common.{◌≡◌, inl, inr, ℕ, ◌≤◌, List, length, Bool, true, false, refl, sym, subst, if◌then◌else◌}
use Rattle.lt_model.specs.declared.cell.Content.{Content}
use Rattle.lt_model.specs.State.{Valued, Gives, Ends}
use Rattle.lt_tree.specs.Typing.TypedTree.{Value}
use Rattle.lt_ir.specs.Running.{At, Answer, Over, ◌>>=◌, gives}
use Rattle.lt_ir.specs.Evaluation.{valued, truth_in}
use Rattle.lt_ir.specs.Graph.{Register}
use Rattle.lt_meaning.specs.Expressions.{Around, Fate, wanted, takes, eval}
use Rattle.lt_meaning.specs.Statements.{tested}
use Rattle.lt_meaning.specs.Clashes.{value_alone}
use Rattle.lt_meaning.proofs.Untracked.{untracked}
use Rattle.lt_code.specs.Code.{tracking_at, full_value, full_test}
use Rattle.lt_code.proofs.Finishing.{finish, Later}
use Rattle.lt_code.proofs.Registers.{After}
use Rattle.lt_code.proofs.Nodes.{Scene, program_at, here_in, wide, Run}
use Rattle.lt_code.proofs.Sequences.{CallsRun}
use Rattle.lt_code.proofs.AgreeExpressions.{expr_runs, test_runs}

-- the same scene, with footprints tracked or not
abbrev pub tracked_at : Bool → Scene → Scene
tracked_at tracks z = record {
  graph = z.graph;
  site = tracking_at tracks z.site;
  calls = z.calls;
  most = z.most;
  code = z.code;
  stack = z.stack;
  model = z.model;
  labels = z.labels;
  stubs = z.stubs;
  structs = z.structs;
  locals = z.locals;
  nodes = z.nodes;
}

abbrev pub tracked_here : Scene → Around
tracked_here z = here_in (tracked_at true z)

-- only the value of a full expression counts behind it
abbrev pub Full : Scene → Value → Type 0
Full z v =
    (fate : Fate) (r from to : ℕ) → full_value z.site fate v r from to → (rs : List Register) → length rs ≡ wide z → (at : At) → at.ticks ≤ z.most → (k : Content → At → Over) → ((x : Valued Content) (at1 : At) (rs1 : List Register) → After (takes fate) (wide z) r rs rs1 x → Later at at1 → Run z to rs1 at1 (k x.value at1)) → Run z from rs at (finish (value_alone (eval (tracked_here z) fate v at)) k)

finish_alone : {A : Type 0} (m : Answer (Valued A)) (k : A → At → Over) → finish m (λ x at1. k x.value at1) ≡ finish (value_alone m) k
finish_alone (Gives x at1) k = refl
finish_alone (Ends end at1) k = refl

pub full_runs : (z : Scene) → CallsRun z.graph (program_at z) z.calls z.most → (v : Value) → Full z v
full_runs z ok v fate r from to (inl has) rs long at le k h =
    subst (λ o. Run z from rs at o) (finish_alone (eval (tracked_here z) fate v at) k) (expr_runs (tracked_at true z) ok v fate r from to has rs long at le (λ x at1. k x.value at1) h)
full_runs z ok v fate r from to (inr has) rs long at le k h =
    subst (λ m. Run z from rs at (finish m k)) (sym (untracked (tracked_here z) v fate at has.0)) (subst (λ o. Run z from rs at o) (finish_alone (eval (here_in (tracked_at false z)) fate v at) k) (expr_runs (tracked_at false z) ok v fate r from to has.1 rs long at le (λ x at1. k x.value at1) h))

-- a tested value's footprint doesn't count
tested_answer : (a : Answer (Valued Content)) (k : Bool → At → Over) → finish (elim (a) as (λ q. Answer (Valued Bool)) [ Gives x at1 ↦ (truth_in x.value >>= (λ b. gives (valued b x.footprint))) at1 | Ends end at1 ↦ Ends end at1 ]) (λ y at1. k y.value at1) ≡ finish (value_alone a) (λ c at1. finish (truth_in c at1) k)
tested_answer (Gives x at1) k = by_truth (truth_in x.value at1)
  where
    by_truth : (a : Answer Bool) → finish (elim (a) as (λ q. Answer (Valued Bool)) [ Gives b at1 ↦ Gives (valued b x.footprint) at1 | Ends end at1 ↦ Ends end at1 ]) (λ y at1. k y.value at1) ≡ finish a k
    by_truth (Gives b at1) = refl
    by_truth (Ends end at1) = refl
tested_answer (Ends end at1) k = refl

tested_alone : (a : Answer (Valued Content)) (k : Bool → At → Over) → finish (value_alone a) (λ c at1. finish (truth_in c at1) k) ≡ finish (elim (a) as (λ q. Answer Bool) [ Gives x at1 ↦ truth_in x.value at1 | Ends end at1 ↦ Ends end at1 ]) k
tested_alone (Gives x at1) k = refl
tested_alone (Ends end at1) k = refl

abbrev pub FullTest : Scene → Value → Type 0
FullTest z v =
    (from on off : ℕ) → full_test z.site v 0 from on off → (rs : List Register) → length rs ≡ wide z → (at : At) → at.ticks ≤ z.most → (k : Bool → At → Over) → ((b : Bool) (at1 : At) (rs1 : List Register) → length rs1 ≡ wide z → Later at at1 → Run z (if b then on else off) rs1 at1 (k b at1)) → Run z from rs at (finish (tested (tracked_here z) v at) k)

pub full_tests : (z : Scene) → CallsRun z.graph (program_at z) z.calls z.most → (v : Value) → FullTest z v
full_tests z ok v from on off has rs long at le k h = subst (λ o. Run z from rs at o) (tested_alone (eval (tracked_here z) wanted v at) k) (by_kind has)
  where
    by_kind : full_test z.site v 0 from on off → Run z from rs at (finish (value_alone (eval (tracked_here z) wanted v at)) (λ c at1. finish (truth_in c at1) k))
    by_kind (inl has) =
        subst (λ o. Run z from rs at o) (tested_answer (eval (tracked_here z) wanted v at) k) (test_runs (tracked_at true z) ok v 0 from on off has rs long at le (λ y at1. k y.value at1) (λ y at1 rs1 a l. h y.value at1 rs1 a.long l))
    by_kind (inr has) =
        subst (λ m. Run z from rs at (finish m (λ c at1. finish (truth_in c at1) k))) (sym (untracked (tracked_here z) v wanted at has.0)) (subst (λ o. Run z from rs at o) (tested_answer (eval (here_in (tracked_at false z)) wanted v at) k) (test_runs (tracked_at false z) ok v 0 from on off has.1 rs long at le (λ y at1. k y.value at1) (λ y at1 rs1 a l. h y.value at1 rs1 a.long l)))

-- a full expression, and what follows its value
pub full_then : {B : Type 0} (z : Scene) (v : Value) → Full z v → (fate : Fate) (r from to : ℕ) → full_value z.site fate v r from to → (rs : List Register) → length rs ≡ wide z → (at : At) → at.ticks ≤ z.most → (on : Content → At → Answer B) (k : B → At → Over) → ((x : Valued Content) (at1 : At) (rs1 : List Register) → After (takes fate) (wide z) r rs rs1 x → Later at at1 → Run z to rs1 at1 (finish (on x.value at1) k)) → Run z from rs at (finish ((eval (tracked_here z) fate v >>= (λ x. on x.value)) at) k)
full_then {B} z v full fate r from to has rs long at le on k h = subst (λ o. Run z from rs at o) (alone (eval (tracked_here z) fate v at)) (full fate r from to has rs long at le (λ c at1. finish (on c at1) k) h)
  where
    alone : (m : Answer (Valued Content)) → finish (value_alone m) (λ c at1. finish (on c at1) k) ≡ finish (elim (m) as (λ q. Answer B) [ Gives x at1 ↦ on x.value at1 | Ends end at1 ↦ Ends end at1 ]) k
    alone (Gives x at1) = refl
    alone (Ends end at1) = refl
