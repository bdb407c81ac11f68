-- A run whose steps lower a number is over.
use Rattle.std.proofs.Common.{◌≡◌, ℕ, zero, suc, ◌<◌, [], Option, Some, None, refl, ap, ◌∙◌, arith}
use Rattle.lt_model.specs.State.{Gives, Ends}
use Rattle.lt_model.specs.declared.input.Input.{Input}
use Rattle.lt_model.specs.declared.run.End.{End as RunEnd}
use Rattle.lt_model.specs.declared.run.End.TheVariants.{Stopped}
use Rattle.std.proofs.Math.Nat.{lt-suc_self}
use Rattle.lt_ir.specs.declared.code.Code.{Code}
use Rattle.lt_ir.specs.declared.graph.Graph.{Graph}
use Rattle.lt_ir.specs.Running.{At, Over, Answer}
use Rattle.lt_ir.specs.Starting.{nowhere}
use Rattle.lt_ir.specs.Graph.{State, Next, Goes, Stops, step, steps, next_of, launch, begun, blanks, code_at, names_in, shapes_in}
use Rattle.lt_ends.specs.Gauge.{gauge, IsCounted, RunsAreOver}
use Rattle.lt_ends.proofs.CalmSteps.{Keeps}
use Rattle.lt_ends.proofs.CalmStart.{calm-started}
use Rattle.lt_ends.proofs.Falling.{lowers}

record Ending (g : Graph) (n : Next) : Type 0 where
  over : Over
  count : ℕ
  is : next_of n (steps g count) ≡ Some over

one_more : (g : Graph) (s next : State) → step g s ≡ Goes next → Ending g (Goes next) → Ending g (Goes s)
one_more g s next e h = record { over = h.over; count = suc h.count; is = ap (λ n. next_of n (steps g h.count)) e ∙ h.is }

stops : (g : Graph) (s : State) (end : RunEnd) (at : At) → step g s ≡ Stops end at → Ending g (Goes s)
stops g s end at e = record { over = record { end = end; at = at }; count = 1; is = ap (λ n. next_of n (steps g 0)) e }

-- where each state of a lower gauge comes to an end
after : (g : Graph) (s : State) (n : Next) → step g s ≡ n → IsCounted s → ((next : State) → IsCounted next → gauge g next < gauge g s → Ending g (Goes next)) → Ending g (Goes s)
after g s (Stops end at) e counted go = stops g s end at e
after g s (Goes next) e counted go = let l = lowers g s next counted e in one_more g s next e (go next l.counted l.lower)

-- from a state whose gauge is below a bound
ending : (g : Graph) (bound : ℕ) (s : State) → IsCounted s → gauge g s < bound → Ending g (Goes s)
ending g zero s counted h = absurd (omega arith)
ending g (suc bound) s counted h = after g s (step g s) refl counted (λ next counted1 lt. ending g bound next counted1 (omega arith))

begins_run : (g : Graph) (f : ℕ) (code : Code) (at : At) (m : Answer (Unit {0})) → at.depth ≡ 1 → Keeps at m → Ending g (elim m [ Gives a at1 ↦ begun f code [] at1 | Ends end at1 ↦ Stops end at1 ])
begins_run g f code at (Gives a at1) h l =
    let s : State = record { code = f; place = code.start; registers = blanks code.registers; stack = []; at = at1 } in
    ending g (suc (gauge g s)) s (record { depth = l.depth ∙ h; few = omega arith }) (lt-suc_self (gauge g s))
begins_run g f code at (Ends end at1) h l = record { over = record { end = end; at = at1 }; count = 0; is = refl }

launched : (g : Graph) (o : Option Code) (f : ℕ) (input : Input) (ticks : ℕ) → Ending g (launch g o f input ticks)
launched g None f input ticks = record { over = record { end = Stopped; at = nowhere input ticks }; count = 0; is = refl }
launched g (Some code) f input ticks = begins_run g f code (nowhere input ticks) _ refl (calm-started g.model g.statics (names_in code.params) (shapes_in code.params) input (nowhere input ticks))

pub over_in_the_end : RunsAreOver
over_in_the_end g f input ticks = let e = launched g (code_at g f) f input ticks in (e.over, record { count = e.count; is = e.is })
