-- Steps that follow one another, on a scope and memory.
use Rattle.std.proofs.Common.{◌≡◌, List, Result, Ok, Err, subst, ap, sym}
use Rattle.lt_model.specs.State.{Gives, Ends}
use Rattle.lt_model.specs.declared.run.End.{End as RunEnd}
use Rattle.lt_model.specs.Memory.{Memory}
use Rattle.lt_ir.specs.Running.{At, Answer, Bound, Step, ◌>>=◌, ◌>>◌}
use Rattle.lt_acts.specs.Ends.{end_of}
use Rattle.lt_acts.specs.Placing.{standing, Changes, Came}
use Rattle.lt_acts.specs.declared.flow.Stop.{Stop}
use Rattle.lt_acts.specs.declared.flow.Stop.TheVariants.{Over, NoMemory}

-- What a step comes to from one scope and memory, another one comes to from others.
abbrev pub Leads : {A : Type 0} → Step A → List Bound → Memory → Step A → List Bound → Memory → Type 0
Leads step scope memory step1 scope1 memory1 =
    (at : At) → step (standing scope memory at) ≡ step1 (standing scope1 memory1 at)

pub first_gives : {A B : Type 0} (part : Step A) (go : A → Step B) (at at1 : At) (a : A) → part at ≡ Gives a at1 → (part >>= go) at ≡ go a at1
first_gives part go at at1 a e = ap (λ m. elim m [ Gives b at2 ↦ go b at2 | Ends end at2 ↦ Ends end at2 ]) e

pub first_ends : {A B : Type 0} (part : Step A) (go : A → Step B) (at at1 : At) (end : RunEnd) → part at ≡ Ends end at1 → (part >>= go) at ≡ Ends end at1
first_ends part go at at1 end e = ap (λ m. elim m [ Gives b at2 ↦ go b at2 | Ends end1 at2 ↦ Ends end1 at2 ]) e

-- two steps that only read, and one behind them
pub came : (result : Result (Unit {0}) Stop) (at : At) (a b : Answer (Unit {0})) → a ≡ b → Came result at b → Came result at a
came result at a b e h = subst (λ (x : Answer (Unit {0})). Came result at x) (sym e) h

-- one step and then another
pub both_done : (part rest : Step (Unit {0})) (scope scope1 scope2 : List Bound) (memory memory1 memory2 : Memory) (result : Result (Unit {0}) Stop) → Changes part scope memory (Ok tt) scope1 memory1 → Changes rest scope1 memory1 result scope2 memory2 → Changes (part >> rest) scope memory result scope2 memory2
both_done part rest scope scope1 scope2 memory memory1 memory2 result h d = λ at.
    came result _ _ _ (first_gives part (λ _. rest) (standing scope memory at) (standing scope1 memory1 at) tt (h at)) (d at)

pub first_stops : (part rest : Step (Unit {0})) (scope scope1 : List Bound) (memory memory1 : Memory) (stop : Stop) → Changes part scope memory (Err stop) scope1 memory1 → Changes (part >> rest) scope memory (Err stop) scope1 memory1
first_stops part rest scope scope1 memory memory1 (Over why) h = λ at. first_ends part (λ _. rest) (standing scope memory at) (standing scope1 memory1 at) (end_of why) (h at)
first_stops part rest scope scope1 memory memory1 NoMemory h = λ at. tt
