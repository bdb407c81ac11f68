-- Steps one after the other, of which the first gives a value.
use Rattle.std.proofs.Common.{◌≡◌, ℕ, zero, suc, List, [], ◌∷◌, refl, ap, sym, ◌∙◌}
use Rattle.lt_model.specs.declared.run.End.{End as RunEnd}
use Rattle.lt_model.specs.State.{Gives, Ends}
use Rattle.lt_ir.specs.Running.{At, Answer, Step, ◌>>=◌}
use Rattle.lt_model.specs.declared.cell.Content.{Content}
use Rattle.std.proofs.Common.{append-nil, Ok, Err, Result}
use Rattle.lt_model.specs.declared.run.End.TheVariants.{Undefined}
use Rattle.lt_model.specs.declared.operator.Ub.{Ub}
use Rattle.lt_model.specs.Memory.{Memory, Block}
use Rattle.lt_mem.specs.Image.{Image}
use Rattle.lt_mem.specs.Calls.{Becomes, with_blocks}
use Rattle.lt_ir.specs.Running.{changed, asked, defined}
use Rattle.lt_acts.specs.Acts.{on}
use Rattle.lt_model.specs.State.{Footprint, joined}
use Rattle.lt_ir.specs.Evaluation.{writes, reads}
use Rattle.lt_ir.specs.Graph.{Next, Register, Stops, going, footprint_at, with_content, with_footprint, with_both}

pub then_on : {A B : Type 0} (step : Step A) (go : A → Step B) (at at1 : At) (a : A) → step at ≡ Gives a at1 → (step >>= go) at ≡ go a at1
then_on {A} {B} step go at at1 a h = ap (λ (m : Answer A). elim m as (λ _. Answer B) [ Gives a at1 ↦ go a at1 | Ends end at1 ↦ Ends end at1 ]) h

pub next_on : {A B : Type 0} (step : Step A) (go : A → Step B) (at at1 : At) (a : A) (answer : Answer B) → step at ≡ Gives a at1 → go a at1 ≡ answer → (step >>= go) at ≡ answer
next_on step go at at1 a answer h i = then_on step go at at1 a h ∙ i

pub goes_on : {A : Type 0} (step : Step A) (go : A → At → Next) (at at1 : At) (a : A) → step at ≡ Gives a at1 → going step at go ≡ go a at1
goes_on {A} step go at at1 a h = ap (λ (m : Answer A). elim m as (λ _. Next) [ Gives a at1 ↦ go a at1 | Ends end at1 ↦ Stops end at1 ]) h

-- a register gets a footprint and then a content
pub both_put : (rs : List Register) (r : ℕ) (p : Footprint) (c : Content) → with_content (with_footprint rs r p) r c ≡ with_both rs r c p
both_put [] r p c = refl
both_put (it ∷ its) zero p c = refl
both_put (it ∷ its) (suc r) p c = ap (λ rs. it ∷ rs) (both_put its r p c)

pub same_put : (rs : List Register) (r : ℕ) → with_footprint rs r (footprint_at rs r) ≡ rs
same_put [] r = refl
same_put (it ∷ its) zero = refl
same_put (it ∷ its) (suc r) = ap (λ rs. it ∷ rs) (same_put its r)

pub none_written : (p : Footprint) → joined p (writes []) ≡ p
none_written p = simp append-nil

pub none_read : (p : Footprint) → joined p (reads []) ≡ p
none_read p = simp append-nil

-- memory is changed
pub changed_to : (change : Memory → Result Memory Ub) (m m1 : Memory) (at : At) → change m ≡ Ok m1 → changed change (on m at) ≡ Gives tt (on m1 at)
changed_to change m m1 at h = ap (λ (r : Result Memory Ub). elim r as (λ _. Answer (Unit {0})) [ Ok memory ↦ Gives tt (record (on m at) { memory = memory }) | Err kind ↦ Ends (Undefined kind) (on m at) ]) h

-- a call of memory that is done
pub record Became (memory after : Image) (r : Result (List Block) Ub) : Type 0 where
  pub blocks : r ≡ Ok after.blocks
  pub model : after.model ≡ memory.model

pub became : (memory after : Image) (r : Result (List Block) Ub) → Becomes (with_blocks memory r) memory (Ok tt) after → Became memory after r
became memory after (Ok blocks) h = record { blocks = ap (λ (m : Image). Ok m.blocks) (sym h.1); model = ap (λ (m : Image). m.model) h.1 }
became memory after (Err kind) h = absurd (let e = h.0 in cc)

-- memory is asked
pub asked_for : {A : Type 0} (question : Memory → Result A Ub) (m : Memory) (at : At) (a : A) → question m ≡ Ok a → asked question (on m at) ≡ Gives a (on m at)
asked_for question m at a h = ap (λ (r : Result _ Ub). defined r (on m at)) h

pub ends_first : {A B : Type 0} (step : Step A) (go : A → Step B) (at at1 : At) (end : RunEnd) → step at ≡ Ends end at1 → (step >>= go) at ≡ Ends end at1
ends_first {A} {B} step go at at1 end h = ap (λ (m : Answer A). elim m as (λ _. Answer B) [ Gives a at1 ↦ go a at1 | Ends end at1 ↦ Ends end at1 ]) h

pub ends_on : {A : Type 0} (step : Step A) (go : A → At → Next) (at at1 : At) (end : RunEnd) → step at ≡ Ends end at1 → going step at go ≡ Stops end at1
ends_on {A} step go at at1 end h = ap (λ (m : Answer A). elim m as (λ _. Next) [ Gives a at1 ↦ go a at1 | Ends end at1 ↦ Stops end at1 ]) h
