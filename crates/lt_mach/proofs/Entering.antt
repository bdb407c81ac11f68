-- Functions that are entered.
use Rattle.std.proofs.Common.{◌≡◌, ℕ, suc, ◌+◌, nat_lt, List, [], ◌∷◌, Bool, true, false, Option, Result, Ok, Err, refl, ap, sym, ◌∙◌, if◌then◌else◌}
use Rattle.lt_model.specs.declared.cell.Content.{Content}
use Rattle.lt_model.specs.declared.cell.Shape.{Shape}
use Rattle.lt_model.specs.declared.scalar.DataModel.{DataModel}
use Rattle.lt_model.specs.declared.run.End.TheVariants.{Deep}
use Rattle.lt_model.specs.declared.input.BlockIn.{BlockIn}
use Rattle.lt_model.specs.Memory.{Memory}
use Rattle.lt_model.specs.State.{Gives, Ends, Made}
use Rattle.lt_mem.specs.Image.{Image}
use Rattle.lt_ir.specs.declared.code.Code.{Code}
use Rattle.lt_ir.specs.declared.graph.Graph.{Graph}
use Rattle.lt_ir.specs.declared.node.Node.TheVariants.{Call}
use Rattle.std.specs.Prelude.{slice_get, Some}
use Rattle.lt_ir.specs.declared.variable.Variable.TheVariants.{Parameter}
use Rattle.lt_ir.specs.Running.{At, Answer, Bound, Step, ◌>>◌, begins, begin_parameters, statics_of, most_calls}
use Rattle.lt_ir.specs.Evaluation.{store_parameters}
use Rattle.lt_ir.specs.Starting.{start_parameters}
use Rattle.lt_ir.specs.Graph.{Stops, shapes_in, contents_from, entering, begun, calls, caller, going}
use Rattle.lt_ir.specs.Prepared.{place_of}
use Rattle.lt_acts.specs.Ends.{end_of}
use Rattle.lt_acts.specs.Placing.{standing, Changes}
use Rattle.lt_acts.specs.declared.flow.Fault.{Fault}
use Rattle.lt_acts.specs.declared.flow.Stop.{Stop}
use Rattle.lt_acts.specs.declared.flow.Stop.TheVariants.{Over}
use Rattle.lt_mach.specs.declared.flow.Flow.{Flow}
use Rattle.lt_mach.specs.declared.flow.Flow.TheVariants as flow
use Rattle.lt_mach.specs.declared.machine.Machine.{Machine}
use Rattle.lt_mach.specs.Parameters.{begin_all, take_all}
use Rattle.lt_mach.specs.Standing.{StaysFit, at_of, state_of, frames_of}
use Rattle.lt_mach.specs.Calling.{Gathers, Waits, Enters, beginning}
use Rattle.lt_mach.specs.Does.{Does}
use Rattle.lt_mach.proofs.Passing.{first_gives}
use Rattle.lt_mach.proofs.Ways.{after_gives, after_ends}
use Rattle.lt_mach.proofs.Returning.{innermost}

-- ---- parameters that aren't zeroed, and those of the entry, which are

abbrev then_step : Step (Unit {0}) → Answer (Unit {0}) → Answer (Unit {0})
then_step step (Gives a at) = step at
then_step step (Ends end at) = Ends end at

then_same : (s t : Step (Unit {0})) (m : Answer (Unit {0})) → ((at : At) → s at ≡ t at) → then_step s m ≡ then_step t m
then_same s t (Gives a at) h = h at
then_same s t (Ends end at) h = refl

plain : (k : ℕ) (shapes : List Shape) (at : At) → begin_parameters k shapes at ≡ begin_all false k shapes at
plain k [] at = refl
plain k (shape ∷ shapes) at = then_same (begin_parameters (suc k) shapes) (begin_all false (suc k) shapes) (begins (Parameter k) shape false at) (plain (suc k) shapes)

pub zeroed : (k : ℕ) (shapes : List Shape) (at : At) → start_parameters k shapes at ≡ begin_all true k shapes at
zeroed k [] at = refl
zeroed k (shape ∷ shapes) at = then_same (start_parameters (suc k) shapes) (begin_all true (suc k) shapes) (begins (Parameter k) shape true at) (zeroed (suc k) shapes)

-- ---- one call more

-- where a function is entered, behind the count of calls
abbrev deeper : At → At
deeper at = record at { scope = statics_of at.scope; depth = at.depth + 1 }

abbrev enter_if : DataModel → Code → List Content → At → Bool → Answer (Unit {0})
enter_if model code xs at b =
    then_step (λ at1. (begin_parameters 0 (shapes_in code.params) >> store_parameters model 0 (shapes_in code.params) xs) (record at1 { scope = statics_of at1.scope }))
    (if b then Gives tt (record at { depth = at.depth + 1 }) else Ends Deep at)

pub enters_deeper : (model : DataModel) (code : Code) (xs : List Content) (at : At) → nat_lt at.depth most_calls ≡ true → entering model code xs at ≡ take_all model (shapes_in code.params) xs (deeper at)
enters_deeper model code xs at e =
    ap (enter_if model code xs at) e
    ∙ ap (λ m. then_step (store_parameters model 0 (shapes_in code.params) xs) m) (plain 0 (shapes_in code.params) (deeper at))

-- the machine, its call with another scope
abbrev pub with_taken : Machine → List Bound → Image → Machine
with_taken m scope memory = record m { call = record m.call { scope = scope }; memory = memory }

-- what is known behind a wait, where the call counts
abbrev pub counted : Machine → Machine
counted m = record m { depth = m.depth + 1 }

taken_at : (model : DataModel) (code : Code) (target : Option ℕ) (next : ℕ) (old mid : Machine) (marks : List Made) → nat_lt old.depth most_calls ≡ true → Waits target next (counted old) mid → entering model code old.arguments.items (at_of old marks) ≡ take_all model (shapes_in code.params) mid.arguments.items (standing mid.call.scope mid.memory.blocks (at_of mid marks))
taken_at model code target next old mid marks e w =
    enters_deeper model code old.arguments.items (at_of old marks) e
    ∙ sym (rw (w.scope, w.arguments, w.memory, w.ticks, w.depth, w.stubs) refl)

pub enters : (model : DataModel) (function : ℕ) (code : Code) (target : Option ℕ) (next : ℕ) (old mid : Machine) (scope : List Bound) (memory : Image) → nat_lt old.depth most_calls ≡ true → Waits target next (counted old) mid
    → Changes (take_all model (shapes_in code.params) mid.arguments.items) mid.call.scope mid.memory.blocks (Ok tt) scope memory.blocks → memory.model ≡ mid.memory.model
    → Enters model function code target next flow.Goes old (beginning function code (with_taken mid scope memory))
enters model function code target next old mid scope memory e w h same = record {
  is = λ marks.
      after_gives (entering model code old.arguments.items) (at_of old marks) (at_of (with_taken mid scope memory) marks) _ tt
      (taken_at model code target next old mid marks e w ∙ h (at_of mid marks))
      ∙ sym (rw (w.callers, innermost) refl);
  fit = record { model = same ∙ ap (λ m. m.model) w.memory; places = w.places; names = λ name. ap (place_of name) w.stubs };
}

pub enters_over : (model : DataModel) (function : ℕ) (code : Code) (target : Option ℕ) (next : ℕ) (old mid : Machine) (scope : List Bound) (memory : Image) (why : Fault) → nat_lt old.depth most_calls ≡ true → Waits target next (counted old) mid
    → Changes (take_all model (shapes_in code.params) mid.arguments.items) mid.call.scope mid.memory.blocks (Err (Over why)) scope memory.blocks → memory.model ≡ mid.memory.model
    → Enters model function code target next (flow.Over (end_of why)) old (with_taken mid scope memory)
enters_over model function code target next old mid scope memory why e w h same = record {
  is = λ marks.
      after_ends (entering model code old.arguments.items) (at_of old marks) (at_of (with_taken mid scope memory) marks) _ (end_of why)
      (taken_at model code target next old mid marks e w ∙ h (at_of mid marks));
  fit = record { model = same ∙ ap (λ m. m.model) w.memory; places = w.places; names = λ name. ap (place_of name) w.stubs };
}

-- the same of equal values
pub taken_so : (model model1 : DataModel) (params params1 : List BlockIn) (xs xs1 : List Content) (scope scope1 : List Bound) (memory memory1 : Memory) (result result1 : Result (Unit {0}) Stop) → model ≡ model1 → params ≡ params1 → xs ≡ xs1 → result ≡ result1 → Changes (take_all model (shapes_in params) xs) scope memory result scope1 memory1 → Changes (take_all model1 (shapes_in params1) xs1) scope memory result1 scope1 memory1
taken_so model model1 params params1 xs xs1 scope scope1 memory memory1 result result1 e f g i h = rw (← e, ← f, ← g, ← i) h

-- ---- a call node

pub calls_on : (g : Graph) (o : Option Code) (code : Code) (function : ℕ) (target : Option ℕ) (first count next : ℕ) (flow : Flow) (old old1 new : Machine) → slice_get g.codes function ≡ Some code → Gathers old.call.registers first count true old1.arguments.items
    → ((marks : List Made) → state_of old1 marks ≡ state_of old marks) → StaysFit old old1 → Enters g.model function code target next flow old1 new → Does g o (Call function target first count next) flow old new
calls_on g o code function target first count next flow old old1 new e h same fit l = record {
  is = λ marks.
      ap (λ it. calls g.model it (state_of old marks) function target first count next) e
      ∙ ap (λ m. elim m [ Gives x at ↦ begun function code (caller (state_of old marks) target next ∷ frames_of old.callers.items) at | Ends end at ↦ Stops end at ]) (first_gives (contents_from old.call.registers first count) (entering g.model code) (at_of old marks) (at_of old marks) old1.arguments.items (h (at_of old marks)))
      ∙ ap (λ s. going (entering g.model code old1.arguments.items) s.at (λ _ at. begun function code (caller s target next ∷ s.stack) at)) (sym (same marks))
      ∙ l.is marks;
  fit = record { model = l.fit.model ∙ fit.model; places = l.fit.places ∙ fit.places; names = λ name. l.fit.names name ∙ fit.names name };
}
