-- Nodes that lead the run one way or another.
use Rattle.std.proofs.Common.{◌≡◌, ℕ, ℤ, List, Bool, Option, Ok, Err, refl, ap, if◌then◌else◌}
use Rattle.lt_model.specs.declared.run.End.{End as RunEnd}
use Rattle.lt_model.specs.State.{Gives, Ends}
use Rattle.lt_ir.specs.declared.code.Code.{Code}
use Rattle.lt_ir.specs.declared.graph.Graph.{Graph}
use Rattle.lt_ir.specs.declared.node.Arm.{Arm}
use Rattle.lt_ir.specs.declared.node.Node.TheVariants.{Branch, Switch}
use Rattle.lt_ir.specs.Running.{At, Step}
use Rattle.lt_ir.specs.Tables.{IsTableOf, arm_of}
use Rattle.lt_ir.specs.Graph.{Next, Stops, going}
use Rattle.lt_acts.specs.Acts.{Reads, truth_at, number_at}
use Rattle.lt_acts.specs.Ends.{end_of}
use Rattle.lt_acts.specs.declared.flow.Fault.{Fault}
use Rattle.lt_mach.specs.declared.flow.Flow.TheVariants.{Goes, Over}
use Rattle.lt_mach.specs.declared.machine.Machine.{Machine}
use Rattle.lt_mach.specs.Standing.{StaysFit, at_of}
use Rattle.lt_mach.specs.Does.{Does, moved_on}

pub the_same : (m : Machine) → StaysFit m m
the_same m = record { model = refl; places = refl; names = λ name. refl }

pub after_gives : {A : Type 0} (step : Step A) (at at1 : At) (go : A → At → Next) (a : A) → step at ≡ Gives a at1 → going step at go ≡ go a at1
after_gives step at at1 go a e = ap (λ m. elim m [ Gives b at2 ↦ go b at2 | Ends end at2 ↦ Stops end at2 ]) e

pub after_ends : {A : Type 0} (step : Step A) (at at1 : At) (go : A → At → Next) (end : RunEnd) → step at ≡ Ends end at1 → going step at go ≡ Stops end at1
after_ends step at at1 go end e = ap (λ m. elim m [ Gives b at2 ↦ go b at2 | Ends end1 at2 ↦ Stops end1 at2 ]) e

moved_fit : (next : ℕ) (m : Machine) → StaysFit m (moved_on next m)
moved_fit next m = record { model = refl; places = refl; names = λ name. refl }

pub branches : (g : Graph) (code : Option Code) (m : Machine) (test on off next : ℕ) (b : Bool) → Reads (truth_at m.call.registers test) m.memory.blocks (Ok b) → next ≡ (if b then on else off) → Does g code (Branch test on off) Goes m (moved_on next m)
branches g code m test on off next b h e = record {
  is = λ marks. rw e (after_gives (truth_at m.call.registers test) (at_of m marks) (at_of m marks) _ b (h (at_of m marks)));
  fit = moved_fit next m;
}

pub branch_ends : (g : Graph) (code : Option Code) (m : Machine) (test on off : ℕ) (why : Fault) → Reads (truth_at m.call.registers test) m.memory.blocks (Err why) → Does g code (Branch test on off) (Over (end_of why)) m m
branch_ends g code m test on off why h = record {
  is = λ marks. after_ends (truth_at m.call.registers test) (at_of m marks) (at_of m marks) _ (end_of why) (h (at_of m marks));
  fit = the_same m;
}

pub switches : (g : Graph) (code : Option Code) (m : Machine) (value default next : ℕ) (arms table : List Arm) (z : ℤ) → IsTableOf table arms → Reads (number_at m.call.registers value) m.memory.blocks (Ok z) → next ≡ arm_of table default z → Does g code (Switch value arms table default) Goes m (moved_on next m)
switches g code m value default next arms table z t h e = record {
  is = λ marks. rw (e, t.2 default z) (after_gives (number_at m.call.registers value) (at_of m marks) (at_of m marks) _ z (h (at_of m marks)));
  fit = moved_fit next m;
}

pub switch_ends : (g : Graph) (code : Option Code) (m : Machine) (value default : ℕ) (arms table : List Arm) (why : Fault) → Reads (number_at m.call.registers value) m.memory.blocks (Err why) → Does g code (Switch value arms table default) (Over (end_of why)) m m
switch_ends g code m value default arms table why h = record {
  is = λ marks. after_ends (number_at m.call.registers value) (at_of m marks) (at_of m marks) _ (end_of why) (h (at_of m marks));
  fit = the_same m;
}
