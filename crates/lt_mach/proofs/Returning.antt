-- Calls that give their value.
use Rattle.std.proofs.Common.{◌≡◌, ℕ, zero, suc, ◌-◌, List, [], ◌∷◌, ◌++◌, true, Option, Ok, Err, refl, ap, ◌∙◌, arith}
use Rattle.lt_model.specs.declared.cell.Content.{Content}
use Rattle.lt_ir.specs.declared.code.Code.{Code}
use Rattle.lt_ir.specs.declared.graph.Graph.{Graph}
use Rattle.lt_ir.specs.declared.node.Given.{Given}
use Rattle.lt_ir.specs.declared.node.Node.TheVariants.{Return}
use Rattle.lt_ir.specs.Graph.{returns, given, targets, are_static, one_less}
use Rattle.lt_ir.specs.Prepared.{place_of}
use Rattle.lt_acts.specs.Acts.{Reads}
use Rattle.lt_acts.specs.Ends.{end_of}
use Rattle.lt_acts.specs.declared.flow.Fault.{Fault}
use Rattle.lt_mach.specs.declared.flow.Flow.{Flow}
use Rattle.lt_mach.specs.declared.flow.Flow.TheVariants as flow
use Rattle.lt_mach.specs.declared.machine.Caller.{Caller}
use Rattle.lt_mach.specs.declared.machine.Call.{Call}
use Rattle.lt_mach.specs.declared.machine.Machine.{Machine}
use Rattle.lt_mach.specs.Standing.{at_of, frame_of, frames_of}
use Rattle.lt_mach.specs.Calling.{Leaves}
use Rattle.lt_mach.specs.Does.{Does}
use Rattle.lt_mach.proofs.Ways.{the_same, after_gives, after_ends}

pub innermost : (callers : List Caller) (caller : Caller) → frames_of (callers ++ caller ∷ []) ≡ frame_of caller ∷ frames_of callers
innermost [] caller = refl
innermost (it ∷ its) caller = ap (λ l. l ++ frame_of it ∷ []) (innermost its caller)

one_less_is : (n : ℕ) → one_less n ≡ n - 1
one_less_is zero = refl
one_less_is (suc n) = omega arith

-- the call that goes on with a value
abbrev pub taken : Caller → Content → Call
taken caller c = record caller.call { registers = targets caller.call.registers caller.target c }

pub returned : (c : Content) (old new : Machine) (caller : Caller) → old.callers.items ≡ new.callers.items ++ caller ∷ [] → are_static old.call.scope ≡ true → new.call ≡ taken caller c → new.depth ≡ old.depth - 1 → new.memory ≡ old.memory → new.ticks ≡ old.ticks → new.stubs ≡ old.stubs → new.places ≡ old.places → Leaves c flow.Goes old new
returned c old new caller e static call depth memory ticks stubs places = record {
  is = λ marks. rw (e, innermost, static, call, memory, ticks, stubs, depth, ← one_less_is);
  fit = record { model = ap (λ m. m.model) memory; places = places; names = λ name. ap (place_of name) stubs };
}

pub gives_value : (g : Graph) (code : Option Code) (m m1 : Machine) (value : Given) (c : Content) (flow : Flow) → Reads (given m.call.registers value) m.memory.blocks (Ok c) → Leaves c flow m m1 → Does g code (Return value) flow m m1
gives_value g code m m1 value c flow h l = record {
  is = λ marks. after_gives (given m.call.registers value) (at_of m marks) (at_of m marks) (returns (frames_of m.callers.items)) c (h (at_of m marks)) ∙ l.is marks;
  fit = l.fit;
}

pub gives_none : (g : Graph) (code : Option Code) (m : Machine) (value : Given) (why : Fault) → Reads (given m.call.registers value) m.memory.blocks (Err why) → Does g code (Return value) (flow.Over (end_of why)) m m
gives_none g code m value why h = record {
  is = λ marks. after_ends (given m.call.registers value) (at_of m marks) (at_of m marks) (returns (frames_of m.callers.items)) (end_of why) (h (at_of m marks));
  fit = the_same m;
}
