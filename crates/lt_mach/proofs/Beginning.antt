-- How a run begins.
use Rattle.std.proofs.Common.{◌≡◌, ℕ, ◌+◌, ◌≤◌, lit≤, List, [], length, true, Some, Result, Ok, Err, refl, sym, subst, ap, ◌∙◌}
use Rattle.std.specs.Prelude.{slice_get}
use Rattle.lt_model.specs.declared.cell.Shape.{Shape}
use Rattle.lt_model.specs.declared.input.BlockIn.{BlockIn}
use Rattle.lt_model.specs.declared.input.Input.{Input}
use Rattle.lt_model.specs.declared.scalar.DataModel.{DataModel}
use Rattle.lt_model.specs.Memory.{Memory}
use Rattle.lt_mem.specs.Image.{Image}
use Rattle.lt_ir.specs.declared.code.Code.{Code}
use Rattle.lt_ir.specs.declared.graph.Graph.{Graph}
use Rattle.lt_ir.specs.Running.{Bound, Step, ◌>>=◌, ◌>>◌, most_calls}
use Rattle.lt_ir.specs.Starting.{Root, start_blocks, start_parameters, sets, seal_statics, started}
use Rattle.lt_ir.specs.Graph.{begun, going, launch, names_in, shapes_in}
use Rattle.lt_acts.specs.Ends.{end_of}
use Rattle.lt_acts.specs.Placing.{standing, Changes, Came}
use Rattle.lt_acts.specs.declared.flow.Fault.{Fault}
use Rattle.lt_acts.specs.declared.flow.Stop.{Stop}
use Rattle.lt_acts.specs.declared.flow.Stop.TheVariants.{Over, NoMemory}
use Rattle.lt_mach.specs.declared.flow.Flow.TheVariants as flow
use Rattle.lt_mach.specs.declared.machine.Machine.{Machine}
use Rattle.lt_mach.specs.Blocks.{StartsBlocks, roots_from}
use Rattle.lt_mach.specs.Calling.{beginning}
use Rattle.lt_mach.specs.Launching.{IsNew, Launches, rest_started}
use Rattle.lt_mach.specs.Parameters.{begin_all}
use Rattle.lt_mach.specs.Standing.{at_of, frames_of}
use Rattle.lt_mach.proofs.Entering.{zeroed, with_taken}
use Rattle.lt_mach.proofs.Passing.{first_gives, first_ends, came, both_done, first_stops}
use Rattle.lt_mach.proofs.Ways.{after_gives, after_ends}

-- the entry's parameters begin
pub begun_zeroed : (shapes : List Shape) (scope scope1 : List Bound) (m m1 : Memory) (result : Result (Unit {0}) Stop) → Changes (begin_all true 0 shapes) scope m result scope1 m1 → Changes (start_parameters 0 shapes) scope m result scope1 m1
begun_zeroed shapes scope scope1 m m1 result h at = came result _ _ _ (zeroed 0 shapes (standing scope m at)) (h at)

-- the input's objects are there, and what follows has their names
pub blocks_done : (its : List BlockIn) (first : ℕ) (rest : List Root → Step (Unit {0})) (scope scope1 : List Bound) (m m1 m2 : Memory) (result : Result (Unit {0}) Stop) → StartsBlocks its (Ok first) m m1 → roots_from first its ≡ roots_from (length m) its → Changes (rest (roots_from first its)) scope m1 result scope1 m2 → Changes (start_blocks its >>= rest) scope m result scope1 m2
blocks_done its first rest scope scope1 m m1 m2 result h e d at =
    came result _ _ _
    (first_gives (start_blocks its) rest (standing scope m at) (standing scope m1 at) (roots_from (length m) its) (h (standing scope m at))
    ∙ ap (λ roots. rest roots (standing scope m1 at)) (sym e))
    (d at)

pub blocks_over : (its : List BlockIn) (rest : List Root → Step (Unit {0})) (scope : List Bound) (m m1 : Memory) (stop : Stop) → StartsBlocks its (Err stop) m m1 → Changes (start_blocks its >>= rest) scope m (Err stop) scope m1
blocks_over its rest scope m m1 (Over why) h at = first_ends (start_blocks its) rest (standing scope m at) (standing scope m1 at) (end_of why) (h (standing scope m at))
blocks_over its rest scope m m1 NoMemory h at = tt

-- ---- what follows on the input's objects

module _ (model : DataModel) (g : Graph) (code : Code) (input : Input) (roots : List Root) (scope scope1 : List Bound) (m m1 : Memory) where
  cells_set : Step (Unit {0})
  cells_set = sets model g.statics (names_in code.params) (shapes_in code.params) input.cells roots

  pub rest_stops_first : (stop : Stop) → Changes (begin_all true 0 (shapes_in code.params)) scope m (Err stop) scope1 m1 → Changes (rest_started model g code input roots) scope m (Err stop) scope1 m1
  unfolding cells_set
  rest_stops_first stop h = first_stops (start_parameters 0 (shapes_in code.params)) (cells_set >> seal_statics 0 g.statics) scope scope1 m m1 stop (begun_zeroed (shapes_in code.params) scope scope1 m m1 (Err stop) h)

  pub rest_done : (scope2 : List Bound) (m2 : Memory) (result : Result (Unit {0}) Stop) → Changes (begin_all true 0 (shapes_in code.params)) scope m (Ok tt) scope1 m1 → Changes (sets model g.statics (names_in code.params) (shapes_in code.params) input.cells roots >> seal_statics 0 g.statics) scope1 m1 result scope2 m2 → Changes (rest_started model g code input roots) scope m result scope2 m2
  unfolding cells_set
  rest_done scope2 m2 result h d = both_done (start_parameters 0 (shapes_in code.params)) (cells_set >> seal_statics 0 g.statics) scope scope1 scope2 m m1 m2 result (begun_zeroed (shapes_in code.params) scope scope1 m m1 (Ok tt) h) d

-- ---- the run begins

-- nothing is in scope yet, and no object is there
pub starts_at : (g : Graph) (code : Code) (input : Input) (m : Machine) (scope : List Bound) (memory : Memory) (result : Result (Unit {0}) Stop) → IsNew g input m
    → Changes (started m.memory.model g.statics (names_in code.params) (shapes_in code.params) input) [] m.memory.blocks result scope memory
    → Came result (standing scope memory (at_of m [])) (started g.model g.statics (names_in code.params) (shapes_in code.params) input (at_of m []))
starts_at g code input m scope memory result new h =
    let none : [] ≡ m.call.scope = sym (ap (λ at. at.scope) new.stands) in
    let h1 = subst (λ (l : List Bound). Came result (standing scope memory (at_of m [])) (started m.memory.model g.statics (names_in code.params) (shapes_in code.params) input (standing l m.memory.blocks (at_of m [])))) none (h (at_of m [])) in
    subst (λ (model : DataModel). Came result (standing scope memory (at_of m [])) (started model g.statics (names_in code.params) (shapes_in code.params) input (at_of m []))) new.fit.model h1

module _ (g : Graph) (entry : ℕ) (code : Code) (input : Input) (old : Machine) (scope : List Bound) (memory : Image) (here : slice_get g.codes entry ≡ Some code) (new : IsNew g input old) where
  launched_at : launch g (slice_get g.codes entry) entry input old.ticks ≡ going (started g.model g.statics (names_in code.params) (shapes_in code.params) input) (at_of old []) (λ _ at. begun entry code [] at)
  launched_at =
      ap (λ o. launch g o entry input old.ticks) here
      ∙ ap (λ at. going (started g.model g.statics (names_in code.params) (shapes_in code.params) input) at (λ _ at1. begun entry code [] at1)) (sym new.stands)

  pub launches : Changes (started old.memory.model g.statics (names_in code.params) (shapes_in code.params) input) [] old.memory.blocks (Ok tt) scope memory.blocks → memory.model ≡ old.memory.model → Launches g entry input flow.Goes old (beginning entry code (with_taken old scope memory))
  unfolding launched_at
  launches h same = record {
    is =
        launched_at
        ∙ after_gives (started g.model g.statics (names_in code.params) (shapes_in code.params) input) (at_of old []) (standing scope memory.blocks (at_of old [])) (λ _ at. begun entry code [] at) tt
        (starts_at g code input old scope memory.blocks (Ok tt) new h)
        ∙ ap (λ stack. begun entry code stack (standing scope memory.blocks (at_of old []))) (ap frames_of (sym new.first));
    ready = record {
      counted = record {
        depth = ap (λ at. at.depth) new.stands ∙ ap (λ l. length (frames_of l) + 1) (sym new.first);
        few = subst (λ (l : List _). length (frames_of l) + 1 ≤ most_calls) (sym new.first) (lit≤ tt);
      };
      fit = record { model = same ∙ new.fit.model; places = new.fit.places };
    };
    fit = record { model = same; places = refl; names = λ name. refl };
  }

  pub launches_over : (why : Fault) (result : Result (Unit {0}) Stop) → result ≡ Err (Over why) → Changes (started old.memory.model g.statics (names_in code.params) (shapes_in code.params) input) [] old.memory.blocks result scope memory.blocks → memory.model ≡ old.memory.model → Launches g entry input (flow.Over (end_of why)) old (with_taken old scope memory)
  unfolding launched_at
  launches_over why result e h same = record {
    is =
        launched_at
        ∙ after_ends (started g.model g.statics (names_in code.params) (shapes_in code.params) input) (at_of old []) (standing scope memory.blocks (at_of old [])) (λ _ at. begun entry code [] at) (end_of why)
        (subst (λ (r : Result (Unit {0}) Stop). Came r (standing scope memory.blocks (at_of old [])) (started g.model g.statics (names_in code.params) (shapes_in code.params) input (at_of old []))) e
        (starts_at g code input old scope memory.blocks result new h));
    ready = tt;
    fit = record { model = same; places = refl; names = λ name. refl };
  }
