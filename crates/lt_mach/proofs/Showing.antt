-- Marks that are made, and steps of a run.
use Rattle.std.proofs.Common.{◌≡◌, ℕ, List, [], ◌∷◌, map, Option, Some, refl, ap, sym, subst, ◌∙◌}
use Rattle.std.specs.Prelude.{slice_get}
use Rattle.lt_model.specs.declared.run.Binding.{Binding as HeldBinding}
use Rattle.lt_model.specs.declared.run.Mark.{Mark}
use Rattle.lt_ir.specs.declared.code.Code.{Code}
use Rattle.lt_ir.specs.declared.code.LabelInfo.{LabelInfo}
use Rattle.lt_ir.specs.declared.graph.Graph.{Graph}
use Rattle.lt_ir.specs.declared.node.Node.{Node}
use Rattle.lt_ir.specs.declared.node.Node.TheVariants as node
use Rattle.lt_ir.specs.declared.pure.Pure.{Pure as HeldPure}
use Rattle.lt_ir.specs.PureView.{pure_of}
use Rattle.lt_ir.specs.Outcomes.{mark_of, binding_of}
use Rattle.lt_ir.specs.Graph.{goes, act, nodes_of, marks_label}
use Rattle.lt_acts.specs.Looking.{Marks, made_of, binding_in}
use Rattle.lt_mach.specs.declared.flow.Flow.{Flow}
use Rattle.lt_mach.specs.declared.flow.Flow.TheVariants as flow
use Rattle.lt_mach.specs.declared.machine.Machine.{Machine}
use Rattle.lt_mach.specs.Seeing.{SawAll}
use Rattle.lt_mach.specs.Does.{Sees, HasTable, moved_on}
use Rattle.lt_mach.specs.Standing.{Steps, at_of, state_of}

bound_back : (its : List HeldBinding) → map binding_of (map binding_in its) ≡ its
bound_back [] = refl
bound_back (it ∷ its) = ap (λ l. it ∷ l) (bound_back its)

mark_back : (mark : Mark) → mark_of (made_of mark) ≡ mark
mark_back mark = ap (λ b. record { id = mark.id; truth = mark.truth; bound = b }) (bound_back mark.bound)

saw_one : {W : Type 0} (saw : W → Mark → W → Type 0) (mark : Mark) (w w1 : W) → saw w mark w1 → SawAll saw w (map mark_of (made_of mark ∷ [])) w1
saw_one saw mark w w1 h = (w1, subst (λ (x : Mark). saw w x w1) (sym (mark_back mark)) h, refl)

-- a mark is made, and seen
pub seen : {W : Type 0} (saw : W → Mark → W → Type 0) (g : Graph) (o : Option Code) (m : Machine) (k next : ℕ) (label : LabelInfo) (predicate : HeldPure) (bound : List HeldPure) (mark : Mark) (w w1 : W) → slice_get g.labels k ≡ Some label
    → Marks g.model label (pure_of predicate) (map pure_of bound) m.call.scope m.memory.blocks mark → saw w mark w1 → Sees saw g o (node.Mark k predicate bound next) flow.Goes m (moved_on next m) w w1
seen saw g o m k next label predicate bound mark w w1 e h s = record {
  made = made_of mark ∷ [];
  is = λ marks.
      ap (λ it. goes (state_of m marks) next (marks_label g.model it (pure_of predicate) (map pure_of bound) (at_of m marks))) e
      ∙ ap (λ at. goes (state_of m marks) next at) (h (at_of m marks));
  watched = saw_one saw mark w w1 s;
  fit = record { model = refl; places = refl; names = λ name. refl };
}

-- ---- steps

pub steps_so : {W : Type 0} (saw : W → Mark → W → Type 0) (g : Graph) (code : Code) (n : Node) (flow : Flow) (m m1 : Machine) (w w1 : W) → slice_get g.codes m.call.code ≡ Some code → slice_get code.nodes m.call.place ≡ Some n → Sees saw g (Some code) n flow m m1 w w1 → Steps saw g flow m m1 w w1
steps_so saw g code n flow m m1 w w1 e f s = record {
  made = s.made;
  is = λ marks.
      ap (λ o. act g o (slice_get (nodes_of o) m.call.place) (state_of m marks)) e
      ∙ ap (λ o. act g (Some code) o (state_of m marks)) f
      ∙ s.is marks;
  watched = s.watched;
  fit = s.fit;
}

pub has_table : (g : Graph) (f i : ℕ) (code : Code) (n : Node) → slice_get g.codes f ≡ Some code → slice_get code.nodes i ≡ Some n → HasTable n
has_table g f i code (node.Switch value arms table default) e h = g.tables f i value default arms table code e h
has_table g f i code n e h = tt
