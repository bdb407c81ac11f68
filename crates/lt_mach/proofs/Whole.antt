-- Whole runs.
use Rattle.std.proofs.Common.{◌≡◌, ℕ, ◌-◌, List, [], ◌∷◌, ◌++◌, refl, sym, ap, ◌∙◌, append_assoc, append-nil}
use Rattle.lt_model.specs.declared.input.Input.{Input}
use Rattle.lt_model.specs.declared.run.End.{End as RunEnd}
use Rattle.lt_model.specs.declared.run.Mark.{Mark}
use Rattle.lt_ir.specs.declared.graph.Graph.{Graph}
use Rattle.lt_ir.specs.Graph.{launch, code_at, next_of, steps}
use Rattle.lt_mach.specs.declared.flow.Flow.TheVariants.{Goes, Over}
use Rattle.lt_mach.specs.declared.machine.Machine.{Machine}
use Rattle.lt_mach.specs.declared.outcome.Brief.{Brief}
use Rattle.lt_mach.specs.declared.outcome.Outcome.{Outcome}
use Rattle.lt_mach.specs.Launching.{Launches, Comes}
use Rattle.lt_mach.specs.Promise.{RunsInto, RunsTo}
use Rattle.lt_mach.specs.Seeing.{SawAll}
use Rattle.lt_mach.specs.Standing.{Finishes, over_at}
use Rattle.lt_mach.proofs.Finishing.{both_fit}

-- the body begins, and is over later
pub comes_later : {W : Type 0} (saw : W → Mark → W → Type 0) (g : Graph) (entry : ℕ) (input : Input) (end : RunEnd) (m m1 m2 : Machine) (w w1 : W) → Launches g entry input Goes m m1 → Finishes saw g end m1 m2 w w1 → Comes saw g entry input end m m2 w w1
comes_later saw g entry input end m m1 m2 w w1 l f = record {
  made = f.made;
  count = f.count;
  is = ap (λ n. next_of n (steps g f.count)) l.is ∙ f.is [];
  watched = f.watched;
  fit = both_fit m m1 m2 l.fit f.fit;
}

-- the run is over before the body begins
pub comes_at_once : {W : Type 0} (saw : W → Mark → W → Type 0) (g : Graph) (entry : ℕ) (input : Input) (end : RunEnd) (m m1 : Machine) (w : W) → Launches g entry input (Over end) m m1 → Comes saw g entry input end m m1 w w
comes_at_once saw g entry input end m m1 w l = record {
  made = [];
  count = 0;
  is = ap (λ n. next_of n (steps g 0)) l.is;
  watched = refl;
  fit = l.fit;
}

pub runs_into : {W : Type 0} (saw : W → Mark → W → Type 0) (g : Graph) (entry ticks : ℕ) (input : Input) (end : RunEnd) (m m1 : Machine) (w w1 : W) (brief : Brief) → m.ticks ≡ ticks → m.memory.model ≡ g.model → Comes saw g entry input end m m1 w w1
    → brief ≡ record { end = end; ticks = ticks - m1.ticks; memory = m1.memory } → RunsInto saw g entry input ticks brief w w1
runs_into saw g entry ticks input end m m1 w w1 brief e f c is = record {
  over = over_at end m1 c.made;
  runs = record { count = c.count; is = ap (λ n. next_of (launch g (code_at g entry) entry input n) (steps g c.count)) (sym e) ∙ c.is };
  end = ap (λ b. b.end) is;
  ticks = ap (λ b. b.ticks) is;
  memory = ap (λ b. b.memory) is ∙ ap (λ model. record { model = model; blocks = m1.memory.blocks }) (c.fit.model ∙ f);
  watched = c.watched;
}

-- a watch that keeps the marks that it sees
pub saw_kept : (old new marks : List Mark) → SawAll (λ o mark n. n ≡ o ++ mark ∷ []) old marks new → new ≡ old ++ marks
saw_kept old new [] h = h ∙ sym (append-nil old)
saw_kept old new (mark ∷ marks) h = saw_kept h.0 new marks h.2 ∙ ap (λ l. l ++ marks) h.1 ∙ append_assoc old (mark ∷ []) marks

pub runs_to : (g : Graph) (entry ticks : ℕ) (input : Input) (list : List Mark) (brief : Brief) (outcome : Outcome) → RunsInto (λ o mark n. n ≡ o ++ mark ∷ []) g entry input ticks brief [] list
    → outcome ≡ record { run = record { marks = list; end = brief.end; ticks = brief.ticks }; memory = brief.memory } → RunsTo g entry input ticks outcome
runs_to g entry ticks input list brief outcome r is = record {
  over = r.over;
  runs = r.runs;
  run = ap (λ o. o.run) is ∙ rw (saw_kept [] list _ r.watched, r.end, r.ticks) refl;
  memory = ap (λ o. o.memory) is ∙ r.memory;
}
