-- Steps of a machine until its run is over, one after the other.
use Rattle.std.proofs.Common.{◌≡◌, ℕ, suc, ◌<◌, List, [], ◌∷◌, ◌++◌, map, Some, Option, refl, ap, ap₂, sym, subst, ◌∙◌, append_assoc}
use Rattle.std.proofs.lemmas.List.{map-append}
use Rattle.lt_model.specs.declared.run.Mark.{Mark}
use Rattle.lt_model.specs.declared.run.End.{End as RunEnd}
use Rattle.lt_model.specs.State.{Made}
use Rattle.lt_ir.specs.declared.graph.Graph.{Graph}
use Rattle.lt_ir.specs.Graph.{next_of, steps}
use Rattle.lt_ir.specs.Prepared.{place_of}
use Rattle.lt_ir.specs.Outcomes.{mark_of}
use Rattle.lt_ends.specs.Gauge.{gauge, StepsLowerTheGauge}
use Rattle.lt_mach.specs.declared.flow.Flow.TheVariants.{Goes, Over}
use Rattle.lt_mach.specs.declared.machine.Machine.{Machine}
use Rattle.lt_mach.specs.Seeing.{SawAll}
use Rattle.lt_mach.specs.Standing.{StaysFit, IsFit, state_of, over_at, Steps, Finishes, IsReady}

pub saw_both : {W : Type 0} (saw : W → Mark → W → Type 0) (a b c : W) (xs ys : List Mark) → SawAll saw a xs b → SawAll saw b ys c → SawAll saw a (xs ++ ys) c
saw_both saw a b c [] ys e h = subst (λ (w : _). SawAll saw w ys c) e h
saw_both saw a b c (x ∷ xs) ys s h = (s.0, s.1, saw_both saw s.0 b c xs ys s.2 h)

pub saw_made : {W : Type 0} (saw : W → Mark → W → Type 0) (a b c : W) (xs ys : List Made) → SawAll saw a (map mark_of xs) b → SawAll saw b (map mark_of ys) c → SawAll saw a (map mark_of (xs ++ ys)) c
saw_made saw a b c xs ys s h = rw map-append (saw_both saw a b c (map mark_of xs) (map mark_of ys) s h)

pub both_fit : (m m1 m2 : Machine) → StaysFit m m1 → StaysFit m1 m2 → StaysFit m m2
both_fit m m1 m2 h f = record {
  model = f.model ∙ h.model;
  places = f.places ∙ h.places;
  names = λ name. f.names name ∙ h.names name;
}

same_places : (names : List (List ℕ)) (p q : List ℕ → Option ℕ) → ((name : List ℕ) → p name ≡ q name) → map p names ≡ map q names
same_places [] p q h = refl
same_places (name ∷ names) p q h = ap₂ (λ x l. x ∷ l) (h name) (same_places names p q h)

still_fit : (g : Graph) (m m1 : Machine) → StaysFit m m1 → IsFit g m → IsFit g m1
still_fit g m m1 h f = record {
  model = h.model ∙ f.model;
  places = ap (λ v. v.items) h.places ∙ f.places ∙ same_places g.stubs (λ name. place_of name m.stubs) (λ name. place_of name m1.stubs) (λ name. sym (h.names name));
}

-- the run goes on, and is over later
pub goes_on : {W : Type 0} (saw : W → Mark → W → Type 0) (g : Graph) (end : RunEnd) (m m1 m2 : Machine) (w w1 w2 : W) → Steps saw g Goes m m1 w w1 → Finishes saw g end m1 m2 w1 w2 → Finishes saw g end m m2 w w2
goes_on saw g end m m1 m2 w w1 w2 s f = record {
  made = s.made ++ f.made;
  count = suc f.count;
  is = λ marks. ap (λ n. next_of n (steps g f.count)) (s.is marks) ∙ f.is (marks ++ s.made) ∙ ap (λ l. Some (over_at end m2 l)) (append_assoc marks s.made f.made);
  watched = saw_made saw w w1 w2 s.made f.made s.watched f.watched;
  fit = both_fit m m1 m2 s.fit f.fit;
}

-- the run is over
pub stops : {W : Type 0} (saw : W → Mark → W → Type 0) (g : Graph) (end : RunEnd) (m m1 : Machine) (w w1 : W) → Steps saw g (Over end) m m1 w w1 → Finishes saw g end m m1 w w1
stops saw g end m m1 w w1 s = record {
  made = s.made;
  count = 1;
  is = λ marks. ap (λ n. next_of n (steps g 0)) (s.is marks);
  watched = s.watched;
  fit = s.fit;
}

-- Whatever the rest of a run comes to from one machine and watch, all of it comes to from another.
abbrev pub Completes : {W : Type 0} → (saw : W → Mark → W → Type 0) → Graph → (m m1 : Machine) → (w w1 : W) → Type 0
Completes saw g m m1 w w1 =
    (end : RunEnd) (m2 : Machine) (w2 : _) → Finishes saw g end m1 m2 w1 w2 → Finishes saw g end m m2 w w2

pub still_completes : {W : Type 0} (saw : W → Mark → W → Type 0) (g : Graph) (m m1 m2 : Machine) (w w1 w2 : W) → Completes saw g m m1 w w1 → Steps saw g Goes m1 m2 w1 w2 → Completes saw g m m2 w w2
still_completes saw g m m1 m2 w w1 w2 h s end m3 w3 f = h end m3 w3 (goes_on saw g end m1 m2 m3 w1 w2 w3 s f)

-- what a step that goes on lowers
abbrev pub gauge_of : Graph → Machine → ℕ
gauge_of g m = gauge g (state_of m [])

pub still_ready : {W : Type 0} (saw : W → Mark → W → Type 0) (g : Graph) (m m1 : Machine) (w w1 : W) → StepsLowerTheGauge → IsReady g m → Steps saw g Goes m m1 w w1 → IsReady g m1
still_ready saw g m m1 w w1 law h s =
    let l = law g (state_of m []) (state_of m1 ([] ++ s.made)) h.counted (s.is []) in
    record { counted = record { depth = l.counted.depth; few = l.counted.few }; fit = still_fit g m m1 s.fit h.fit }

pub gauge_falls : {W : Type 0} (saw : W → Mark → W → Type 0) (g : Graph) (m m1 : Machine) (w w1 : W) → StepsLowerTheGauge → IsReady g m → Steps saw g Goes m m1 w w1 → gauge_of g m1 < gauge_of g m
gauge_falls saw g m m1 w w1 law h s = (law g (state_of m []) (state_of m1 ([] ++ s.made)) h.counted (s.is [])).lower
