use Rattle.std.proofs.Common.{arith, ◌≡◌, sym, ◌∙◌, ap, subst, List, [], ◌∷◌, ◌++◌, ℕ, suc, ◌+◌, ◌-◌, ◌<◌, length, length-append, Option, None}
use Rattle.lt_elim.specs.declared.event.Event as code
use Rattle.lt_elim.specs.declared.stage.Stage.{Stage}
use Rattle.lt_elim.specs.Decision.{decided, point, stops}
use Rattle.lt_elim.specs.Progress.{outcome, event_of}
use Rattle.lt_elim.specs.Stages.{under}
use Rattle.lt_elim.proofs.Turns.{can_now, some_event, no_event, turn_ends, turn_goes, stages_more, stages_all}
use Rattle.lt_elim.specs.Tracing.{TracedOn}
use Rattle.lt_elim.proofs.Tracing.{traced_then, refuting}
use Rattle.lt_elim.proofs.stages.eliminate_all.Goals as goal

pub eliminate-requires-clause-order : goal.eliminate-requires-clause-order
eliminate-requires-clause-order c = (can_now c.args.limited c.variables.variable c.variables.kept.rows c.variables-test.true c.variables.invariant.can).0

pub eliminate-requires-clause-combine : goal.eliminate-requires-clause-combine
eliminate-requires-clause-combine c = (can_now c.args.limited c.variables.variable c.variables.kept.rows c.variables-test.true c.variables.invariant.can).1

pub returns-then-is_some-clause-verdict : goal.returns-then-is_some-clause-verdict
returns-then-is_some-clause-verdict c =
    let h : 0 < c.variables.variable = c.variables-test.true in
    let is : c.variables.variable ≡ suc (c.variables.variable - 1) = omega arith in
    some_event (decided c.args.limited c.args.variables c.args.kept.rows ≡ under c.args.limited c.args.variables c.push.new.self.items (point [])) (λ e. decided c.args.limited c.args.variables c.args.kept.rows ≡ stops (event_of e)) c.in_ok-eliminated.eliminated.event (sym c.is_some.ensures ∙ c.if-is_some.true)
    (λ e q. turn_ends c.args.limited c.args.variables (c.variables.variable - 1) c.args.kept.rows c.variables.kept.rows c.eliminate.new.kept.rows c.variables.stages.items e
    (subst (λ (k : ℕ). decided c.args.limited c.args.variables c.args.kept.rows ≡ under c.args.limited c.args.variables c.variables.stages.items (decided c.args.limited k c.variables.kept.rows)) is c.variables.invariant.decided)
    (c.in_ok-eliminated.ensures.kept ∙ ap (λ (o : Option code.Event). outcome o c.eliminate.new.kept.rows) q))

pub variables-preserved : goal.variables-preserved
variables-preserved c =
    let h : 0 < c.variables.variable = c.variables-test.true in
    let is : c.variables.variable ≡ suc (c.variables.variable - 1) = omega arith in
    let none : c.in_ok-eliminated.eliminated.event ≡ None = no_event c.in_ok-eliminated.eliminated.event (sym c.is_some.ensures ∙ c.if-is_some.false) in
    let kept = c.in_ok-eliminated.ensures.kept ∙ ap (λ (o : Option code.Event). outcome o c.eliminate.new.kept.rows) none in
    let left : length c.variables.stages.items + c.variables.variable ≡ c.args.variables = c.variables.invariant.left in
    let more : length (c.variables.stages.items ++ c.in_ok-eliminated.eliminated.stage ∷ []) ≡ length c.variables.stages.items + 1 = length-append c.variables.stages.items (c.in_ok-eliminated.eliminated.stage ∷ []) in
    record {
      decided =
          turn_goes c.args.limited c.args.variables (c.variables.variable - 1) c.args.kept.rows c.variables.kept.rows c.eliminate.new.kept.rows c.variables.stages.items c.in_ok-eliminated.eliminated.stage
          (subst (λ (k : ℕ). decided c.args.limited c.args.variables c.args.kept.rows ≡ under c.args.limited c.args.variables c.variables.stages.items (decided c.args.limited k c.variables.kept.rows)) is c.variables.invariant.decided)
          kept c.in_ok-eliminated.ensures.raising c.in_ok-eliminated.ensures.lowering (omega arith)
          ∙ ap (λ (ss : List Stage). under c.args.limited c.args.variables ss (decided c.args.limited (c.variables.variable - 1) c.eliminate.new.kept.rows)) (sym c.in_ok-push.ensures.items);
      left = (let p : length c.push.new.self.items ≡ length (c.variables.stages.items ++ c.in_ok-eliminated.eliminated.stage ∷ []) = ap (λ (ss : List Stage). length ss) c.in_ok-push.ensures.items in omega arith);
      can = (can_now c.args.limited c.variables.variable c.variables.kept.rows c.variables-test.true c.variables.invariant.can).2 c.eliminate.new.kept.rows kept;
      stages =
          stages_more c.args.limited c.args.variables c.variables.variable (c.variables.variable - 1) c.args.kept.rows c.variables.kept.rows c.eliminate.new.kept.rows c.variables.stages.items c.in_ok-eliminated.eliminated.stage is c.variables.invariant.stages kept
          c.in_ok-eliminated.ensures.raising c.in_ok-eliminated.ensures.lowering c.push.new.self.items c.in_ok-push.ensures.items;
      traced =
          subst (λ (o : Option code.Event). TracedOn c.args.log c.args.kept.numbered [] o c.eliminate.new.log c.eliminate.new.kept.numbered) none
          (traced_then c.args.log c.args.kept.numbered [] [] c.variables.log c.eliminate.new.log c.variables.kept.numbered c.eliminate.new.kept.numbered c.in_ok-eliminated.eliminated.event c.variables.invariant.traced c.in_ok-eliminated.ensures.traced (λ known a. a));
    }

pub returns-clause-stages : goal.returns-clause-stages
returns-clause-stages c =
    let h = c.variables-test.false in
    stages_all c.args.limited c.args.variables c.variables.variable c.args.kept.rows c.variables.kept.rows c.variables.stages.items (omega arith) c.variables.invariant.stages

pub returns-then-is_some-clause-refuted : goal.returns-then-is_some-clause-refuted
returns-then-is_some-clause-refuted c = λ rows known t.
    refuting rows known c.in_ok-eliminated.eliminated.event c.eliminate.new.log c.eliminate.new.kept.numbered
    (traced_then c.args.log c.args.kept.numbered [] [] c.variables.log c.eliminate.new.log c.variables.kept.numbered c.eliminate.new.kept.numbered c.in_ok-eliminated.eliminated.event c.variables.invariant.traced c.in_ok-eliminated.ensures.traced (λ known a. a) rows known t tt)
