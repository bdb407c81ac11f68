use Rattle.std.proofs.Common.{◌≡◌, sym, ◌∙◌, ap, subst, ℕ, List, [], ◌++◌, Option}
use Rattle.lt_lin.specs.declared.row.Row.{Row}
use Rattle.lt_elim.specs.declared.event.Event as code
use Rattle.lt_elim.specs.Decision.{variables, verdict, stops, point, decided, unless_ended}
use Rattle.lt_elim.specs.Elimination.{keep_all, keeps}
use Rattle.lt_elim.specs.Progress.{outcome, event_of}
use Rattle.lt_elim.specs.Stages.{CanEliminate, under}
use Rattle.lt_elim.proofs.Combining.{if_ok_more}
use Rattle.lt_elim.proofs.Conditions.{run_contents, run_reached, run_kept, run_stages, can_eliminate}
use Rattle.lt_elim.proofs.Turns.{always, some_event, no_event, match_more, match_two, if_ok_two}
use Rattle.lt_elim.specs.Tracing.{Traced}
use Rattle.lt_elim.proofs.Tracing.{refuting, first_traces}
use Rattle.lt_elim.proofs.stages.stages_of.Goals as goal

pub keep_rows-requires : goal.keep_rows-requires
keep_rows-requires c = run_contents c.args.rows.now c.variables.ensures.order c.requires.decide

pub returns-then-is_some-clause-verdict : goal.returns-then-is_some-clause-verdict
returns-then-is_some-clause-verdict c =
    let count : c.in-Ok.count ≡ variables c.args.rows.now = c.in-Ok.ensures.1 ∙ c.variables.ensures.count in
    let kept = ap (λ (ks : List Row). keep_all c.args.limited c.saturating_sub-last.result ks c.args.rows.now) (sym c.new-kept.ensures.rows) ∙ c.in_ok-event.ensures.kept in
    some_event (verdict c.args.rows.now ≡ under c.args.limited (variables c.args.rows.now) c.new.result.items (point [])) (λ e. verdict c.args.rows.now ≡ stops (event_of e)) c.in_ok-event.event (sym c.is_some.ensures ∙ c.if-is_some.true)
    (λ e q. run_kept c.args.limited c.args.rows.now c.in-Ok.count c.saturating_sub-last.result (outcome c.in_ok-event.event c.keep_rows.new.kept.rows) c.requires.limited count c.saturating_sub-last.ensures kept
    ∙ ap (λ (o : Option code.Event). unless_ended (outcome o c.keep_rows.new.kept.rows) (λ ks. decided c.args.limited c.in-Ok.count ks)) q)

pub returns-then-is_some-clause-stages : goal.returns-then-is_some-clause-stages
returns-then-is_some-clause-stages c = some_event _ (λ e. Unit {0}) c.in_ok-event.event (sym c.is_some.ensures ∙ c.if-is_some.true) (λ e q. tt)

pub eliminate_all-requires : goal.eliminate_all-requires
eliminate_all-requires c =
    let none = no_event c.in_ok-event.event (sym c.is_some.ensures ∙ c.if-is_some.false) in
    let count : c.in-Ok.count ≡ variables c.args.rows.now = c.in-Ok.ensures.1 ∙ c.variables.ensures.count in
    let kept : keep_all c.args.limited c.saturating_sub-last.result [] c.args.rows.now ≡ keeps c.keep_rows.new.kept.rows =
    ap (λ (ks : List Row). keep_all c.args.limited c.saturating_sub-last.result ks c.args.rows.now) (sym c.new-kept.ensures.rows) ∙ c.in_ok-event.ensures.kept ∙ ap (λ (o : Option code.Event). outcome o c.keep_rows.new.kept.rows) none in
    subst (λ (n : ℕ). CanEliminate c.args.limited n c.keep_rows.new.kept.rows) (sym count)
    (can_eliminate c.args.limited c.args.rows.now c.requires.decide (variables c.args.rows.now) c.keep_rows.new.kept.rows (run_reached c.args.limited c.saturating_sub-last.result c.args.rows.now c.keep_rows.new.kept.rows c.requires.limited c.variables.ensures.order c.requires.decide kept))

pub returns-clause-verdict : goal.returns-clause-verdict
returns-clause-verdict c =
    let none = no_event c.in_ok-event.event (sym c.is_some.ensures ∙ c.if-is_some.false) in
    let count : c.in-Ok.count ≡ variables c.args.rows.now = c.in-Ok.ensures.1 ∙ c.variables.ensures.count in
    let kept : keep_all c.args.limited c.saturating_sub-last.result [] c.args.rows.now ≡ keeps c.keep_rows.new.kept.rows =
    ap (λ (ks : List Row). keep_all c.args.limited c.saturating_sub-last.result ks c.args.rows.now) (sym c.new-kept.ensures.rows) ∙ c.in_ok-event.ensures.kept ∙ ap (λ (o : Option code.Event). outcome o c.keep_rows.new.kept.rows) none in
    let is = run_kept c.args.limited c.args.rows.now c.in-Ok.count c.saturating_sub-last.result (keeps c.keep_rows.new.kept.rows) c.requires.limited count c.saturating_sub-last.ensures kept in
    if_ok_more c.eliminate_all.result (λ s h. match_more s.event (λ e. is ∙ e ∙ ap (λ (n : ℕ). under c.args.limited n s.stages.items (point [])) count) (λ x e. is ∙ e) h) c.eliminate_all.ensures.verdict

pub returns-clause-stages : goal.returns-clause-stages
returns-clause-stages c =
    let none = no_event c.in_ok-event.event (sym c.is_some.ensures ∙ c.if-is_some.false) in
    let count : c.in-Ok.count ≡ variables c.args.rows.now = c.in-Ok.ensures.1 ∙ c.variables.ensures.count in
    let kept : keep_all c.args.limited c.saturating_sub-last.result [] c.args.rows.now ≡ keeps c.keep_rows.new.kept.rows =
    ap (λ (ks : List Row). keep_all c.args.limited c.saturating_sub-last.result ks c.args.rows.now) (sym c.new-kept.ensures.rows) ∙ c.in_ok-event.ensures.kept ∙ ap (λ (o : Option code.Event). outcome o c.keep_rows.new.kept.rows) none in
    if_ok_two c.eliminate_all.result (λ s h g. match_two s.event (λ l t. run_stages c.args.limited c.args.rows.now c.in-Ok.count c.saturating_sub-last.result c.keep_rows.new.kept.rows s.stages.items count c.saturating_sub-last.ensures kept l t) (λ x l t. tt) h g) c.eliminate_all.ensures.all c.eliminate_all.ensures.stages

pub returns-then-is_some-clause-refuted : goal.returns-then-is_some-clause-refuted
returns-then-is_some-clause-refuted c =
    refuting c.args.rows.now c.args.rows.now c.in_ok-event.event c.keep_rows.new.log c.keep_rows.new.kept.numbered (c.in_ok-event.ensures.traced (first_traces c.args.rows.now c.in_ok-log.log c.new-kept.result.numbered c.in_ok-log.ensures c.new-kept.ensures.numbered))

pub returns-clause-refuted : goal.returns-clause-refuted
returns-clause-refuted c =
    let none = no_event c.in_ok-event.event (sym c.is_some.ensures ∙ c.if-is_some.false) in
    let t = subst (λ (o : Option code.Event). Traced c.args.rows.now c.args.rows.now o c.keep_rows.new.log c.keep_rows.new.kept.numbered) none (c.in_ok-event.ensures.traced (first_traces c.args.rows.now c.in_ok-log.log c.new-kept.result.numbered c.in_ok-log.ensures c.new-kept.ensures.numbered)) in
    if_ok_more c.eliminate_all.result (λ s h. h c.args.rows.now (c.args.rows.now ++ t.0) t.1) c.eliminate_all.ensures.refuted

pub returns-then-is_some-clause-order : goal.returns-then-is_some-clause-order
returns-then-is_some-clause-order c = c.variables.ensures.order

pub returns-clause-order : goal.returns-clause-order
returns-clause-order c = always c.eliminate_all.result (λ s. c.variables.ensures.order)
