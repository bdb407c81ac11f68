use Rattle.std.proofs.Common.{◌≡◌, sym, ◌∙◌, ap, subst, length, not, List, []}
use Rattle.lt_lin.specs.declared.row.Row.{Row}
use Rattle.lt_elim.specs.declared.stage.Stage.{Stage}
use Rattle.lt_elim.specs.Condition.{CanDecide}
use Rattle.lt_elim.specs.Decision.{verdict, point, stops}
use Rattle.lt_elim.specs.Progress.{AllInOrder, event_of}
use Rattle.lt_elim.specs.Stages.{under}
use Rattle.lt_elim.specs.Deciding.{HasLines}
use Rattle.lt_elim.specs.Values.{HaveBounds, CanReckon}
use Rattle.lt_elim.proofs.Combining.{if_ok_more}
use Rattle.lt_elim.proofs.Answering.{ready, sound_ended, sound_values}
use Rattle.lt_elim.proofs.deciding.decide.Goals as goal

pub point_of-requires-clause-bounding : goal.point_of-requires-clause-bounding
point_of-requires-clause-bounding c =
    let s = rw c.in-None.is at c.in_ok-stages.ensures.stages in
    let v = rw c.in-None.is at c.in_ok-stages.ensures.verdict in
    let r = ready (not c.are_differences-limited.result) c.as_slice-rows.result.now c.in_ok-stages.stages.stages.items (ap not c.are_differences-limited.ensures) c.in_ok-stages.ensures.order (subst CanDecide (sym c.as_slice-rows.ensures.value) c.requires) s v in
    subst (λ (xs : List Stage). HaveBounds (length xs) xs) (sym c.as_slice.ensures.value) r.bounds

pub point_of-requires-clause-can : goal.point_of-requires-clause-can
point_of-requires-clause-can c =
    let s = rw c.in-None.is at c.in_ok-stages.ensures.stages in
    let v = rw c.in-None.is at c.in_ok-stages.ensures.verdict in
    let r = ready (not c.are_differences-limited.result) c.as_slice-rows.result.now c.in_ok-stages.stages.stages.items (ap not c.are_differences-limited.ensures) c.in_ok-stages.ensures.order (subst CanDecide (sym c.as_slice-rows.ensures.value) c.requires) s v in
    λ l. subst (λ (xs : List Stage). CanReckon (length xs) xs) (sym c.as_slice.ensures.value) (r.can l)

pub returns-in-Some-clause-sound : goal.returns-in-Some-clause-sound
returns-in-Some-clause-sound c =
    let v = rw c.in-Some.is at c.in_ok-stages.ensures.verdict in
    let r = rw c.in-Some.is at c.in_ok-stages.ensures.refuted in
    sound_ended c.args.system.now.rows.items (event_of c.in-Some.event) c.decision_of.result (subst AllInOrder c.as_slice-rows.ensures.value c.in_ok-stages.ensures.order)
    (subst (λ (rows : List Row). verdict rows ≡ stops (event_of c.in-Some.event)) c.as_slice-rows.ensures.value v) c.decision_of.ensures.decision
    (subst (λ (rows : List Row). HasLines rows c.decision_of.result) c.as_slice-rows.ensures.value (c.decision_of.ensures.lines c.as_slice-rows.result.now r))

pub returns-in-None-clause-sound : goal.returns-in-None-clause-sound
returns-in-None-clause-sound c =
    let s = rw c.in-None.is at c.in_ok-stages.ensures.stages in
    let v = rw c.in-None.is at c.in_ok-stages.ensures.verdict in
    let limited = not c.are_differences-limited.result in
    let w : verdict c.as_slice-rows.result.now ≡ under limited (length c.as_slice.result.now) c.as_slice.result.now (point []) =
    v ∙ ap (λ n. under limited n c.in_ok-stages.stages.stages.items (point [])) (sym s.count) ∙ ap (λ (xs : List Stage). under limited (length xs) xs (point [])) (sym c.as_slice.ensures.value) in
    if_ok_more c.point_of.result (λ d h. sound_values limited c.args.system.now.rows.items (length c.as_slice.result.now) c.as_slice.result.now d (subst AllInOrder c.as_slice-rows.ensures.value c.in_ok-stages.ensures.order) (subst (λ (rows : List Row). verdict rows ≡ under limited (length c.as_slice.result.now) c.as_slice.result.now (point [])) c.as_slice-rows.ensures.value w) h) c.point_of.ensures
