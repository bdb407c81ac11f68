use Rattle.std.proofs.Common.{◌≤◌, refl, sym, ap, ◌∙◌, subst, ◌+◌, ◌-◌, ◌^◌, min, length, arith}
use Rattle.lt_placing.specs.declared.walk.Walk.{Walk}
use Rattle.lt_placing.specs.NewMarks.{new_mark_of, new_marks}
use Rattle.lt_placing.specs.Walks.{TakesIn, is_reached}
use Rattle.lt_placing.proofs.Gathering.{Gathered, none_gathered, more_gathered, all_gathered}
use Rattle.lt_placing.proofs.place.marks_at_next.Goals as goal

pub marks-init : goal.marks-init
marks-init c = record { gathered = none_gathered _ _ _ c.new.ensures.items c.new-2.ensures.items c.new-3.ensures.items; same = refl }

pub marks-preserved : goal.marks-preserved
marks-preserved c =
    let same = c.in-Some.ensures.number ∙ c.marks.invariant.same in
    let takes = subst (λ place. TakesIn c.marks.here c.add.new.self place (new_mark_of c.in-Some.it)) same c.in_ok-add.ensures in
    let reached : c.in-Some.it.place ≤ c.args.walk.now.next = omega (arith, c.in-Some.ensures.reached, c.marks.invariant.same) in
    record { gathered = more_gathered _ _ _ _ _ _ _ (ap new_marks c.in-Some.ensures.cases) reached takes c.marks.invariant.gathered; same = same }

pub marks-smaller : goal.marks-smaller
marks-smaller c = omega (arith, ap length c.in-Some.ensures.cases)

pub returns : goal.returns
returns c =
    let before : Walk = c.args.walk.now in
    let now : Walk = record { marks = c.take_mark.new.self.marks; next = c.saturating_add-walk.result } in
    let none = c.in_default.ensures.cases in
    let same = c.marks.invariant.same in
    all_gathered before now c.marks.here
    (subst (λ xs. Gathered c.marks.here (new_marks before.marks.items) (new_marks xs) before.next) (sym none) c.marks.invariant.gathered)
    (ap (λ xs. is_reached before.next (new_marks xs)) none ∙ ap (λ n. is_reached n (new_marks c.marks.walk.marks.items)) (sym same) ∙ c.in_default.ensures.reached)
    (c.saturating_add-walk.ensures ∙ ap (λ n. min (n + 1) (2 ^ 128 - 1)) (c.in_default.ensures.number ∙ same))
