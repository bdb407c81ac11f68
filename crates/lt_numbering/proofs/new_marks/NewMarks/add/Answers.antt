use Rattle.std.proofs.Common.{◌≡◌, ◌<◌, ◌+◌, [], map, length, false, ◌∷◌, ◌++◌}
use Rattle.lt_tree.specs.View.{expression_of}
use Rattle.lt_objectives.specs.Marked.{ids_of}
use Rattle.lt_objectives.specs.Objectives.{all_at}
use Rattle.lt_placing.specs.NewMarks.{form_of}
use Rattle.lt_numbering.specs.Numbering.{Adds, most_id}
use Rattle.std.proofs.Common.{subst, ap, ◌∙◌}
use Rattle.lt_objectives.specs.Objectives.{objective}
use Rattle.std.specs.Global.{Vec}
use Rattle.std.specs.Prelude.{◌==◌}
use Rattle.lt_placing.specs.declared.new_mark.NewMark.{NewMark}
use Rattle.lt_numbering.specs.declared.new_marks.NewMarks.{NewMarks}
use Rattle.lt_numbering.proofs.Numbers.{adds_both, adds_one, all_of_one_more, mark_is, one_done, some_mapped, too_few_left}
use Rattle.lt_numbering.proofs.new_marks.NewMarks.add.Goals as goal

-- src/new_marks.rt:90:17
pub returns-in_default-clause-ids : goal.returns-in_default-clause-ids
returns-in_default-clause-ids c =
    let some : 0 < length (map expression_of c.left.left.items)
    = some_mapped expression_of c.left.left.items (subst (λ n. false ≡ (n == 0)) c.left.left.ok.0 c.left-test.ensures) in
    let out : most_id + 1 < c.left.self.next + ids_of (form_of c.args.form) = c.in_default.ensures.taken in
    too_few_left c.args.self.now c.left.self c.args.place (form_of c.args.form) c.args.criterion c.left.invariant.0 (map expression_of c.left.left.items)
    (map expression_of c.args.predicates.items) c.left.invariant.1 some c.left.invariant.2 out

-- src/new_marks.rt:88:9
pub left-preserved-in-Continue-branch-2 : goal.left-preserved-in-Continue-branch-2
left-preserved-in-Continue-branch-2 c =
    let e = expression_of c.in-Some-pop_front.predicate in
    let done = c.left.invariant.0 in
    let rest = map expression_of c.pop_front.new.self.items in
    let parts = one_done done rest (map expression_of c.args.predicates.items) e (c.left.invariant.1 ∙ ap (λ xs. done ++ map expression_of xs) c.in-Some-pop_front.ensures.items) in
    let now : NewMarks = record { marks = c.push.new.self; next = c.take_id.new.self.next } in
    let taken = c.in-Some.ensures.taken in
    let tag = c.in_ok-tag.ensures in
    let stays = c.in-Some.ensures.stays in
    let items = c.in_ok-push.ensures.items in
    let one : Adds c.left.self now (objective c.args.place (form_of c.args.form) c.args.criterion e ∷ [])
    = adds_one c.left.self now c.take_id.new.self.marks.items _ (objective c.args.place (form_of c.args.form) c.args.criterion e)
    items (ap (λ (marks : Vec NewMark). marks.items) stays)
    (mark_is c.left.self.next c.in-Some.id c.args.place (form_of c.args.form) c.args.criterion e c.in_ok-tag.tag taken.0 tag)
    taken.1 taken.2 in
    let both = adds_both c.args.self.now c.left.self now (all_at c.args.place (form_of c.args.form) c.args.criterion done) (objective c.args.place (form_of c.args.form) c.args.criterion e ∷ []) c.left.invariant.2 one in
    (done ++ e ∷ [], parts, subst (λ them. Adds c.args.self.now now them) (all_of_one_more c.args.place (form_of c.args.form) c.args.criterion done e) both, taken.2)
