use Rattle.std.proofs.Common.{◌≡◌, sym, ap, ◌∙◌, ◌++◌, subst, length, arith}
use Rattle.std.proofs.lemmas.Grind.{common_steps}
use Rattle.lt_tree.specs.UnitView.{items_in}
use Rattle.lt_objectives.specs.Marked.{after_leading}
use Rattle.lt_placing.specs.Parts.{BeginsWithMarks}
use Rattle.lt_placing.proofs.Bodies.{none_behind, empty_marks, body_is}
use Rattle.lt_placing.proofs.unit.behind_leading.Goals as goal

pub returns-then-is_empty : goal.returns-then-is_empty
returns-then-is_empty c =
    let none : length c.args.labels.items ≡ 0 = grind (arith, common_steps, c.is_empty.ensures, c.if-is_empty.true, c.args.labels.ok.0) in
    sym (ap (λ ms. after_leading ms (items_in c.args.body.items)) (empty_marks c.args.labels.items none) ∙ none_behind (items_in c.args.body.items))

pub returns : goal.returns
returns c =
    body_is c.args.labels.items c.args.body.items _ _ _ _ _ (subst (λ xs. BeginsWithMarks xs c.leading_len-len.result) c.as_slice.ensures.value c.leading_len-len.ensures.leading)
    c.in_ok-rest.ensures.items c.in_ok-rest.ensures.tail c.in_ok-items.ensures
    (c.in_ok-append-2.ensures.items ∙ ap (λ xs. xs ++ c.in_ok-rest.rest.items) c.in_ok-append.ensures.items)
