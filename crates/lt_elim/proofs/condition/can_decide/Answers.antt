use Rattle.std.proofs.Common.{◌∙◌, ap, ◌+◌}
use Rattle.lt_elim.specs.Condition.{greatest}
use Rattle.lt_elim.specs.Decision.{variables}
use Rattle.lt_elim.proofs.Conditions.{condition_told, condition_passed}
use Rattle.lt_elim.proofs.condition.can_decide.Goals as goal

pub returns-in-Some : goal.returns-in-Some
returns-in-Some c =
    let count = c.from-count.ensures ∙ ap (λ n. n + 1) (c.variables.ensures.count ∙ ap variables c.as_slice-rows.ensures.value) in
    let size = c.greatest.ensures.size ∙ ap greatest c.as_slice-rows.ensures.value in
    condition_told c.args.system.now.rows.items c.from-count.result c.greatest.result c.in-Some.product count size c.in-Some.ensures.1

pub returns-in-None : goal.returns-in-None
returns-in-None c =
    let count = c.from-count.ensures ∙ ap (λ n. n + 1) (c.variables.ensures.count ∙ ap variables c.as_slice-rows.ensures.value) in
    let size = c.greatest.ensures.size ∙ ap greatest c.as_slice-rows.ensures.value in
    ((λ t. absurd (cc)), (λ d. absurd (condition_passed c.args.system.now.rows.items c.from-count.result c.greatest.result count size c.in-None.ensures d)))
