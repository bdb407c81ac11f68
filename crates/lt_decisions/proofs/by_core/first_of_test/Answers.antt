use Rattle.std.proofs.Common.{◌≡◌, sym, ap, ◌∙◌, subst, ◌+◌, ◌<◌, [], Option, Some, None, ℕ, MatchOption, length, arith}
use Rattle.std.proofs.lemmas.Bool.Decides.{nat_tests}
use Rattle.lt_objectives.specs.Decisions.{controlling}
use Rattle.lt_decisions.specs.declared.turn.TestPlace.TheVariants as place
use Rattle.lt_decisions.specs.Walk.{IsTest}
use Rattle.lt_decisions.proofs.TestPlaces.{placed, in_range}
use Rattle.lt_decisions.proofs.by_core.first_of_test.Goals as goal

pub returns-in_err-test_place : goal.returns-in_err-test_place
returns-in_err-test_place c unit node are at =
    let none = placed c.args.sites.now unit c.args.number node c.index-sites-number.result None are at c.index-sites-number.is (sym (c.in_err-test_place.was) ∙ c.test_place.ensures) in
    let M : Option ℕ → Type 0 = λ it. MatchOption it (controlling c.args.number node ≡ []) (λ first. IsTest c.args.sites.now c.args.number node first) in
    subst M (sym c.from_residual.ensures) none

pub returns-in_err-get-in-BehindBody : goal.returns-in_err-get-in-BehindBody
returns-in_err-get-in-BehindBody c unit node are at =
    let found = sym (c.in_ok-test_place.was ∙ ap Some c.in-BehindBody.is) ∙ c.test_place.ensures in
    let h = placed c.args.sites.now unit c.args.number node c.index-sites-number.result (Some place.BehindBody) are at c.index-sites-number.is found in
    let here : c.args.number + 1 < length c.args.sites.now = h.0 in
    let past = c.in_err-get-in-BehindBody.ensures.lookup in
    absurd (grind (arith, nat_tests))

pub returns-in-First : goal.returns-in-First
returns-in-First c unit node are at =
    let found = sym (c.in_ok-test_place.was ∙ ap Some c.in-First.is) ∙ c.test_place.ensures in
    placed c.args.sites.now unit c.args.number node c.index-sites-number.result (Some place.First) are at c.index-sites-number.is found

pub returns-in_ok-get-in-BehindBody : goal.returns-in_ok-get-in-BehindBody
returns-in_ok-get-in-BehindBody c unit node are at =
    let found = sym (c.in_ok-test_place.was ∙ ap Some c.in-BehindBody.is) ∙ c.test_place.ensures in
    let h = placed c.args.sites.now unit c.args.number node c.index-sites-number.result (Some place.BehindBody) are at c.index-sites-number.is found in
    let look = c.in_ok-get-in-BehindBody.ensures.lookup in
    in_range c.checked_add.result (c.args.number + 1 + c.in_ok-get-in-BehindBody.field-0.now.size) c.checked_add.ensures (omega arith) (h.1 c.in_ok-get-in-BehindBody.field-0.now look.1)

pub returns-in-BehindHead : goal.returns-in-BehindHead
returns-in-BehindHead c unit node are at =
    let found = sym (c.in_ok-test_place.was ∙ ap Some c.in-BehindHead.is) ∙ c.test_place.ensures in
    in_range c.checked_add-in-BehindHead.result (c.args.number + 1 + c.index-sites-number.result.head) c.checked_add-in-BehindHead.ensures (omega arith)
    (placed c.args.sites.now unit c.args.number node c.index-sites-number.result (Some place.BehindHead) are at c.index-sites-number.is found)
