use Rattle.lt_expr.specs.Parsing.{scope_of}
use Rattle.lt_decl.specs.HeadView.{head_of}
use Rattle.lt_decl.specs.Singles.{after_head}
use Rattle.lt_expr.proofs.Failures.{fails_as, names_fail}
use Rattle.lt_decl.proofs.Heads.{head_read, head_without_test, head_without_step}
use Rattle.lt_decl.proofs.control.for_head.Goals as goal

pub returns : goal.returns
returns c =
    let start = c.in_ok-start.ensures in
    let test = c.in_ok-test.ensures in
    let step = c.in_ok-step.ensures in
    head_read _ _ _ _ _ _ _ _ _ _ start.0 start.1 test.0 test.1 c.in_ok-hide_optional.ensures step.0 step.1 c.in_ok-hide_optional-2.ensures

pub returns-in_err-test : goal.returns-in_err-test
returns-in_err-test c =
    let start = c.in_ok-start.ensures in
    let h = c.from_residual-in_err-test.ensures in
    names_fail head_of (λ h. after_head h (scope_of c.args.parser.now)) c.args.parser.now c.optional.new.parser _ _ _ h.0 h.1
    (fails_as _ _ _ (λ none. head_without_test _ _ _ _ start.0 start.1 none) c.in_err-test.ensures)

pub returns-in_err-step : goal.returns-in_err-step
returns-in_err-step c =
    let start = c.in_ok-start.ensures in
    let test = c.in_ok-test.ensures in
    let h = c.from_residual-in_err-step.ensures in
    names_fail head_of (λ h. after_head h (scope_of c.args.parser.now)) c.args.parser.now c.optional-2.new.parser _ _ _ h.0 h.1
    (fails_as _ _ _ (λ none. head_without_step _ _ _ _ _ _ _ start.0 start.1 test.0 test.1 c.in_ok-hide_optional.ensures none) c.in_err-step.ensures)
