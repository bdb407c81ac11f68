use Rattle.std.proofs.Common.{refl, subst}
use Rattle.std.proofs.lemmas.Result.{IfOk-weaker}
use Rattle.lt_entry.specs.LineViews.{suite_line_view}
use Rattle.lt_input_names.specs.Views.{scope_of}
use Rattle.lt_input_suites.specs.Drafts.{HasBegun, Puts}
use Rattle.lt_input_suites.proofs.Drafted.{no_test, none_begun, taken_in}
use Rattle.lt_input_suites.proofs.draft.Draft.put.Goals as goal

pub returns-in-Some : goal.returns-in-Some
returns-in-Some c =
    let scope = scope_of c.args.names.now in
    let line = suite_line_view c.args.line.now in
    IfOk-weaker c.put.result (Puts scope line c.in-Some.test c.put.new.self) _
    (λ taken puts lines form is. taken_in scope lines line c.args.self.now _ c.in-Some.test c.put.new.self taken (no_test c.args.line.now c.in_default.not-Test) form is c.in-Some.is puts refl refl refl)
    c.put.ensures

pub returns-in-None : goal.returns-in-None
returns-in-None c = λ lines form is.
    let scope = scope_of c.args.names.now in
    none_begun scope lines (suite_line_view c.args.line.now) _ (no_test c.args.line.now c.in_default.not-Test) (subst (HasBegun scope lines) c.in-None.is is.begun)
