use Rattle.std.proofs.Common.{true, sym, subst}
use Rattle.lt_entry.specs.declared.suite_line.SuiteLine.{SuiteLine}
use Rattle.lt_entry.specs.LineViews.{suite_line_view}
use Rattle.lt_input_names.specs.Views.{scope_of}
use Rattle.lt_input_suites.specs.Drafts.{IsPut}
use Rattle.lt_input_suites.proofs.Puts.{begins_put}
use Rattle.lt_input_suites.proofs.begun.Begun.put.Goals as goal

pub returns-in-Test : goal.returns-in-Test
returns-in-Test c = λ lines form has.
    let scope = scope_of c.args.names.now in
    subst (λ (line : SuiteLine). IsPut scope lines (suite_line_view line) c.args.self.now c.args.self.now true) (sym c.in-Test.is)
    (begins_put scope lines c.in-Test.field-0.now c.args.self.now has)
