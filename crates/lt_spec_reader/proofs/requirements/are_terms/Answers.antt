use Rattle.std.proofs.Common.{◌≡◌, false, sym, ◌∙◌, rules}
use Rattle.lt_entry.specs.Conditions.{is_term}
use Rattle.lt_entry.specs.LineViews.{addend_view}
use Rattle.lt_input_names.specs.Views.{scope_of}
use Rattle.lt_spec_reader.proofs.Loops.{all_fails}
use Rattle.lt_spec_reader.proofs.requirements.are_terms.Goals as goal

pub returns-then-not-branch : goal.returns-then-not-branch
returns-then-not-branch c =
    let fails : c.in_ok-is_term.field-0 ≡ false = search rules in
    sym (all_fails (is_term (scope_of c.args.names.now)) addend_view c.args.addends.now c.loop-addend.addend-index c.addend-item.result c.loop-addend-test.true c.addend-item.is (sym c.in_ok-is_term.ensures ∙ fails))
