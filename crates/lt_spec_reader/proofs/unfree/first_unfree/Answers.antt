use Rattle.std.proofs.Common.{◌≡◌, ◌≤◌, true, false, length, sym, ◌∙◌, arith, rules}
use Rattle.lt_entry.specs.LineViews.{row_view, line_view}
use Rattle.lt_input_names.specs.Views.{scope_of}
use Rattle.lt_spec_reader.proofs.UnfreeLaws.{free_more, free_stops, free_ends}
use Rattle.lt_spec_reader.proofs.unfree.first_unfree.Goals as goal

pub returns-then-not-branch : goal.returns-then-not-branch
returns-then-not-branch c = λ all are.
    let fails : c.in_ok-is_line_free.field-0 ≡ false = search rules in
    c.number_at.ensures
    ∙ free_stops row_view line_view (scope_of c.args.names.now) all c.args.rows.now c.args.lines.now c.loop-i.i c.index-lines-i.result _ c.loop-i-test.true c.index-lines-i.is (sym (c.in_ok-is_line_free.ensures all are) ∙ fails) (c.loop-i.invariant all are)

pub loop-i-preserved : goal.loop-i-preserved
loop-i-preserved c = λ all are.
    let holds : c.in_ok-is_line_free.field-0 ≡ true = search rules in
    free_more row_view line_view (scope_of c.args.names.now) all c.args.rows.now c.args.lines.now c.loop-i.i c.index-lines-i.result _ c.loop-i-test.true c.index-lines-i.is (sym (c.in_ok-is_line_free.ensures all are) ∙ holds) (c.loop-i.invariant all are)

pub returns : goal.returns
returns c = λ all are.
    let past : length c.args.lines.now ≤ c.loop-i.i = omega arith in
    free_ends row_view line_view (scope_of c.args.names.now) all c.args.rows.now c.args.lines.now c.loop-i.i _ past (c.loop-i.invariant all are)
