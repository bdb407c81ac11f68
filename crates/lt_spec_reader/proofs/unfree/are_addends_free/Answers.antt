use Rattle.std.proofs.Common.{◌≡◌, ◌≤◌, true, false, length, sym, ◌∙◌, arith, rules}
use Rattle.std.specs.List.{list_all}
use Rattle.lt_entry.specs.Naming.{named_by}
use Rattle.lt_entry.specs.SpecificationLines.{Addend}
use Rattle.lt_entry.specs.Conditions.{is_free}
use Rattle.lt_entry.specs.LineViews.{addend_view}
use Rattle.lt_input_names.specs.Views.{scope_of}
use Rattle.lt_spec_reader.proofs.Loops.{all_more, all_fails, all_done}
use Rattle.lt_spec_reader.proofs.unfree.are_addends_free.Goals as goal

pub returns-then-not-branch : goal.returns-then-not-branch
returns-then-not-branch c = λ rows are.
    let scope = scope_of c.args.names.now in
    let fails : c.in_ok-is_place_free.field-0 ≡ false = search rules in
    sym (all_fails (λ (addend : Addend). list_all (is_free scope rows) (named_by scope addend.term.place)) addend_view c.args.addends.now c.loop-addend.addend-index c.addend-item.result c.loop-addend-test.true c.addend-item.is (sym (c.in_ok-is_place_free.ensures rows are) ∙ fails))

pub loop-addend-preserved : goal.loop-addend-preserved
loop-addend-preserved c = λ rows are.
    let scope = scope_of c.args.names.now in
    let holds : c.in_ok-is_place_free.field-0 ≡ true = search rules in
    all_more (λ (addend : Addend). list_all (is_free scope rows) (named_by scope addend.term.place)) addend_view c.args.addends.now c.loop-addend.addend-index c.addend-item.result c.loop-addend-test.true c.addend-item.is (c.loop-addend.invariant rows are)
    (sym (c.in_ok-is_place_free.ensures rows are) ∙ holds)

pub returns : goal.returns
returns c = λ rows are.
    let scope = scope_of c.args.names.now in
    let all : length c.args.addends.now ≤ c.loop-addend.addend-index = omega arith in
    sym (all_done (λ (addend : Addend). list_all (is_free scope rows) (named_by scope addend.term.place)) addend_view c.args.addends.now c.loop-addend.addend-index all (c.loop-addend.invariant rows are))
