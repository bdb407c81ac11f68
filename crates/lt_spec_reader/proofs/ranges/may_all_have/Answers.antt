use Rattle.std.proofs.Common.{◌≡◌, ◌≤◌, true, false, length, sym, ◌∙◌, arith, rules}
use Rattle.lt_entry.specs.Views.{numeral_view}
use Rattle.lt_input_names.specs.Views.{scope_of, named_at}
use Rattle.lt_spec_reader.specs.Said.{may_range}
use Rattle.lt_spec_reader.proofs.Loops.{all_more, each_stops, each_ends}
use Rattle.lt_spec_reader.proofs.ranges.may_all_have.Goals as goal

pub returns-then-not-may_have : goal.returns-then-not-may_have
returns-then-not-may_have c = λ before said.
    let fails : c.may_have.result ≡ false = search rules in
    sym (each_stops (may_range (scope_of c.args.names.now) before (numeral_view c.args.line.now.low) (numeral_view c.args.line.now.high)) (named_at c.args.names.now) c.args.parts.now c.loop-part.part-index c.part-item.result c.loop-part-test.true c.part-item.is
    (sym (c.may_have.ensures before said) ∙ fails))

pub loop-part-preserved : goal.loop-part-preserved
loop-part-preserved c = λ before said.
    let holds : c.may_have.result ≡ true = search rules in
    all_more (may_range (scope_of c.args.names.now) before (numeral_view c.args.line.now.low) (numeral_view c.args.line.now.high)) (named_at c.args.names.now) c.args.parts.now c.loop-part.part-index c.part-item.result c.loop-part-test.true c.part-item.is
    (c.loop-part.invariant before said) (sym (c.may_have.ensures before said) ∙ holds)

pub returns : goal.returns
returns c = λ before said.
    let all : length c.args.parts.now ≤ c.loop-part.part-index = omega arith in
    each_ends (may_range (scope_of c.args.names.now) before (numeral_view c.args.line.now.low) (numeral_view c.args.line.now.high)) (named_at c.args.names.now) c.args.parts.now c.loop-part.part-index c.is_empty.result all (c.loop-part.invariant before said) c.is_empty.ensures
