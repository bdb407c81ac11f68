use Rattle.std.proofs.Common.{◌≡◌, ◌≤◌, true, false, length, map, sym, ◌∙◌, arith, rules}
use Rattle.lt_entry.specs.Views.{target_view}
use Rattle.lt_input_names.specs.Views.{scope_of, named_at}
use Rattle.lt_spec_reader.specs.Said.{may_point}
use Rattle.lt_spec_reader.proofs.Loops.{all_more, each_stops, each_ends}
use Rattle.lt_spec_reader.proofs.points.may_all_point.Goals as goal

pub returns-then-not-branch : goal.returns-then-not-branch
returns-then-not-branch c = λ before said.
    let fails : c.in_ok-may_point.field-0 ≡ false = search rules in
    sym (each_stops (may_point (scope_of c.args.names.now) before (map target_view c.args.line.now.targets.items)) (named_at c.args.names.now) c.args.parts.now c.loop-part.part-index c.part-item.result c.loop-part-test.true c.part-item.is
    (sym (c.in_ok-may_point.ensures before said) ∙ fails))

pub loop-part-preserved : goal.loop-part-preserved
loop-part-preserved c = λ before said.
    let holds : c.in_ok-may_point.field-0 ≡ true = search rules in
    all_more (may_point (scope_of c.args.names.now) before (map target_view c.args.line.now.targets.items)) (named_at c.args.names.now) c.args.parts.now c.loop-part.part-index c.part-item.result c.loop-part-test.true c.part-item.is
    (c.loop-part.invariant before said) (sym (c.in_ok-may_point.ensures before said) ∙ holds)

pub returns : goal.returns
returns c = λ before said.
    let all : length c.args.parts.now ≤ c.loop-part.part-index = omega arith in
    each_ends (may_point (scope_of c.args.names.now) before (map target_view c.args.line.now.targets.items)) (named_at c.args.names.now) c.args.parts.now c.loop-part.part-index c.is_empty.result all (c.loop-part.invariant before said) c.is_empty.ensures
