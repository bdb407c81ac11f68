use Rattle.std.proofs.Common.{◌≡◌, ◌∙◌, ap, Some, None, Option, List, ℕ}
use Rattle.std.specs.Prelude.{option_map, option_copied}
use Rattle.std.specs.Borrow.{Bor}
use Rattle.std.specs.HashMap.{get_by}
use Rattle.std.specs.Str.{bytes_eq}
use Rattle.lt_model.specs.declared.input.StubRange.{StubRange}
use Rattle.lt_model.specs.declared.input.StubSet.{StubSet}
use Rattle.lt_input_values.specs.Maps.{values_for}
use Rattle.lt_input_values.proofs.Steps.{pick_more, pick_none}
use Rattle.lt_input_values.proofs.stub_order.values_for_ranges.Goals as goal
use Rattle.lt_input_values.proofs.stub_order.values_for_ranges.Goals.{in-Some+in_ok-values_of-in-Some+in_ok-push-in-Some, in-None}

pub loop-range-preserved : goal.loop-range-preserved
loop-range-preserved c =
    let range = c.range-item.result in
    let found : option_copied c.get.result ≡ get_by (λ (key : Bor (List ℕ)). bytes_eq range.name key.now) c.args.first.now =
    c.get.ensures.value ∙ ap (λ bytes. get_by (λ (key : Bor (List ℕ)). bytes_eq bytes key.now) c.args.first.now) c.as_slice.ensures in
    let is : option_map (λ it. it.now) (option_copied c.get.result) ≡ values_for c.args.first.now range.name = ap (option_map (λ it. it.now)) found in
    elim c.match-get.branch [
      | in-Some+in_ok-values_of-in-Some+in_ok-push-in-Some w ↦
          let some : Some w.in-Some.it.now.now ≡ values_for c.args.first.now range.name = rw w.in-Some.is at is in
          rw (w.sets-is, w.in_ok-push-in-Some.ensures.items, w.in_ok-values_of-in-Some.ensures)
          (pick_more (λ (range : StubRange). values_for c.args.first.now range.name) c.args.ranges.now c.loop-range.range-index range (Some w.in-Some.it.now.now) c.loop-range.sets.items c.loop-range-test.true c.range-item.is some c.loop-range.invariant)
      | in-None w ↦
          let none : Option StubSet = None in
          let unset : none ≡ values_for c.args.first.now range.name = rw w.in-None.is at is in
          rw w.sets-is (pick_none (λ (range : StubRange). values_for c.args.first.now range.name) c.args.ranges.now c.loop-range.range-index range c.loop-range.sets.items c.loop-range-test.true c.range-item.is unset c.loop-range.invariant)
    ]
