use Rattle.std.proofs.Common.{◌∙◌, sym, ap}
use Rattle.std.specs.Prelude.{◌||◌}
use Rattle.std.specs.Str.{bytes_eq}
use Rattle.lt_model.specs.declared.input.StubRange.{StubRange}
use Rattle.lt_input_values.proofs.Steps.{any_more}
use Rattle.lt_input_values.proofs.MapLaws.{has_name_more}
use Rattle.lt_input_values.proofs.stub_order.names_of.Goals as goal

pub loop-range-preserved : goal.loop-range-preserved
loop-range-preserved c = λ name.
    let range = c.range-item.result in
    has_name_more c.loop-range.names c.insert.new.self c.as_slice.result range.name c.as_slice.ensures c.in_ok-insert.ensures.updates.0 name
    ∙ ap (λ known. bytes_eq range.name name || known) (c.loop-range.invariant name)
    ∙ sym (any_more (λ (range : StubRange). bytes_eq range.name name) c.args.ranges.now c.loop-range.range-index range c.loop-range-test.true c.range-item.is)
