use Rattle.std.proofs.Common.{ap, ◌∙◌, refl}
use Rattle.std.specs.Prelude.{◌&&◌, not, is_some}
use Rattle.lt_entry.specs.Conditions.{is_range}
use Rattle.lt_entry.specs.Views.{numeral_view}
use Rattle.lt_input_names.specs.Views.{scope_of, named_at}
use Rattle.lt_input_wants.specs.Places.{found_at}
use Rattle.lt_spec_reader.proofs.SaidLaws.{may_range_is}
use Rattle.lt_spec_reader.proofs.ranges.may_have.Goals as goal

pub returns : goal.returns
returns c = λ before said.
    let low = numeral_view c.args.line.now.low in
    let high = numeral_view c.args.line.now.high in
    let said_at = is_some (found_at c.args.wants.now c.args.part.now.place) in
    c.may_have_range.ensures ∙ ap (λ m. is_range m low high c.scalar-scalar.result && not said_at) c.model.ensures
    ∙ may_range_is (scope_of c.args.names.now) before low high (named_at c.args.names.now c.args.part.now) _ _ _ _ refl c.scalar-scalar.ensures refl (said c.args.part.now.place)
