use Rattle.std.proofs.Common.{◌≤◌, length, ap, ◌∙◌, arith}
use Rattle.std.specs.Prelude.{Some, None, if◌then◌else◌}
use Rattle.lt_model.specs.declared.input.Want.{Want}
use Rattle.lt_model.specs.declared.input.Want.TheVariants as want
use Rattle.lt_tree.specs.Typing.Entities.{or_else}
use Rattle.lt_entry.specs.Written.{value_of}
use Rattle.lt_entry.specs.Conditions.{same_place}
use Rattle.lt_entry.specs.Views.{numeral_view}
use Rattle.lt_input_names.specs.declared.part.Part.{Part}
use Rattle.lt_spec_reader.specs.Said.{found_at}
use Rattle.lt_spec_reader.proofs.Loops.{found_more, found_done}
use Rattle.lt_spec_reader.proofs.MapLaws.{at}
use Rattle.lt_spec_reader.proofs.ranges.say_all.Goals as goal

pub loop-part-preserved : goal.loop-part-preserved
loop-part-preserved c = λ place.
    let wanted : Want = want.Between (value_of (numeral_view c.args.line.now.low)) (value_of (numeral_view c.args.line.now.high)) in
    found_more (λ (part : Part). wanted) (λ (part : Part). same_place (at c.args.line.now.place.name.now part.place.offset) place) c.args.parts.now c.loop-part.part-index c.part-item.result (found_at c.loop-part.wants place) _ (found_at c.args.wants.now place)
    c.loop-part-test.true c.part-item.is (c.loop-part.invariant place)
    (c.in_ok-say.ensures place
    ∙ ap (λ w. or_else (found_at c.loop-part.wants place) (if same_place (at c.args.line.now.place.name.now c.part-item.result.place.offset) place then Some w else None))
    c.want_of.ensures)

pub returns : goal.returns
returns c = λ place.
    let wanted : Want = want.Between (value_of (numeral_view c.args.line.now.low)) (value_of (numeral_view c.args.line.now.high)) in
    let all : length c.args.parts.now ≤ c.loop-part.part-index = omega arith in
    found_done (λ (part : Part). wanted) (λ (part : Part). same_place (at c.args.line.now.place.name.now part.place.offset) place) c.args.parts.now c.loop-part.part-index (found_at c.loop-part.wants place) (found_at c.args.wants.now place) all (c.loop-part.invariant place)
