use Rattle.std.proofs.Common.{◌≤◌, List, length, map, ap, ◌∙◌, arith}
use Rattle.std.specs.Prelude.{Option, Some, None, if◌then◌else◌}
use Rattle.lt_model.specs.declared.input.Place.{Place}
use Rattle.lt_model.specs.declared.input.Want.TheVariants as want
use Rattle.lt_tree.specs.Typing.Entities.{or_else}
use Rattle.lt_entry.specs.Conditions.{same_place}
use Rattle.lt_entry.specs.Meaning.{targets_for}
use Rattle.lt_entry.specs.Views.{target_view}
use Rattle.lt_input_names.specs.declared.part.Part.{Part}
use Rattle.lt_input_names.specs.Views.{scope_of, type_at}
use Rattle.lt_spec_reader.specs.Said.{found_at}
use Rattle.lt_spec_reader.proofs.Loops.{found_more, found_done}
use Rattle.lt_spec_reader.proofs.MapLaws.{at}
use Rattle.lt_spec_reader.proofs.points.say_all.Goals as goal

pub loop-part-preserved : goal.loop-part-preserved
loop-part-preserved c = λ place.
    let names = c.args.names.now in
    let targets = map target_view c.args.line.now.targets.items in
    found_more (λ (part : Part). want.OneOf (targets_for (scope_of names) targets (type_at names part.ty))) (λ (part : Part). same_place (at c.args.line.now.place.name.now part.place.offset) place) c.args.parts.now c.loop-part.part-index c.part-item.result
    (found_at c.loop-part.wants place) _ (found_at c.args.wants.now place) c.loop-part-test.true c.part-item.is (c.loop-part.invariant place)
    (c.in_ok-say.ensures place
    ∙ ap (λ (l : List (Option Place)). or_else (found_at c.loop-part.wants place) (if same_place (at c.args.line.now.place.name.now c.part-item.result.place.offset) place then Some (want.OneOf l) else None))
    (c.new.ensures ∙ c.in_ok-targets.ensures ∙ ap (λ l. targets_for (scope_of names) (map target_view l) (type_at names c.part-item.result.ty)) c.as_slice.ensures.value))

pub returns : goal.returns
returns c = λ place.
    let names = c.args.names.now in
    let targets = map target_view c.args.line.now.targets.items in
    let all : length c.args.parts.now ≤ c.loop-part.part-index = omega arith in
    found_done (λ (part : Part). want.OneOf (targets_for (scope_of names) targets (type_at names part.ty))) (λ (part : Part). same_place (at c.args.line.now.place.name.now part.place.offset) place) c.args.parts.now c.loop-part.part-index
    (found_at c.loop-part.wants place) (found_at c.args.wants.now place) all (c.loop-part.invariant place)
