use Rattle.std.proofs.Common.{◌≡◌, take}
use Rattle.std.specs.Prelude.{option_map}
use Rattle.std.specs.List.{find}
use Rattle.lt_model.specs.declared.input.Place.{Place}
use Rattle.lt_model.specs.declared.input.Want.TheVariants as want
use Rattle.lt_tree.specs.Typing.Entities.{or_else}
use Rattle.lt_entry.specs.Written.{value_of}
use Rattle.lt_entry.specs.Conditions.{same_place}
use Rattle.lt_entry.specs.Views.{numeral_view}
use Rattle.lt_input_names.specs.declared.part.Part.{Part}
use Rattle.lt_spec_reader.specs.Said.{found_at}
use Rattle.lt_spec_reader.proofs.ranges.say_all.Given as goal

abbrev pub invariant-loop-part : goal.invariant-loop-part
invariant-loop-part l =
    (place : Place) → found_at l.wants place ≡ or_else (found_at l.initial.wants place)
    (option_map (λ (part : Part). want.Between (value_of (numeral_view l.line.low)) (value_of (numeral_view l.line.high))) (find (λ part. same_place (record { root = l.line.place.name.now; offset = part.place.offset }) place) (take l.part-index l.parts)))
