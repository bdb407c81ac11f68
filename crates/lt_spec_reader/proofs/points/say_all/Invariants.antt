use Rattle.std.proofs.Common.{◌≡◌, take, map}
use Rattle.std.specs.Prelude.{option_map}
use Rattle.std.specs.List.{find}
use Rattle.lt_model.specs.declared.input.Place.{Place}
use Rattle.lt_model.specs.declared.input.Want.TheVariants as want
use Rattle.lt_tree.specs.Typing.Entities.{or_else}
use Rattle.lt_entry.specs.Conditions.{same_place}
use Rattle.lt_entry.specs.Meaning.{targets_for}
use Rattle.lt_entry.specs.Views.{target_view}
use Rattle.lt_input_names.specs.Views.{scope_of, type_at}
use Rattle.lt_spec_reader.specs.Said.{found_at}
use Rattle.lt_spec_reader.proofs.points.say_all.Given as goal

abbrev pub invariant-loop-part : goal.invariant-loop-part
invariant-loop-part l =
    (place : Place) → found_at l.wants place ≡ or_else (found_at l.initial.wants place)
    (option_map (λ part. want.OneOf (targets_for (scope_of l.names) (map target_view l.line.targets.items) (type_at l.names part.ty))) (find (λ part. same_place (record { root = l.line.place.name.now; offset = part.place.offset }) place) (take l.part-index l.parts)))
