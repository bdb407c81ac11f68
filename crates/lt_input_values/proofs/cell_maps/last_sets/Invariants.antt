use Rattle.std.proofs.Common.{◌≡◌, take, reverse}
use Rattle.std.specs.List.{find}
use Rattle.lt_model.specs.declared.input.Place.{Place}
use Rattle.lt_entry.specs.Conditions.{same_place}
use Rattle.lt_entry.specs.Meeting.{place_set}
use Rattle.lt_input_values.specs.Maps.{set_at}
use Rattle.lt_input_values.proofs.cell_maps.last_sets.Given as goal

abbrev pub invariant-loop-it : goal.invariant-loop-it
invariant-loop-it l = (place : Place) → set_at l.last place ≡ find (λ it. same_place (place_set it) place) (reverse (take l.it-index l.sets))
