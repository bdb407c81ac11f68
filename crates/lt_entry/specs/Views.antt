-- What is kept of words and lines, as the definitions have them.
use Rattle.std.specs.Prelude.{map}
use Rattle.lt_entry.specs.Written.{Numeral, Step, at_index, at_each, at_member, PlaceWord, TargetWord, to_null, to_place}
use Rattle.lt_entry.specs.declared.number.Numeral as number
use Rattle.lt_entry.specs.declared.place.Step as step
use Rattle.lt_entry.specs.declared.place.Step.TheVariants as steps
use Rattle.lt_entry.specs.declared.place.PlaceWord as place
use Rattle.lt_entry.specs.declared.place.TargetWord as target
use Rattle.lt_entry.specs.declared.place.TargetWord.TheVariants as targets

abbrev pub numeral_view : number.Numeral → Numeral
numeral_view n = record { is_negative = n.is_negative; size = n.size }

abbrev pub step_view : step.Step → Step
step_view (steps.Index index) = at_index (numeral_view index)
step_view steps.Each = at_each
step_view (steps.Member name) = at_member name.now

abbrev pub place_view : place.PlaceWord → PlaceWord
place_view p = record { name = p.name.now; steps = map step_view p.steps.items }

abbrev pub target_view : target.TargetWord → TargetWord
target_view targets.Null = to_null
target_view (targets.Place p) = to_place (place_view p)
