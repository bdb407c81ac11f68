use Rattle.std.proofs.Common.{◌≡◌, true, false, map, refl, sym, ap, ◌∙◌, rules}
use Rattle.std.specs.Prelude.{option_map}
use Rattle.std.specs.List.{find}
use Rattle.lt_model.specs.declared.input.Want.TheVariants as want
use Rattle.lt_tree.specs.Typing.Entities.{or_else}
use Rattle.lt_entry.specs.Written.{value_of}
use Rattle.lt_entry.specs.Conditions.{same_place, each_named}
use Rattle.lt_entry.specs.Views.{numeral_view, place_view}
use Rattle.lt_input_names.specs.declared.part.Part.{Part}
use Rattle.lt_input_names.specs.Views.{scope_of, named_at}
use Rattle.lt_spec_reader.specs.Said.{found_at, may_range}
use Rattle.lt_spec_reader.proofs.MapLaws.{at}
use Rattle.lt_spec_reader.proofs.SaidLaws.{range_says, range_fits}
use Rattle.lt_spec_reader.proofs.ranges.range.Goals as goal

pub returns-then-not-may_all_have : goal.returns-then-not-may_all_have
returns-then-not-may_all_have c =
    let names = c.args.names.now in
    let line = c.args.line.now in
    let fails : c.may_all_have.result ≡ false = search rules in
    range_fits names (place_view line.place) c.in_ok-parts.parts.items c.in_ok-parts.ensures (numeral_view line.low) (numeral_view line.high) c.args.wants.now c.args.wants.now false
    (λ before said. sym fails ∙ c.may_all_have.ensures before said ∙ ap (λ l. each_named (may_range (scope_of names) before (numeral_view line.low) (numeral_view line.high)) (map (named_at names) l)) c.as_slice.ensures.value)
    (λ h. absurd (cc)) (λ h. refl)

pub returns : goal.returns
returns c =
    let names = c.args.names.now in
    let line = c.args.line.now in
    let parts = c.in_ok-parts.parts.items in
    let holds : c.may_all_have.result ≡ true = search rules in
    range_fits names (place_view line.place) parts c.in_ok-parts.ensures (numeral_view line.low) (numeral_view line.high) c.args.wants.now c.say_all.new.wants true
    (λ before said. sym holds ∙ c.may_all_have.ensures before said ∙ ap (λ l. each_named (may_range (scope_of names) before (numeral_view line.low) (numeral_view line.high)) (map (named_at names) l)) c.as_slice.ensures.value)
    (λ h. range_says names (place_view line.place) parts c.in_ok-parts.ensures (numeral_view line.low) (numeral_view line.high) c.args.wants.now c.say_all.new.wants
    (λ place.
    c.in_ok-say_all.ensures place
    ∙ ap (λ l. or_else (found_at c.args.wants.now place) (option_map (λ (part : Part). want.Between (value_of (numeral_view line.low)) (value_of (numeral_view line.high))) (find (λ (part : Part). same_place (at line.place.name.now part.place.offset) place) l))) c.as_slice-2.ensures.value))
    (λ h. absurd (cc))
