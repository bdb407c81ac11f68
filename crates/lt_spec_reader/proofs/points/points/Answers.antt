use Rattle.std.proofs.Common.{◌≡◌, true, map, sym, ap, ◌∙◌, rules}
use Rattle.std.specs.Prelude.{option_map}
use Rattle.std.specs.List.{find}
use Rattle.lt_model.specs.declared.input.Want.TheVariants as want
use Rattle.lt_tree.specs.Typing.Entities.{or_else}
use Rattle.lt_entry.specs.Conditions.{same_place, each_named}
use Rattle.lt_entry.specs.Meaning.{targets_for}
use Rattle.lt_entry.specs.Views.{place_view, target_view}
use Rattle.lt_input_names.specs.declared.part.Part.{Part}
use Rattle.lt_input_names.specs.Views.{scope_of, type_at, named_at}
use Rattle.lt_spec_reader.specs.Said.{found_at, may_point}
use Rattle.lt_spec_reader.proofs.MapLaws.{at}
use Rattle.lt_spec_reader.proofs.SaidLaws.{points_says, points_fits}
use Rattle.lt_spec_reader.proofs.points.points.Goals as goal

pub returns : goal.returns
returns c =
    let names = c.args.names.now in
    let line = c.args.line.now in
    let parts = c.in_ok-parts.parts.items in
    let holds : c.in_ok-may_all_point.field-0 ≡ true = search rules in
    points_fits names (place_view line.place) parts c.in_ok-parts.ensures (map target_view line.targets.items) c.args.wants.now c.say_all.new.wants true
    (λ before said. sym holds ∙ c.in_ok-may_all_point.ensures before said ∙ ap (λ l. each_named (may_point (scope_of names) before (map target_view line.targets.items)) (map (named_at names) l)) c.as_slice.ensures.value)
    (λ h. points_says names (place_view line.place) parts c.in_ok-parts.ensures (map target_view line.targets.items) c.args.wants.now c.say_all.new.wants
    (λ place.
    c.in_ok-say_all.ensures place
    ∙ ap (λ l. or_else (found_at c.args.wants.now place) (option_map (λ (part : Part). want.OneOf (targets_for (scope_of names) (map target_view line.targets.items) (type_at names part.ty))) (find (λ (part : Part). same_place (at line.place.name.now part.place.offset) place) l))) c.as_slice-2.ensures.value))
    (λ h. absurd (cc))
