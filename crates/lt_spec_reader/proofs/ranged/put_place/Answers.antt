use Rattle.std.proofs.Common.{sym, ap, ◌∙◌}
use Rattle.std.specs.Prelude.{◌||◌}
use Rattle.std.specs.List.{list_any}
use Rattle.lt_entry.specs.Conditions.{same_place}
use Rattle.lt_entry.specs.Views.{place_view}
use Rattle.lt_input_names.specs.declared.part.Part.{Part}
use Rattle.lt_spec_reader.specs.Frees.{has_place}
use Rattle.lt_spec_reader.proofs.MapLaws.{at}
use Rattle.lt_spec_reader.proofs.SaidLaws.{any_at}
use Rattle.lt_spec_reader.proofs.Loops.{on_ok_map}
use Rattle.lt_spec_reader.proofs.ranged.put_place.Goals as goal

pub returns : goal.returns
returns c =
    let word = c.args.word.now in
    on_ok_map c.put_parts.result
    (λ put place.
    put place
    ∙ ap (λ l. has_place c.args.ranged.now place || list_any (λ (part : Part). same_place (at word.name.now part.place.offset) place) l) c.as_slice.ensures.value
    ∙ ap (λ b. has_place c.args.ranged.now place || b) (sym (any_at c.args.names.now (place_view word) c.in_ok-parts.parts.items c.in_ok-parts.ensures place)))
    c.put_parts.ensures
