use Rattle.lt_entry.specs.Conditions.{same_place}
use Rattle.lt_input_names.specs.declared.part.Part.{Part}
use Rattle.lt_spec_reader.specs.Frees.{has_place}
use Rattle.lt_spec_reader.proofs.Loops.{any_more}
use Rattle.lt_spec_reader.proofs.MapLaws.{at, place_more}
use Rattle.lt_spec_reader.proofs.ranged.put_parts.Goals as goal

pub loop-part-preserved : goal.loop-part-preserved
loop-part-preserved c = λ place.
    any_more (λ (part : Part). same_place (at c.args.name.now part.place.offset) place) c.args.parts.now c.loop-part.part-index c.part-item.result (has_place c.loop-part.ranged place) _ (has_place c.args.ranged.now place) c.loop-part-test.true c.part-item.is (c.loop-part.invariant place)
    (place_more c.loop-part.ranged c.insert.new.self c.args.name c.part-item.result.place.offset c.in_ok-insert.ensures.updates.0 place)
