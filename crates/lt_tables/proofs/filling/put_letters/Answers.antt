use Rattle.std.proofs.Common.{◌∙◌, ◌+◌, ap, refl}
use Rattle.std.specs.Ordering.{nat_cmp}
use Rattle.std.specs.BTreeMap.{get}
use Rattle.lt_tables.proofs.FilledCells.{letters_next, fixed_stay, offsets_stay, offsets}
use Rattle.lt_tables.proofs.filling.put_letters.Goals as goal

pub loop-place-preserved : goal.loop-place-preserved
loop-place-preserved c =
    let before = c.loop-place.invariant in
    record {
      cells = letters_next c.args.model c.args.offset c.loop-place.place c.from.result _ c.letter.result c.args.bytes.now c.loop-place.cells c.put.new.cells c.args.cells.now c.loop-place-test.true refl c.from.ensures
          c.letter.ensures c.put.ensures before.cells;
      places = offsets_stay (get nat_cmp c.args.places.now) c.loop-place.cells c.put.new.cells
          (ap offsets c.put.ensures ∙ fixed_stay c.args.model (c.from.result + c.loop-place.place) c.letter.result c.loop-place.cells) before.places;
    }
