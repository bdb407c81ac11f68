use Rattle.std.proofs.Common.{◌∙◌, sym}
use Rattle.lt_tables.proofs.FilledCells.{put_place, put_there, put_nowhere}
use Rattle.lt_tables.proofs.filling.put.Goals as goal

pub put_at-requires : goal.put_at-requires
put_at-requires c = put_place c.args.model c.args.offset c.args.content c.args.cells.now c.in-Some.place.now (sym (c.requires c.args.offset) ∙ sym c.in-Some.ensures.value)

pub returns-in-Some : goal.returns-in-Some
returns-in-Some c =
    put_there c.args.model c.args.offset c.args.content c.args.cells.now c.put_at.new.cells c.in-Some.place.now (sym (c.requires c.args.offset) ∙ sym c.in-Some.ensures.value) c.put_at.ensures

pub returns-in-None : goal.returns-in-None
returns-in-None c = put_nowhere c.args.model c.args.offset c.args.content c.args.cells.now (sym (c.requires c.args.offset) ∙ sym c.in-None.ensures.value)
