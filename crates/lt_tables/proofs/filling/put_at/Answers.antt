use Rattle.lt_tables.proofs.FilledCells.{set_filled}
use Rattle.lt_tables.proofs.filling.put_at.Goals as goal

pub returns : goal.returns
returns c = λ d. set_filled c.args.model c.args.content c.as_type-holds.result c.args.cells.now c.args.place _ d c.requires c.as_type-holds.ensures
