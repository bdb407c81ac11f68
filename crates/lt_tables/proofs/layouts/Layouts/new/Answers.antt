use Rattle.std.proofs.Common.{◌∙◌}
use Rattle.lt_tables.proofs.PlacedRows.{layouts_same}
use Rattle.lt_tables.proofs.layouts.Layouts.new.Goals as goal

pub returns : goal.returns
returns c =
    layouts_same c.args.program.now.model c.in_ok-parts.parts.model c.args.program.now.table.items c.in_ok-parts.parts.rows.now c.args.program.now.structs.items c.deref-2.result.now c.in_ok-layouts.layouts
    c.in_ok-parts.ensures.model (c.in_ok-parts.ensures.rows ∙ c.deref.ensures.value) c.deref-2.ensures.value c.in_ok-layouts.ensures
