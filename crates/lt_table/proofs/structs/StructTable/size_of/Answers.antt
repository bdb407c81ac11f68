use Rattle.std.proofs.Common.{ap, ◌∙◌, Some, unwrap_or}
use Rattle.lt_model.specs.Layout.{then_some}
use Rattle.lt_table.proofs.StructQueries.{size_is}
use Rattle.lt_table.proofs.structs.StructTable.size_of.Goals as goal

pub returns-clause-value : goal.returns-clause-value
returns-clause-value c = size_is c.args.types.now c.args.self.now c.args.t c.in_ok-row.row c.in_ok-row.ensures.facts c.requires c.size.result (c.size.ensures ∙ ap (λ o. unwrap_or (then_some o (λ e. Some e.size)) 0) c.row_extent.ensures)
