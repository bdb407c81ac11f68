use Rattle.std.proofs.Common.{◌∙◌}
use Rattle.lt_tree.specs.Typing.TypeRows.{types_of_rows}
use Rattle.lt_table.proofs.TableRows.{continues_same}
use Rattle.lt_tables.proofs.bare_types.BareTypes.number.Goals as goal

pub returns : goal.returns
returns c = λ t is. let it = c.args.self.now in c.number_at.ensures ∙ it.numbers_hold it.rows (continues_same (types_of_rows it.rows)) c.stand_once.ensures t c.args.id is
