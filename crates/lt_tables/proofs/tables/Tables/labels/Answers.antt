use Rattle.lt_tables.proofs.LabelRows.{labels_done}
use Rattle.lt_tables.proofs.tables.Tables.labels.Goals as goal

pub returns : goal.returns
returns c = labels_done c.copied_labels.result c.deref.result.now c.args.self.now.program.now.labels.items c.deref.ensures.value c.copied_labels.ensures
