-- The table of a draft.
use Rattle.lt_cover.specs.declared.draft.Draft.{Draft}
use Rattle.lt_cover.specs.Coverage.Table.{Table}

abbrev pub table_of : Draft → Table
table_of draft = record { tests = draft.tests.items; labels = draft.labels.items; hypers = draft.hypers.items }
