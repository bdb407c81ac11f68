use Rattle.lt_meaning.specs.Runs.{initials}
use Rattle.lt_tables.specs.Views.{types_at, program_at}
use Rattle.lt_tables.proofs.StaticRows.{statics_done}
use Rattle.lt_tables.proofs.tables.Tables.statics.Goals as goal

pub returns : goal.returns
returns c =
    statics_done (program_at c.args.self.now) (types_at c.args.self.now) c.deref-object-items.result.now c.loop-object.object-index c.loop-object.all.items
    (initials (program_at c.args.self.now) (program_at c.args.self.now).objects) c.loop-object-test.false c.loop-object.invariant
