use Rattle.std.proofs.Common.{refl}
use Rattle.lt_tree.specs.Typing.Types.{Void}
use Rattle.lt_tree.specs.Typing.TypeRows.{types_of_rows}
use Rattle.lt_tables.specs.TypeNumbers.{types_named}
use Rattle.lt_tables.proofs.NumbersKept.{id_grown, ids_grown, numbers_grown, stays_grown}
use Rattle.lt_tables.proofs.bare_types.BareTypes.put.Goals as goal

pub invariant_of-self : goal.invariant_of-self
invariant_of-self c =
    let it = c.args.self.now in
    let new = c.put.new.self in
    let grows = c.put.ensures.grows in
    let program = it.program.now in
    record {
      rows_hold = ids_grown it.rows new grows (types_of_rows program.table.items) it.bare.items it.void it.rows_hold;
      void_holds = id_grown it.rows new grows Void it.void.id it.void_holds;
      numbers_hold = numbers_grown it.rows new grows (types_named program.table.items program.types.items) it.places it.other it.numbers_hold;
    }

pub returns-clause-keeps : goal.returns-clause-keeps
returns-clause-keeps c = record { program = refl; ids = stays_grown c.args.self.now.rows c.put.new.self c.put.ensures.grows }
