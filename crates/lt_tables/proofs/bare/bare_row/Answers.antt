use Rattle.lt_tables.proofs.BareRows.{pointer_row, array_row, qualified_row}
use Rattle.lt_tables.proofs.bare.bare_row.Goals as goal

pub returns-in_ok-id-in-Pointer-clause-bare : goal.returns-in_ok-id-in-Pointer-clause-bare
returns-in_ok-id-in-Pointer-clause-bare c =
    λ types.
    pointer_row c.args.table.now c.pointer.new.self c.in_ok-id-in-Pointer.ensures.grows c.in_ok-id-in-Pointer.id types c.args.bare.now c.args.void c.bare_of-target.result c.args.row.now
    c.in-Pointer.t c.in-Pointer.is c.bare_of-target.ensures c.in_ok-id-in-Pointer.ensures.made

pub returns-in_ok-id-in-Array-clause-bare : goal.returns-in_ok-id-in-Array-clause-bare
returns-in_ok-id-in-Array-clause-bare c =
    λ types.
    array_row c.args.table.now c.array.new.self c.in_ok-id-in-Array.ensures.grows c.in_ok-id-in-Array.id types c.args.bare.now c.args.void c.bare_of-element.result c.args.row.now
    c.in-Array.t c.in-Array.length c.in-Array.is c.bare_of-element.ensures c.in_ok-id-in-Array.ensures.made

pub returns-in-Qualified-clause-bare : goal.returns-in-Qualified-clause-bare
returns-in-Qualified-clause-bare c =
    λ types. qualified_row c.args.table.now types c.args.bare.now c.args.void c.bare_of.result c.args.row.now c.in-Qualified.field-0 c.in-Qualified.t c.in-Qualified.is c.bare_of.ensures
