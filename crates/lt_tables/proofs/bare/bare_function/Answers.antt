use Rattle.lt_tables.proofs.BareRows.{function_row}
use Rattle.lt_tables.proofs.bare.bare_function.Goals as goal

pub returns-clause-bare : goal.returns-clause-bare
returns-clause-bare c =
    λ types.
    function_row c.args.table.now c.function.new.self c.in_ok-id.ensures.grows c.in_ok-id.id types c.args.bare.now c.args.void c.bare_of-returned.result c.args.function.now.result c.args.function.now.parameters.items
    c.deref.result.now c.in_ok-parameters.parameters.ids.items c.args.function.now.dots c.in_ok-parameters.parameters.are_bare c.bare_of-returned.ensures c.deref.ensures.value c.in_ok-parameters.ensures.ids
    c.in_ok-parameters.ensures.flag c.in_ok-id.ensures.made
