use Rattle.std.proofs.Common.{arith}
use Rattle.lt_tree.specs.Typing.Types.{bare}
use Rattle.lt_tables.proofs.BareNumbers.{made_within}
use Rattle.lt_tables.proofs.NumbersKept.{pointer_made}
use Rattle.lt_tables.proofs.bare_types.BareTypes.pointer.Goals as goal

pub returns-clause-id : goal.returns-clause-id
returns-clause-id c = λ t is. pointer_made c.args.self.now.rows c.put.new.self.rows c.put.ensures.grows c.put.result c.args.target t is c.put.ensures.made

pub returns-then-target-len-clause-id : goal.returns-then-target-len-clause-id
returns-then-target-len-clause-id c = λ t is.
    let rows = c.args.self.now.rows in
    let within = made_within rows c.args.target (bare t) is in
    absurd (omega (arith, within, c.if-target-len.true, c.len.ensures))
