use Rattle.std.proofs.Common.{◌<◌, length, arith}
use Rattle.lt_table.proofs.TableMade.{stands_in}
use Rattle.lt_table.proofs.table.TypeTable.known.Goals as goal

pub returns-then-t-len : goal.returns-then-t-len
returns-then-t-len c = let within : c.args.t.place < length c.args.self.now = omega arith in stands_in c.args.self.now c.args.t within
