use Rattle.std.proofs.Common.{◌≡◌, ◌-◌, suc, arith}
use Rattle.lt_tables.specs.Views.{types_at, program_at}
use Rattle.lt_tables.proofs.StretchCells.{first_left}
use Rattle.lt_tables.proofs.tables.Tables.take_apart.Goals as goal

pub returns-then-stretch-gt1 : goal.returns-then-stretch-gt1
returns-then-stretch-gt1 c =
    let it = c.args.stretch in
    let several : it.count ≡ suc (it.count - 1) = omega (arith, c.if-stretch-gt1.true) in
    first_left (program_at c.args.self.now) (types_at c.args.self.now) c.args.left.now.items c.push.new.self.items c.args.cells.now.items c.open.new.cells.items it c.in_ok-behind_first.field-0 (it.count - 1)
    c.open.new.left.items c.open.result several c.in_ok-behind_first.ensures c.in_ok-push.ensures.items c.open.ensures
