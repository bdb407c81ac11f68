use Rattle.std.proofs.Common.{◌≡◌, ◌++◌, ◌∙◌, length, arith}
use Rattle.lt_tables.specs.Views.{types_at, program_at}
use Rattle.lt_tables.specs.Stretches.{cells_left}
use Rattle.lt_tables.proofs.StretchCells.{nothing_left, stretch_taken}
use Rattle.lt_tables.proofs.tables.Tables.take_all.Goals as goal

pub returns-in_default : goal.returns-in_default
returns-in_default c =
    let left = c.loop-step.left in
    let none : length left.items ≡ 0 = omega (arith, c.in_default.ensures.cases.0, left.ok.0) in
    let whole = c.args.cells.now.items ++ cells_left (program_at c.args.self.now) (types_at c.args.self.now) c.args.stretches.items in
    nothing_left (program_at c.args.self.now) (types_at c.args.self.now) left.items c.loop-step.cells.items whole none c.loop-step.invariant

pub loop-step-preserved : goal.loop-step-preserved
loop-step-preserved c =
    let whole = c.args.cells.now.items ++ cells_left (program_at c.args.self.now) (types_at c.args.self.now) c.args.stretches.items in
    c.in_ok-take_apart.ensures
    ∙ stretch_taken (program_at c.args.self.now) (types_at c.args.self.now) c.pop.new.self.items c.loop-step.left.items c.loop-step.cells.items whole c.in-Some.stretch c.in-Some.ensures.items c.loop-step.invariant
