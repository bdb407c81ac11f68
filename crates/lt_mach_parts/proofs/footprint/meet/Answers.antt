use Rattle.std.proofs.Common.{◌≡◌, ◌∙◌, sym, true, false, drop}
use Rattle.std.specs.List.{list_any}
use Rattle.lt_model.specs.State.{same_cell}
use Rattle.lt_mach_parts.specs.Cells.{name_of}
use Rattle.lt_mach_parts.proofs.Meeting.{meets_names, any_at, any_past}
use Rattle.lt_mach_parts.proofs.footprint.meet.Goals as goal

pub returns-then-has : goal.returns-then-has
returns-then-has c =
    let t : list_any (λ cell. list_any (λ other. same_cell (name_of cell) (name_of other)) c.args.others.now) (drop c.loop-cell.cell-index c.args.cells.now) ≡ true = any_at (λ cell. list_any (λ other. same_cell (name_of cell) (name_of other)) c.args.others.now) c.args.cells.now c.loop-cell.cell-index _ c.loop-cell-test.true (sym c.has.ensures ∙ c.if-has.true) in
    sym t ∙ sym c.loop-cell.invariant ∙ meets_names c.args.cells.now c.args.others.now

pub returns : goal.returns
returns c =
    let t : list_any (λ cell. list_any (λ other. same_cell (name_of cell) (name_of other)) c.args.others.now) (drop c.loop-cell.cell-index c.args.cells.now) ≡ false = any_past _ c.args.cells.now c.loop-cell.cell-index c.loop-cell-test.false in
    sym t ∙ sym c.loop-cell.invariant ∙ meets_names c.args.cells.now c.args.others.now
