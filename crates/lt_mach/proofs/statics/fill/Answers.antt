use Rattle.std.proofs.Common.{◌≡◌, ◌+◌, ◌∙◌, Ok, Err, None, get_or, drop, sym, rules}
use Rattle.std.specs.Prelude.{slice_get}
use Rattle.lt_model.specs.declared.cell.ShapeCell.{ShapeCell}
use Rattle.lt_model.specs.declared.cell.CellType.TheVariants.{Num}
use Rattle.lt_model.specs.declared.scalar.Scalar.TheVariants.{Bool}
use Rattle.lt_acts.specs.Acts.{on}
use Rattle.lt_ir.specs.Starting.{fill, put}
use Rattle.lt_mach.proofs.Passing.{first_gives, came}
use Rattle.lt_mach.proofs.Filling.{put_so, fill_cell, fill_none, first_over}
use Rattle.lt_mach.proofs.statics.fill.Goals as goal

abbrev none : ShapeCell
none = record { offset = 0; ty = Num Bool }

pub returns-in_default-clause-fills : goal.returns-in_default-clause-fills
returns-in_default-clause-fills c = λ at.
    let e : slice_get c.args.contents.now c.loop-k.k ≡ None = search rules in
    c.loop-k.invariant.leads at ∙ fill_none c.args.memory.now.model c.args.block (drop c.loop-k.k c.args.cells.now) c.args.contents.now c.loop-k.k (on c.loop-k.memory.blocks at) e

pub returns-in_err-put-clause-fills : goal.returns-in_err-put-clause-fills
returns-in_err-put-clause-fills c = λ at.
    let m = c.args.memory.now.model in
    let cell = get_or c.args.cells.now c.loop-k.k none in
    let e : c.from_residual.result ≡ Err c.in_err-put.field-0.0 = search rules in
    let h = put_so _ _ c.args.block cell.offset cell.ty c.in-Some.content c.loop-k.memory.blocks c.put.new.memory.blocks (Err c.in_err-put.field-0.0) c.loop-k.invariant.model c.in_err-put.ensures.puts in
    rw e
    (came (Err c.in_err-put.field-0.0) (on c.put.new.memory.blocks at) _ _
    (c.loop-k.invariant.leads at ∙ fill_cell m c.args.block c.args.cells.now c.args.contents.now c.loop-k.k none c.in-Some.content (on c.loop-k.memory.blocks at) c.loop-k-test.true (sym c.in-Some.ensures))
    (first_over (put m c.args.block cell.offset cell.ty c.in-Some.content) (fill m c.args.block (drop (c.loop-k.k + 1) c.args.cells.now) (drop (c.loop-k.k + 1) c.args.contents.now)) (on c.loop-k.memory.blocks at) (on c.put.new.memory.blocks at) c.in_err-put.field-0.0 (h at)))

pub loop-k-preserved : goal.loop-k-preserved
loop-k-preserved c = record {
  leads = λ at.
      let m = c.args.memory.now.model in
      let cell = get_or c.args.cells.now c.loop-k.k none in
      let h = put_so _ _ c.args.block cell.offset cell.ty c.in-Some.content c.loop-k.memory.blocks c.put.new.memory.blocks (Ok tt) c.loop-k.invariant.model c.in_ok-put.ensures.puts in
      c.loop-k.invariant.leads at
      ∙ fill_cell m c.args.block c.args.cells.now c.args.contents.now c.loop-k.k none c.in-Some.content (on c.loop-k.memory.blocks at) c.loop-k-test.true (sym c.in-Some.ensures)
      ∙ first_gives (put m c.args.block cell.offset cell.ty c.in-Some.content) (λ _. fill m c.args.block (drop (c.loop-k.k + 1) c.args.cells.now) (drop (c.loop-k.k + 1) c.args.contents.now)) (on c.loop-k.memory.blocks at) (on c.put.new.memory.blocks at) tt (h at);
  model = c.put.ensures.model ∙ c.loop-k.invariant.model;
}
