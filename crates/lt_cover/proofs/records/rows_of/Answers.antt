use Rattle.std.proofs.Common.{refl, []}
use Rattle.std.proofs.lemmas.Result.{IfOk-weaker}
use Rattle.lt_cover.specs.Coverage.Text.{HasRows}
use Rattle.lt_cover.specs.Coverage.Records.{Completes}
use Rattle.lt_cover.proofs.Rests.{read_more, read_all, rows_are}
use Rattle.lt_cover.specs.declared.records.Records.{Records}
use Rattle.lt_cover.specs.declared.records.Position.TheVariants.{RowStart}
use Rattle.lt_cover.proofs.records.rows_of.Goals as goal

pub loop-byte-preserved : goal.loop-byte-preserved
loop-byte-preserved c all h = c.loop-byte.invariant all (read_more c.loop-byte.records c.take.new.self c.without_mark-byte-items.result.now c.loop-byte.byte-index c.loop-byte-test.true c.in_ok-take.ensures all h)

pub returns : goal.returns
returns c =
    let text = c.without_mark-byte-items.result.now in
    let start : Records = record { alloc = c.args.alloc; rows = c.new.result; fields = c.new-2.result; bytes = c.new-3.result; position = RowStart } in
    IfOk-weaker c.into_rows.result (λ rows. Completes c.loop-byte.records [] rows.items) (λ rows. HasRows c.args.text.now rows.items)
    (λ rows h. rows_are start c.args.text.now text rows.items c.new.ensures.items c.new-2.ensures.items c.new-3.ensures.items refl c.without_mark-byte-items.ensures
    (read_all c.loop-byte.records start text c.loop-byte.byte-index c.loop-byte-test.false c.loop-byte.invariant rows.items h))
    c.into_rows.ensures
