use Rattle.std.proofs.Common.{[], get_or, refl}
use Rattle.std.specs.Str.{bytes_eq}
use Rattle.lt_input_names.specs.declared.block.Base.TheVariants as base
use Rattle.lt_input_names.specs.declared.block.LineBlock.{LineBlock}
use Rattle.lt_input_names.specs.Stubs.{has_name}
use Rattle.lt_spec_reader.proofs.Loops.{any_more, item_is}
use Rattle.lt_spec_reader.proofs.MapLaws.{name_more}
use Rattle.lt_spec_reader.proofs.own.put_line_blocks.Goals as goal

pub loop-it-preserved : goal.loop-it-preserved
loop-it-preserved c = λ name.
    let blocks = c.args.blocks.now in
    let other : LineBlock = record { name = record { ref_ptr = (0, 0); now = [] }; element = record { base = base.Row (record { place = 0 }); pointers = 0 }; count = 0 } in
    let it : LineBlock = get_or blocks c.loop-it.it-index other in
    any_more (λ (it : LineBlock). bytes_eq it.name.now name) blocks c.loop-it.it-index it (has_name c.loop-it.own name) _ (has_name c.args.own.now name) c.loop-it-test.true (item_is blocks c.loop-it.it-index other c.loop-it-test.true) (c.loop-it.invariant name)
    (name_more c.loop-it.own c.insert.new.self it.name it.name.now refl c.in_ok-insert.ensures.updates.0 name)
