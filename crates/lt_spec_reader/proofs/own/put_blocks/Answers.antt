use Rattle.std.specs.Str.{bytes_eq}
use Rattle.lt_input_names.specs.declared.block.Block.{Block}
use Rattle.lt_input_names.specs.Stubs.{has_name}
use Rattle.lt_spec_reader.proofs.Loops.{any_more}
use Rattle.lt_spec_reader.proofs.MapLaws.{name_more}
use Rattle.lt_spec_reader.proofs.own.put_blocks.Goals as goal

pub loop-it-preserved : goal.loop-it-preserved
loop-it-preserved c = λ name.
    any_more (λ (it : Block). bytes_eq it.name name) c.args.blocks.now c.loop-it.it-index c.it-item.result (has_name c.loop-it.own name) _ (has_name c.args.own.now name) c.loop-it-test.true c.it-item.is (c.loop-it.invariant name)
    (name_more c.loop-it.own c.insert.new.self c.as_slice.result c.it-item.result.name c.as_slice.ensures c.in_ok-insert.ensures.updates.0 name)
