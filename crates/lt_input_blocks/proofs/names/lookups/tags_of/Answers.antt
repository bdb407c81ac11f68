use Rattle.lt_input_names.specs.Found.{found_in}
use Rattle.lt_input_blocks.proofs.NameLaws.{first_more}
use Rattle.lt_input_blocks.proofs.names.lookups.tags_of.Goals as goal

pub loop-it-preserved : goal.loop-it-preserved
loop-it-preserved c = λ name.
    first_more (λ tag. tag.name) (λ tag. tag.tagged) name c.args.tags.now c.loop-it.it-index c.it-item.result c.as_slice.result.now (found_in c.loop-it.them name) (found_in c.put_first.new.map name) c.loop-it-test.true c.it-item.is c.as_slice.ensures
    (c.loop-it.invariant name) (c.in_ok-put_first.ensures name)
