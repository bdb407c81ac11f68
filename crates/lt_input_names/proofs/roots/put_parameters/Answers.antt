use Rattle.std.proofs.Common.{slice_get, get_or}
use Rattle.std.specs.Prelude.{option_map}
use Rattle.lt_tree.specs.Typing.EntityView.{object_of}
use Rattle.lt_entry.specs.Naming.{object_root}
use Rattle.lt_input_names.proofs.Lists.{item_is}
use Rattle.lt_input_names.proofs.RootLaws.{puts_none, puts_more}
use Rattle.lt_input_names.proofs.roots.put_parameters.Goals as goal

pub loop-number-init : goal.loop-number-init
loop-number-init c = λ types. puts_none types c.args.roots.now

pub loop-number-preserved : goal.loop-number-preserved
loop-number-preserved c = λ types.
    let numbers = c.args.numbers.now in
    puts_more types (λ n. option_map (λ o. object_root (object_of types o)) (slice_get c.args.program.now.objects.items n)) numbers c.loop-number.number-index (get_or numbers c.loop-number.number-index 0) c.args.roots.now c.loop-number.roots
    c.put_numbered.new.roots c.loop-number-test.true (item_is numbers c.loop-number.number-index 0 c.loop-number-test.true) (c.loop-number.invariant types) (c.in_ok-put_numbered.ensures types)
