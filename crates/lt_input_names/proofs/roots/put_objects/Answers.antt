use Rattle.std.proofs.Common.{cond, Some, None}
use Rattle.lt_tree.specs.Typing.EntityView.{object_of}
use Rattle.lt_tree.specs.Typing.Entities.{is_linked}
use Rattle.lt_entry.specs.Naming.{object_root}
use Rattle.lt_input_names.proofs.RootLaws.{puts_none, puts_more}
use Rattle.lt_input_names.proofs.roots.put_objects.Goals as goal

pub loop-object-init : goal.loop-object-init
loop-object-init c = λ types. puts_none types c.args.roots.now

pub loop-object-preserved : goal.loop-object-preserved
loop-object-preserved c = λ types.
    puts_more types (λ o. cond (is_linked (object_of types o).life) (Some (object_root (object_of types o))) None) c.args.objects.now c.loop-object.object-index c.object-item.result c.args.roots.now c.loop-object.roots c.put_linked.new.roots c.loop-object-test.true c.object-item.is (c.loop-object.invariant types) (c.in_ok-put_linked.ensures types)
