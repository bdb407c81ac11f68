use Rattle.std.proofs.Common.{false, refl}
use Rattle.lt_tree.specs.Typing.EntityView.{object_of}
use Rattle.lt_entry.specs.Naming.{object_root}
use Rattle.lt_input_names.specs.Roots.{row_part}
use Rattle.lt_input_names.proofs.RootLaws.{puts_named}
use Rattle.lt_input_names.proofs.roots.put_object.Goals as goal

pub returns : goal.returns
returns c = λ types.
    puts_named types c.args.roots.now c.put_first.new.map c.root_of_object.result (record { ty = row_part c.args.object.now.ty; is_block = false }) (object_root (object_of types c.args.object.now)) c.as_slice.result.now c.as_slice.ensures
    c.root_of_object.ensures refl c.in_ok-put_first.ensures
