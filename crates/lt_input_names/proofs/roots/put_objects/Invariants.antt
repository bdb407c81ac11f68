use Rattle.std.proofs.Common.{List, take, cond, Some, None}
use Rattle.std.specs.List.{filter_map}
use Rattle.lt_tree.specs.Typing.Types.{CType}
use Rattle.lt_tree.specs.Typing.EntityView.{object_of}
use Rattle.lt_tree.specs.Typing.Entities.{is_linked}
use Rattle.lt_entry.specs.Naming.{object_root}
use Rattle.lt_input_names.specs.Roots.{Puts}
use Rattle.lt_input_names.proofs.roots.put_objects.Given as goal

abbrev pub invariant-loop-object : goal.invariant-loop-object
invariant-loop-object l = (types : List CType) → Puts types l.fn.roots l.roots (filter_map (λ o. cond (is_linked (object_of types o).life) (Some (object_root (object_of types o))) None) (take l.object-index l.objects))
