use Rattle.std.proofs.Common.{List, take, slice_get}
use Rattle.std.specs.Prelude.{option_map}
use Rattle.std.specs.List.{filter_map}
use Rattle.lt_tree.specs.Typing.Types.{CType}
use Rattle.lt_tree.specs.Typing.EntityView.{object_of}
use Rattle.lt_entry.specs.Naming.{object_root}
use Rattle.lt_input_names.specs.Roots.{Puts}
use Rattle.lt_input_names.proofs.roots.put_parameters.Given as goal

abbrev pub invariant-loop-number : goal.invariant-loop-number
invariant-loop-number l = (types : List CType) → Puts types l.fn.roots l.roots (filter_map (λ n. option_map (λ o. object_root (object_of types o)) (slice_get l.program.objects.items n)) (take l.number-index l.numbers))
