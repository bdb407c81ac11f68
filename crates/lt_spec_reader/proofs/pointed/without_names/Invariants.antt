use Rattle.std.proofs.Common.{◌≡◌, take}
use Rattle.std.specs.Prelude.{not}
use Rattle.std.specs.List.{filter}
use Rattle.lt_input_names.specs.Stubs.{has_name}
use Rattle.lt_spec_reader.proofs.pointed.without_names.Given as goal

abbrev pub invariant-loop-object : goal.invariant-loop-object
invariant-loop-object l = l.others.items ≡ filter (λ object. not (has_name l.names object.now.name)) (take l.object-index l.objects)
