use Rattle.std.proofs.Common.{◌≡◌, true, map, take}
use Rattle.std.specs.List.{list_all}
use Rattle.lt_tree.specs.Typing.Types.{is_integer}
use Rattle.lt_input_names.specs.Views.{named_at}
use Rattle.lt_spec_reader.proofs.requirements.are_integers.Given as goal

abbrev pub invariant-loop-part : goal.invariant-loop-part
invariant-loop-part l = list_all (λ it. is_integer it.type) (map (named_at l.names) (take l.part-index l.parts)) ≡ true
