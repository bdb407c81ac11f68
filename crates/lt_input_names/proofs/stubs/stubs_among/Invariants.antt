use Rattle.std.proofs.Common.{◌≡◌, map, take}
use Rattle.std.specs.List.{filter_map}
use Rattle.lt_tree.specs.Typing.EntityView.{declared_of}
use Rattle.lt_tree.specs.Typing.ProgramView.{program_of}
use Rattle.lt_entry.specs.Conditions.{stub_of}
use Rattle.lt_input_names.specs.Blocks.{program_types}
use Rattle.lt_input_names.specs.Stubs.{stub_view}
use Rattle.lt_input_names.proofs.stubs.stubs_among.Given as goal

abbrev pub invariant-loop-it : goal.invariant-loop-it
invariant-loop-it l = map stub_view l.stubs.items ≡ filter_map (λ it. stub_of (program_of l.kinds.program.now) (declared_of (program_types l.kinds.program.now) it)) (take l.it-index l.declared)
