use Rattle.std.proofs.Common.{sym, ap, ◌∙◌}
use Rattle.std.specs.List.{filter_map}
use Rattle.lt_tree.specs.Typing.EntityView.{declared_of}
use Rattle.lt_tree.specs.Typing.ProgramView.{program_of}
use Rattle.lt_entry.specs.Conditions.{stub_of}
use Rattle.lt_input_names.specs.Blocks.{program_types}
use Rattle.lt_input_names.proofs.Lists.{ok_map, filter_map-map}
use Rattle.lt_input_names.proofs.stubs.stubs_of.Goals as goal

pub returns : goal.returns
returns c =
    let program = c.args.kinds.now.program.now in
    ok_map _ _ c.stubs_among.result
    (λ stubs h.
    h ∙ ap (filter_map (λ it. stub_of (program_of program) (declared_of (program_types program) it))) c.deref-2.ensures.value
    ∙ sym (filter_map-map (stub_of (program_of program)) (declared_of (program_types program)) program.declared.items))
    c.stubs_among.ensures
