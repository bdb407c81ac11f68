use Rattle.std.proofs.Common.{◌≡◌, [], map, sym, ap, ◌∙◌}
use Rattle.lt_tree.specs.Typing.ProgramView.{program_of}
use Rattle.lt_entry.specs.Meaning.{stub_range}
use Rattle.lt_input_names.specs.Stubs.{stub_view}
use Rattle.lt_input_wants.specs.Stubs.{whole_range}
use Rattle.lt_input_specs.proofs.Lists.{ok_map, map-map}
use Rattle.lt_input_specs.proofs.default.ranges_of.Goals as goal

pub returns : goal.returns
returns c =
    let program = program_of c.args.kinds.now.program.now in
    ok_map _ _ c.ranges_among.result
    (λ ranges h.
    h ∙ ap (map (λ stub. whole_range program.model (stub_view stub))) c.deref.ensures.value
    ∙ sym (map-map (stub_range program []) stub_view c.in_ok-stubs.stubs.items) ∙ ap (map (stub_range program [])) c.in_ok-stubs.ensures)
    c.ranges_among.ensures
