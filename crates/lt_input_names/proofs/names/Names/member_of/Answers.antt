use Rattle.std.proofs.Common.{slice_get, ap, ◌∙◌}
use Rattle.std.specs.Prelude.{option_map}
use Rattle.lt_tree.specs.Typing.Extents.{extent_of, members_in}
use Rattle.lt_tables.specs.Layouts.{members_among}
use Rattle.lt_input_names.specs.Parts.{pair_at}
use Rattle.lt_input_names.specs.Views.{program_at, types_at}
use Rattle.lt_input_names.proofs.MemberLaws.{none_named, one_named}
use Rattle.lt_input_names.proofs.names.Names.member_of.Goals as goal

pub returns-in-None : goal.returns-in-None
returns-in-None c =
    let names = c.args.self.now in
    let program = program_at names in
    none_named (extent_of program.model program.structs) (types_at names) c.args.name.now c.members_of-all.result.now (members_in program.structs c.args.number) (members_among names.layouts.members.items c.args.number) (c.members_of-all.ensures (types_at names))
    (c.requires.layouts.members c.args.number) c.in-None.ensures

pub returns-in-Some : goal.returns-in-Some
returns-in-Some c =
    let names = c.args.self.now in
    let program = program_at names in
    ap (option_map (pair_at (types_at names))) (c.placed_at.ensures ∙ ap (λ l. slice_get l c.in-Some.place) c.members.ensures)
    ∙ one_named (extent_of program.model program.structs) (types_at names) c.args.name.now c.members_of-all.result.now (members_in program.structs c.args.number) (members_among names.layouts.members.items c.args.number) (c.members_of-all.ensures (types_at names))
    (c.requires.layouts.members c.args.number) c.in-Some.place c.in-Some.ensures
