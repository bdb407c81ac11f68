use Rattle.std.proofs.Common.{map, ap, sym, ◌∙◌}
use Rattle.std.proofs.lemmas.List.{length-map}
use Rattle.lt_model.specs.TypeView.{member_of, struct_of, structs_of}
use Rattle.lt_model.specs.Layout.{type_extent, members_extent, struct_extent, no_members}
use Rattle.lt_model.proofs.sizes.end_of.Goals as goal

pub returns : goal.returns
returns c =
    c.members_extent.ensures
    ∙ ap (λ depth. members_extent (type_extent c.args.model (struct_extent c.args.model (structs_of c.args.structs.now) depth)) no_members (map member_of c.args.members.now)) (sym (length-map c.args.structs.now struct_of))
