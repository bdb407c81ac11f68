use Rattle.std.proofs.Common.{ap, sym, ◌∙◌}
use Rattle.std.proofs.lemmas.List.{length-map}
use Rattle.lt_model.specs.TypeView.{type_of, struct_of, structs_of}
use Rattle.lt_model.specs.Layout.{type_extent, struct_extent}
use Rattle.lt_model.proofs.sizes.extent_of.Goals as goal

pub returns : goal.returns
returns c =
    c.type_extent.ensures
    ∙ ap (λ depth. type_extent c.args.model (struct_extent c.args.model (structs_of c.args.structs.now) depth) (type_of c.args.t.now)) (sym (length-map c.args.structs.now struct_of))
