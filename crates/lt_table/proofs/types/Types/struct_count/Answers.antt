use Rattle.std.proofs.Common.{[], sym, ◌∙◌}
use Rattle.std.proofs.lemmas.List.{length-map}
use Rattle.lt_tree.specs.Typing.EntityView.{struct_of}
use Rattle.lt_table.proofs.types.Types.struct_count.Goals as goal

pub returns : goal.returns
returns c = rw (sym c.self.view_is) (c.len.ensures [] ∙ length-map c.self.inside.structs.structs.items (struct_of []))
