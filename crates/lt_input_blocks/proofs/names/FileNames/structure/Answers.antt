use Rattle.std.proofs.Common.{Bor, List, ℕ, sym, ap, ◌∙◌}
use Rattle.lt_entry.specs.TypeNames.{tag_type, struct_named}
use Rattle.lt_input_blocks.specs.Tokens.{texts}
use Rattle.lt_input_blocks.specs.Names.{types_at, file_at}
use Rattle.lt_input_blocks.proofs.NameLaws.{struct_named_law}
use Rattle.lt_input_blocks.proofs.names.FileNames.structure.Goals as goal

pub returns : goal.returns
returns c =
    struct_named_law (types_at c.args.self.now) c.in_ok-tag.tag.now.now c.args.self.now.program.now.file.tags.items (texts c.in_ok-tag.others.now) c.tagged.result c.struct_base.result c.struct_base.ensures c.tagged.ensures
    (sym c.are_qualifiers.ensures ∙ c.if-not-are_qualifiers.false)
    ∙ ap (λ (l : List (Bor (List ℕ))). tag_type (file_at c.args.self.now) struct_named (texts l)) (sym c.in_ok-tag.ensures.cases.0)
