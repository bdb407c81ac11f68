use Rattle.std.proofs.Common.{sym, ◌∙◌}
use Rattle.lt_input_blocks.specs.Tokens.{texts}
use Rattle.lt_input_blocks.specs.Names.{types_at}
use Rattle.lt_input_blocks.proofs.NameLaws.{typedef_named_law}
use Rattle.lt_input_blocks.proofs.names.FileNames.typedef.Goals as goal

pub returns : goal.returns
returns c =
    typedef_named_law (types_at c.args.self.now) c.args.name.now c.args.self.now.program.now.file.names.items (texts c.args.others.now) c.entity.result c.typedef_base.result c.typedef_base.ensures c.entity.ensures
    (sym c.are_qualifiers.ensures ∙ c.if-not-are_qualifiers.false)
