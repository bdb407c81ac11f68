use Rattle.std.proofs.Common.{◌∙◌}
use Rattle.lt_copies.specs.Blocks.{tags_of}
use Rattle.lt_copies.proofs.Rows.{cast_known, sizeof_known}
use Rattle.lt_copies.proofs.blocks.Blocks.names_known.Goals as goal

pub returns-in-Cast : goal.returns-in-Cast
returns-in-Cast c = c.is_known.ensures ∙ cast_known (tags_of c.args.self.now.frames) c.args.e.now c.in-Cast.name c.in-Cast.field-1 _ c.in-Cast.is c.deref.ensures

pub returns-in-SizeofType : goal.returns-in-SizeofType
returns-in-SizeofType c = c.is_known-in-SizeofType.ensures ∙ sizeof_known (tags_of c.args.self.now.frames) c.args.e.now c.in-SizeofType.name _ c.in-SizeofType.is c.deref-in-SizeofType.ensures
