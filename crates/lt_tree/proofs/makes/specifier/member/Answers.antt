use Rattle.std.proofs.Common.{ap, ◌∙◌}
use Rattle.lt_tree.specs.declared.declarator.DeclaratorPart.TheViews as views
use Rattle.lt_tree.specs.View.{member_of}
use Rattle.lt_tree.proofs.Rows.{member_is}
use Rattle.lt_tree.proofs.makes.specifier.member.Goals as goal

pub returns : goal.returns
returns c =
    ap member_of (views.rolls-struct-Member (record { specifiers = c.args.specifiers; declarators = c.args.declarators }))
    ∙ member_is c.args.specifiers c.args.declarators
