use Rattle.std.proofs.Common.{◌≡◌, rules, ap, ◌∙◌}
use Rattle.lt_tree.specs.Tree as t
use Rattle.lt_tree.specs.declared.specifier.Member.{the_lemmas, roll-Member}
use Rattle.lt_tree.specs.declared.declarator.DeclaratorPart.TheBlock as block
use Rattle.lt_tree.specs.View.{words_of, member_of, types_of, member_declarators_of}
use Rattle.lt_expr.proofs.Rows.{member_is}
use Rattle.lt_expr.proofs.pieces.member.Goals as goal

pub returns : goal.returns
returns c =
    let words = words_of c.args.specifiers.storage c.args.specifiers.inline c.args.specifiers.noreturn c.args.specifiers.quals in
    let e : member_of (roll-Member (record { specifiers = c.args.specifiers; declarators = c.args.declarators }))
    ≡ t.member (t.specifiers words (types_of (block.hidden-the_row-TypeSpecifier-0 c.args.specifiers.types))) (member_declarators_of (block.hidden-the_row-MemberDeclarator-8 c.args.declarators)) = search (rules, the_lemmas) in
    e ∙ member_is words c.args.specifiers.types c.args.declarators
