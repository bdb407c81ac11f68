-- Structs that lie in a tree, by their fields.
use Rattle.std.proofs.Common.{◌≡◌, sym, ap, ◌∙◌}
use Rattle.lt_tree.specs.declared.mark.Mark.{Mark, out-Mark}
use Rattle.lt_tree.specs.declared.specifier.Member.{Member, out-Member}
use Rattle.lt_tree.specs.declared.declarator.DeclaratorPart.TheBlock as at
use Rattle.lt_tree.specs.declared.mark.Mark as marks
use Rattle.lt_tree.specs.declared.specifier.Member as members
use Rattle.lt_tree.specs.Tree as t
use Rattle.lt_tree.specs.View.{words_of, expression_of, mark_of, member_of, member_declarators_of}
use Rattle.lt_tree.specs.Records.{bindings_in, types_in, specifiers_of, member_declarators_in}
use Rattle.lt_tree.proofs.Rows.{bindings_row, member_declarators_row, types_shown}

pub mark_held : (m : Mark) → mark_of m ≡ t.mark (expression_of (out-Mark m).predicate) (out-Mark m).id (out-Mark m).tag (bindings_in (out-Mark m).bound.items)
unfolding out-Mark denote.Hole.Carrier.out
mark_held (at.struct-Mark predicate id tag shape bound) =
    ap (t.mark (expression_of predicate) id tag) (bindings_row bound ∙ sym (ap bindings_in (marks.items_shown-the_row-Binding-7 shape bound)))

pub member_held : (m : Member) → member_of m ≡ t.member (specifiers_of (out-Member m).specifiers) (member_declarators_in (out-Member m).declarators.items)
unfolding out-Member denote.Hole.Carrier.out
member_held (at.struct-Member storage inline noreturn quals shape types shape' declarators) =
    ap (λ (x : t.TypeSpecifiers). t.member (t.specifiers (words_of storage inline noreturn quals) x) (member_declarators_of declarators)) (types_shown shape types)
    ∙ ap (λ (x : t.MemberDeclarators). t.member (t.specifiers (words_of storage inline noreturn quals) (types_in (at.shown-the_row-TypeSpecifier-0 shape types).items)) x)
    (member_declarators_row declarators ∙ sym (ap member_declarators_in (members.items_shown-the_row-MemberDeclarator-8 shape' declarators)))
