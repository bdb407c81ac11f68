-- What expressions hold in rows, as lists.
use Rattle.std.proofs.Common.{◌≡◌, refl, sym, ap, ◌∙◌, ℕ, List, Option}
use Rattle.std.specs.Global.{Box, Vec}
use Rattle.lt_tree.specs.declared.expression.Expr.{Expr}
use Rattle.lt_tree.specs.declared.mark.Mark.{Mark}
use Rattle.lt_tree.specs.declared.mark.Binding.{Binding}
use Rattle.lt_tree.specs.declared.specifier.TypeSpecifier.{TypeSpecifier}
use Rattle.lt_tree.specs.declared.specifier.Specifiers.{Specifiers}
use Rattle.lt_tree.specs.declared.specifier.Member.{Member}
use Rattle.lt_tree.specs.declared.specifier.MemberDeclarator.{MemberDeclarator}
use Rattle.lt_tree.specs.declared.specifier.Enumerator.{Enumerator}
use Rattle.lt_tree.specs.declared.declarator.DeclaratorPart.{DeclaratorPart}
use Rattle.lt_tree.specs.declared.declarator.Parameter.{Parameter}
use Rattle.lt_tree.specs.declared.specifier.TypeName.{TypeName}
use Rattle.lt_tree.specs.declared.expression.Expr.TheVariants as variant
use Rattle.lt_tree.specs.declared.specifier.TypeSpecifier.TheVariants as kind
use Rattle.lt_tree.specs.declared.declarator.DeclaratorPart.TheViews as views
use Rattle.lt_tree.specs.declared.declarator.Parameters.TheVariants as listing
use Rattle.lt_tree.specs.declared.declarator.DeclaratorPart.TheBlock as at
use Rattle.lt_tree.specs.declared.expression.Expr as expr
use Rattle.lt_tree.specs.declared.mark.Mark as marks
use Rattle.lt_tree.specs.declared.specifier.Specifiers as specs
use Rattle.lt_tree.specs.declared.specifier.TypeSpecifier as spec
use Rattle.lt_tree.specs.declared.specifier.Member as mem
use Rattle.lt_tree.specs.declared.declarator.Declarator as decl
use Rattle.lt_tree.specs.declared.declarator.Parameters as params
use Rattle.lt_tree.specs.Tree as t
use Rattle.lt_tree.specs.View.{words_of, expression_of, expressions_of, mark_of, marks_of, bindings_of, type_of, types_of, member_of, members_of, member_declarators_of, enumerators_of, part_before, parts_of, parameters_of, parameter_list_of}
use Rattle.lt_tree.specs.Records.{expressions_in, marks_in, bindings_in, types_in, parts_in, specifiers_of, declarator_of, parameter_list_in, members_in, member_declarators_in, enumerators_in}

expressions_row : {n : _} → (row : at.Row_of-Expr n) → expressions_of row ≡ expressions_in (at.items-the_row-Expr n row)
expressions_row at.end_of-Expr = refl
expressions_row (at.more_of-Expr first rest) = ap (t.an_expression (expression_of first)) (expressions_row rest)

pub expressions_are : (v : Vec Expr) → expressions_of (at.hidden-the_row-Expr-3 v) ≡ expressions_in v.items
expressions_are v = expressions_row (at.hidden-the_row-Expr-3 v) ∙ ap expressions_in (expr.items_hidden-the_row-Expr-3 v)

marks_row : {n : _} → (row : at.Row_of-Mark n) → marks_of row ≡ marks_in (at.items-the_row-Mark n row)
marks_row at.end_of-Mark = refl
marks_row (at.more_of-Mark first rest) = ap (t.a_mark (mark_of first)) (marks_row rest)

pub marks_are : (v : Vec Mark) → marks_of (at.hidden-the_row-Mark-4 v) ≡ marks_in v.items
marks_are v = marks_row (at.hidden-the_row-Mark-4 v) ∙ ap marks_in (expr.items_hidden-the_row-Mark-4 v)

pub bindings_row : {n : _} → (row : at.Row_of-Binding n) → bindings_of row ≡ bindings_in (at.items-the_row-Binding n row)
bindings_row at.end_of-Binding = refl
bindings_row (at.more_of-Binding name value rest) = ap (t.a_binding name (expression_of value)) (bindings_row rest)

pub bindings_are : (v : Vec Binding) → bindings_of (at.hidden-the_row-Binding-7 v) ≡ bindings_in v.items
bindings_are v = bindings_row (at.hidden-the_row-Binding-7 v) ∙ ap bindings_in (marks.items_hidden-the_row-Binding-7 v)

types_row : {n : _} → (row : at.Row_of-TypeSpecifier n) → types_of row ≡ types_in (at.items-the_row-TypeSpecifier n row)
types_row at.end_of-TypeSpecifier = refl
types_row (at.more_of-TypeSpecifier first rest) = ap (t.a_type (type_of first)) (types_row rest)

pub types_are : (v : Vec TypeSpecifier) → types_of (at.hidden-the_row-TypeSpecifier-0 v) ≡ types_in v.items
types_are v = types_row (at.hidden-the_row-TypeSpecifier-0 v) ∙ ap types_in (specs.items_hidden-the_row-TypeSpecifier-0 v)

parts_row : {n : _} → (row : at.Row_of-DeclaratorPart n) → parts_of row ≡ parts_in (at.items-the_row-DeclaratorPart n row)
parts_row at.end_of-DeclaratorPart = refl
parts_row (at.more_of-DeclaratorPart first rest) = ap (part_before first) (parts_row rest)

pub parts_are : (v : Vec DeclaratorPart) → parts_of (at.hidden-the_row-DeclaratorPart-1 v) ≡ parts_in v.items
parts_are v = parts_row (at.hidden-the_row-DeclaratorPart-1 v) ∙ ap parts_in (decl.items_hidden-the_row-DeclaratorPart-1 v)

members_row : {n : _} → (row : at.Row_of-Member n) → members_of row ≡ members_in (at.items-the_row-Member n row)
members_row at.end_of-Member = refl
members_row (at.more_of-Member first rest) = ap (t.a_member (member_of first)) (members_row rest)

pub members_are : (v : Vec Member) → members_of (at.hidden-the_row-Member-5 v) ≡ members_in v.items
members_are v = members_row (at.hidden-the_row-Member-5 v) ∙ ap members_in (spec.items_hidden-the_row-Member-5 v)

enumerators_row : {n : _} → (row : at.Row_of-Enumerator n) → enumerators_of row ≡ enumerators_in (at.items-the_row-Enumerator n row)
enumerators_row at.end_of-Enumerator = refl
enumerators_row (at.more_of-Enumerator name at.None' rest) = ap (t.an_enumerator name t.absent) (enumerators_row rest)
enumerators_row (at.more_of-Enumerator name (at.Some' p e) rest) = ap (t.an_enumerator name (t.present (expression_of e))) (enumerators_row rest)

pub enumerators_are : (v : Vec Enumerator) → enumerators_of (at.hidden-the_row-Enumerator-6 v) ≡ enumerators_in v.items
enumerators_are v = enumerators_row (at.hidden-the_row-Enumerator-6 v) ∙ ap enumerators_in (spec.items_hidden-the_row-Enumerator-6 v)

-- the types that a value shows
pub types_shown : (shape : _) (row : at.Row_of-TypeSpecifier _) → types_of row ≡ types_in (at.shown-the_row-TypeSpecifier-0 shape row).items
types_shown shape row = types_row row ∙ sym (ap types_in (specs.items_shown-the_row-TypeSpecifier-0 shape row))

parts_shown : (shape : _) (row : at.Row_of-DeclaratorPart _) → parts_of row ≡ parts_in (at.shown-the_row-DeclaratorPart-1 shape row).items
parts_shown shape row = parts_row row ∙ sym (ap parts_in (decl.items_shown-the_row-DeclaratorPart-1 shape row))

parameters_row : {n : _} → (row : at.Row_of-Parameter n) → parameter_list_of row ≡ parameter_list_in (at.items-the_row-Parameter n row)
parameters_row at.end_of-Parameter = refl
parameters_row (at.more_of-Parameter storage inline noreturn quals shape types name shape' parts rest) =
    cc (types_shown shape types, parts_shown shape' parts, parameters_row rest)

pub parameters_are : (v : Vec Parameter) → parameter_list_of (at.hidden-the_row-Parameter-2 v) ≡ parameter_list_in v.items
parameters_are v = parameters_row (at.hidden-the_row-Parameter-2 v) ∙ ap parameter_list_in (params.items_hidden-the_row-Parameter-2 v)

pub member_declarators_row : {n : _} → (row : at.Row_of-MemberDeclarator n) → member_declarators_of row ≡ member_declarators_in (at.items-the_row-MemberDeclarator n row)
member_declarators_row at.end_of-MemberDeclarator = refl
member_declarators_row (at.more_of-MemberDeclarator name shape parts at.None' rest) = cc (parts_shown shape parts, member_declarators_row rest)
member_declarators_row (at.more_of-MemberDeclarator name shape parts (at.Some' p e) rest) = cc (parts_shown shape parts, member_declarators_row rest)

pub member_declarators_are : (v : Vec MemberDeclarator) → member_declarators_of (at.hidden-the_row-MemberDeclarator-8 v) ≡ member_declarators_in v.items
member_declarators_are v = member_declarators_row (at.hidden-the_row-MemberDeclarator-8 v) ∙ ap member_declarators_in (mem.items_hidden-the_row-MemberDeclarator-8 v)

-- the size of a type, and of the same in a box
pub sizeof_is : (b : Box TypeName) (name : TypeName) → b.value ≡ name →
    expression_of (variant.SizeofType b) ≡ t.SizeofType (specifiers_of name.specifiers) (declarator_of name.declarator)
sizeof_is b name e = cc (types_are b.value.specifiers.types, parts_are b.value.declarator.parts)

pub cast_is : (b : Box TypeName) (name : TypeName) (d : Box Expr) (operand : Expr) → b.value ≡ name → d.value ≡ operand →
    expression_of (variant.Cast b d) ≡ t.Cast (specifiers_of name.specifiers) (declarator_of name.declarator) (expression_of operand)
cast_is b name d operand e f = cc (types_are b.value.specifiers.types, parts_are b.value.declarator.parts)

-- a declaration among members, of its parts
pub member_is : (s : Specifiers) (v : Vec MemberDeclarator) →
    t.member (t.specifiers (words_of s.storage s.inline s.noreturn s.quals) (types_of (at.hidden-the_row-TypeSpecifier-0 s.types))) (member_declarators_of (at.hidden-the_row-MemberDeclarator-8 v))
    ≡ t.member (specifiers_of s) (member_declarators_in v.items)
member_is s v = cc (types_are s.types, member_declarators_are v)

-- a call, with its arguments in a list
pub call_is : (b : Box Expr) (v : Vec Expr) → expression_of (variant.Call b v) ≡ t.Call (expression_of b.value) (expressions_in v.items)
call_is b v = ap (t.Call (expression_of b.value)) (expressions_are v)

pub comma_is : (v : Vec Expr) → expression_of (variant.Comma v) ≡ t.Comma (expressions_in v.items)
comma_is v = ap t.Comma (expressions_are v)

pub listed_is : (v : Vec Parameter) → parameters_of (listing.Listed v) ≡ t.Listed (parameter_list_in v.items)
listed_is v = ap t.Listed (parameters_are v)

pub open_is : (v : Vec Parameter) → parameters_of (listing.Open v) ≡ t.Open (parameter_list_in v.items)
open_is v = ap t.Open (parameters_are v)

pub marked_is : (v : Vec Mark) (b : Box Expr) → expression_of (variant.Marked v b) ≡ t.Marked (marks_in v.items) (expression_of b.value)
marked_is v b = ap (λ m. t.Marked m (expression_of b.value)) (marks_are v)

-- a mark and a declaration among members, of the fields that they show
pub mark_out : (m : Mark) → mark_of m ≡ t.mark (expression_of (views.out-Mark m).predicate) (views.out-Mark m).id (views.out-Mark m).tag (bindings_in (views.out-Mark m).bound.items)
mark_out m =
    ap mark_of (sym (views.roll-out-Mark m)) ∙ ap mark_of (views.rolls-struct-Mark (views.out-Mark m))
    ∙ ap (t.mark (expression_of (views.out-Mark m).predicate) (views.out-Mark m).id (views.out-Mark m).tag) (bindings_are (views.out-Mark m).bound)

pub member_out : (m : Member) → member_of m ≡ t.member (specifiers_of (views.out-Member m).specifiers) (member_declarators_in (views.out-Member m).declarators.items)
member_out m =
    ap member_of (sym (views.roll-out-Member m)) ∙ ap member_of (views.rolls-struct-Member (views.out-Member m))
    ∙ member_is (views.out-Member m).specifiers (views.out-Member m).declarators

pub struct_is : (tag : Option (List ℕ)) (v : Vec Member) → type_of (kind.Struct tag v) ≡ t.Struct tag (members_in v.items)
struct_is tag v = ap (t.Struct tag) (members_are v)

pub enum_is : (tag : Option (List ℕ)) (v : Vec Enumerator) → type_of (kind.Enum tag v) ≡ t.Enum tag (enumerators_in v.items)
enum_is tag v = ap (t.Enum tag) (enumerators_are v)
