-- Lists of parts as they lie in memory, and as vectors hold them.
use Rattle.std.proofs.Common.{◌≡◌, refl, sym, ap, ◌∙◌, ℕ, Bool, List, Option, Some, None}
use Rattle.std.specs.Global.{Vec, Box}
use Rattle.lt_tree.specs.declared.expression.Expr as e
use Rattle.lt_tree.specs.declared.expression.Expr.{Expr}
use Rattle.lt_tree.specs.declared.mark.Mark as mark
use Rattle.lt_tree.specs.declared.specifier.TypeSpecifier as type
use Rattle.lt_tree.specs.declared.specifier.Member as member
use Rattle.lt_tree.specs.declared.declarator.Parameters as parameters
use Rattle.lt_model.specs.declared.ctype.Quals.{Quals}
use Rattle.lt_tree.specs.declared.specifier.Storage.{Storage}
use Rattle.lt_tree.specs.declared.mark.Mark.{Mark}
use Rattle.lt_tree.specs.declared.mark.Binding.{Binding}
use Rattle.lt_tree.specs.declared.specifier.TypeSpecifier.{TypeSpecifier}
use Rattle.lt_tree.specs.declared.specifier.Member.{Member}
use Rattle.lt_tree.specs.declared.specifier.MemberDeclarator.{MemberDeclarator}
use Rattle.lt_tree.specs.declared.specifier.Enumerator.{Enumerator}
use Rattle.lt_tree.specs.declared.declarator.DeclaratorPart.{DeclaratorPart}
use Rattle.lt_tree.specs.declared.declarator.Parameter.{Parameter}
use Rattle.lt_tree.specs.declared.declarator.DeclaratorPart.TheBlock as block
use Rattle.lt_tree.specs.Tree as t
use Rattle.lt_tree.specs.View.{expression_of, expressions_of, mark_of, marks_of, bindings_of, type_of, types_of, member_of, members_of, member_declarators_of, enumerators_of, maybe_of, part_before, parts_of, parameter_list_of, words_of}
use Rattle.lt_tree.specs.Records.{expressions_in, marks_in, bindings_in, types_in, parts_in, parameter_list_in, members_in, member_declarators_in, enumerators_in, maybe_in, specifiers_of, declarator_of}

expression_row : {m : _} (row : block.Row_of-Expr m) → expressions_of row ≡ expressions_in (e.items-the_row-Expr m row)
expression_row block.end_of-Expr = refl
expression_row (block.more_of-Expr first rest) = ap (t.an_expression (expression_of first)) (expression_row rest)

pub expressions_are : (xs : Vec Expr) → expressions_of (block.hidden-the_row-Expr-3 xs) ≡ expressions_in xs.items
expressions_are xs = expression_row (block.hidden-the_row-Expr-3 xs) ∙ ap expressions_in (e.items_hidden-the_row-Expr-3 xs)

mark_row : {m : _} (row : block.Row_of-Mark m) → marks_of row ≡ marks_in (e.items-the_row-Mark m row)
mark_row block.end_of-Mark = refl
mark_row (block.more_of-Mark first rest) = ap (t.a_mark (mark_of first)) (mark_row rest)

pub marks_are : (xs : Vec Mark) → marks_of (block.hidden-the_row-Mark-4 xs) ≡ marks_in xs.items
marks_are xs = mark_row (block.hidden-the_row-Mark-4 xs) ∙ ap marks_in (e.items_hidden-the_row-Mark-4 xs)

type_row : {m : _} (row : block.Row_of-TypeSpecifier m) → types_of row ≡ types_in (e.items-the_row-TypeSpecifier m row)
type_row block.end_of-TypeSpecifier = refl
type_row (block.more_of-TypeSpecifier first rest) = ap (t.a_type (type_of first)) (type_row rest)

pub types_are : (xs : Vec TypeSpecifier) → types_of (block.hidden-the_row-TypeSpecifier-0 xs) ≡ types_in xs.items
types_are xs = type_row (block.hidden-the_row-TypeSpecifier-0 xs) ∙ ap types_in (e.items_hidden-the_row-TypeSpecifier-0 xs)

part_row : {m : _} (row : block.Row_of-DeclaratorPart m) → parts_of row ≡ parts_in (e.items-the_row-DeclaratorPart m row)
part_row block.end_of-DeclaratorPart = refl
part_row (block.more_of-DeclaratorPart first rest) = ap (part_before first) (part_row rest)

pub parts_are : (xs : Vec DeclaratorPart) → parts_of (block.hidden-the_row-DeclaratorPart-1 xs) ≡ parts_in xs.items
parts_are xs = part_row (block.hidden-the_row-DeclaratorPart-1 xs) ∙ ap parts_in (e.items_hidden-the_row-DeclaratorPart-1 xs)

binding_row : {m : _} (row : block.Row_of-Binding m) → bindings_of row ≡ bindings_in (mark.items-the_row-Binding m row)
binding_row block.end_of-Binding = refl
binding_row (block.more_of-Binding name value rest) = ap (t.a_binding name (expression_of value)) (binding_row rest)

pub bindings_are : (xs : Vec Binding) → bindings_of (block.hidden-the_row-Binding-7 xs) ≡ bindings_in xs.items
bindings_are xs = binding_row (block.hidden-the_row-Binding-7 xs) ∙ ap bindings_in (mark.items_hidden-the_row-Binding-7 xs)

member_row : {m : _} (row : block.Row_of-Member m) → members_of row ≡ members_in (type.items-the_row-Member m row)
member_row block.end_of-Member = refl
member_row (block.more_of-Member first rest) = ap (t.a_member (member_of first)) (member_row rest)

pub members_are : (xs : Vec Member) → members_of (block.hidden-the_row-Member-5 xs) ≡ members_in xs.items
members_are xs = member_row (block.hidden-the_row-Member-5 xs) ∙ ap members_in (type.items_hidden-the_row-Member-5 xs)

maybe_is : (x : block.Held-DeclaratorPart-Array-0) → maybe_of x ≡ maybe_in (type.view-DeclaratorPart-Array-0 x)
maybe_is block.None' = refl
maybe_is (block.Some' p e) = refl

enumerator_row : {m : _} (row : block.Row_of-Enumerator m) → enumerators_of row ≡ enumerators_in (type.items-the_row-Enumerator m row)
enumerator_row block.end_of-Enumerator = refl
enumerator_row (block.more_of-Enumerator {n} name value rest) =
    ap (λ v. t.an_enumerator name v (enumerators_of rest)) (maybe_is value)
    ∙ ap (t.an_enumerator name (maybe_in (type.view-DeclaratorPart-Array-0 value))) (enumerator_row rest)

pub enumerators_are : (xs : Vec Enumerator) → enumerators_of (block.hidden-the_row-Enumerator-6 xs) ≡ enumerators_in xs.items
enumerators_are xs = enumerator_row (block.hidden-the_row-Enumerator-6 xs) ∙ ap enumerators_in (type.items_hidden-the_row-Enumerator-6 xs)

part_shown : (shape : _) (row : block.Row_of-DeclaratorPart _) → parts_of row ≡ parts_in (block.shown-the_row-DeclaratorPart-1 shape row).items
part_shown shape row = part_row row ∙ ap parts_in (sym (parameters.items_shown-the_row-DeclaratorPart-1 shape row))

type_shown : (shape : _) (row : block.Row_of-TypeSpecifier _) → types_of row ≡ types_in (block.shown-the_row-TypeSpecifier-0 shape row).items
type_shown shape row = type_row row ∙ ap types_in (sym (parameters.items_shown-the_row-TypeSpecifier-0 shape row))

parameter_row : {m : _} (row : block.Row_of-Parameter m) → parameter_list_of row ≡ parameter_list_in (parameters.items-the_row-Parameter m row)
parameter_row block.end_of-Parameter = refl
parameter_row (block.more_of-Parameter storage inline noreturn quals shape types name shape' parts rest) =
    ap (λ ts. t.a_parameter (t.specifiers (words_of storage inline noreturn quals) ts) (t.declarator name (parts_of parts)) (parameter_list_of rest)) (type_shown shape types)
    ∙ ap (λ ps. t.a_parameter (t.specifiers (words_of storage inline noreturn quals) (types_in (block.shown-the_row-TypeSpecifier-0 shape types).items)) (t.declarator name ps) (parameter_list_of rest)) (part_shown shape' parts)
    ∙ ap (t.a_parameter (t.specifiers (words_of storage inline noreturn quals) (types_in (block.shown-the_row-TypeSpecifier-0 shape types).items)) (t.declarator name (parts_in (block.shown-the_row-DeclaratorPart-1 shape' parts).items))) (parameter_row rest)

pub parameters_are : (xs : Vec Parameter) → parameter_list_of (block.hidden-the_row-Parameter-2 xs) ≡ parameter_list_in xs.items
parameters_are xs = parameter_row (block.hidden-the_row-Parameter-2 xs) ∙ ap parameter_list_in (parameters.items_hidden-the_row-Parameter-2 xs)

member_declarator_row : {m : _} (row : block.Row_of-MemberDeclarator m) → member_declarators_of row ≡ member_declarators_in (member.items-the_row-MemberDeclarator m row)
member_declarator_row block.end_of-MemberDeclarator = refl
member_declarator_row (block.more_of-MemberDeclarator name shape' parts width rest) =
    ap (λ ps. t.a_declarator (t.declarator name ps) (maybe_of width) (member_declarators_of rest)) (part_shown shape' parts)
    ∙ ap (λ w. t.a_declarator (t.declarator name (parts_in (block.shown-the_row-DeclaratorPart-1 shape' parts).items)) w (member_declarators_of rest)) (maybe_is width)
    ∙ ap (t.a_declarator (t.declarator name (parts_in (block.shown-the_row-DeclaratorPart-1 shape' parts).items)) (maybe_in (type.view-DeclaratorPart-Array-0 width))) (member_declarator_row rest)

pub member_declarators_are : (xs : Vec MemberDeclarator) → member_declarators_of (block.hidden-the_row-MemberDeclarator-8 xs) ≡ member_declarators_in xs.items
member_declarators_are xs = member_declarator_row (block.hidden-the_row-MemberDeclarator-8 xs) ∙ ap member_declarators_in (member.items_hidden-the_row-MemberDeclarator-8 xs)

-- a type name in memory
pub type_name_is : (storage : Vec Storage) (inline noreturn : Bool) (quals : Quals) (types : Vec TypeSpecifier) (name : Option (List ℕ)) (parts : Vec DeclaratorPart)
    → {A : Type 0} (f : t.Specifiers → t.Declarator → A)
    → f (t.specifiers (words_of storage inline noreturn quals) (types_of (block.hidden-the_row-TypeSpecifier-0 types))) (t.declarator name (parts_of (block.hidden-the_row-DeclaratorPart-1 parts)))
    ≡ f (t.specifiers (words_of storage inline noreturn quals) (types_in types.items)) (t.declarator name (parts_in parts.items))
type_name_is storage inline noreturn quals types name parts f =
    ap (λ ts. f (t.specifiers (words_of storage inline noreturn quals) ts) (t.declarator name (parts_of (block.hidden-the_row-DeclaratorPart-1 parts)))) (types_are types)
    ∙ ap (λ ps. f (t.specifiers (words_of storage inline noreturn quals) (types_in types.items)) (t.declarator name ps)) (parts_are parts)

pub member_is : (words : t.Words) (types : Vec TypeSpecifier) (declarators : Vec MemberDeclarator)
    → t.member (t.specifiers words (types_of (block.hidden-the_row-TypeSpecifier-0 types))) (member_declarators_of (block.hidden-the_row-MemberDeclarator-8 declarators))
    ≡ t.member (t.specifiers words (types_in types.items)) (member_declarators_in declarators.items)
member_is words types declarators =
    ap (λ ts. t.member (t.specifiers words ts) (member_declarators_of (block.hidden-the_row-MemberDeclarator-8 declarators))) (types_are types)
    ∙ ap (t.member (t.specifiers words (types_in types.items))) (member_declarators_are declarators)
