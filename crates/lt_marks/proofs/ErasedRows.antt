-- What is made of the erased parts of a call, a cast, a comma expression, a size or a type with a body.
use Rattle.std.proofs.Common.{◌≡◌, refl, sym, ap, ◌∙◌, ℕ, List, Option}
use Rattle.std.specs.Prelude.{Result, IfOk}
use Rattle.std.specs.Global.{Box, Vec}
use Rattle.std.proofs.lemmas.Result.{IfOk-weaker}
use Rattle.lt_tree.specs.declared.declarator.DeclaratorPart.TheViews as views
use Rattle.lt_tree.specs.declared.declarator.Parameter.{Parameter}
use Rattle.lt_tree.specs.declared.declarator.Parameters.{Parameters}
use Rattle.lt_tree.specs.declared.declarator.Parameters.TheVariants as listing
use Rattle.lt_tree.specs.declared.expression.Expr.{Expr}
use Rattle.lt_tree.specs.declared.expression.Expr.TheVariants as variant
use Rattle.lt_tree.specs.declared.specifier.Enumerator.{Enumerator}
use Rattle.lt_tree.specs.declared.specifier.Member.{Member}
use Rattle.lt_tree.specs.declared.specifier.MemberDeclarator.{MemberDeclarator}
use Rattle.lt_tree.specs.declared.specifier.Specifiers.{Specifiers}
use Rattle.lt_tree.specs.declared.specifier.TypeName.{TypeName}
use Rattle.lt_tree.specs.declared.specifier.TypeSpecifier.{TypeSpecifier}
use Rattle.lt_tree.specs.declared.specifier.TypeSpecifier.TheVariants as kind
use Rattle.lt_tree.specs.Tree as t
use Rattle.lt_tree.specs.View.{expression_of, type_of, member_of, parameters_of}
use Rattle.lt_tree.specs.Records.{expressions_in, specifiers_of, declarator_of, members_in, member_declarators_in, enumerators_in, parameter_list_in}
use Rattle.lt_tree.specs.Erasure.{erased, erased_comma, erased_expressions, erased_specifiers, erased_declarator, erased_type, erased_members, erased_member, erased_member_declarators, erased_enumerators, erased_parameters, erased_parameter_list}
use Rattle.lt_marks.proofs.Made.{both}
use Rattle.lt_tree.proofs.Rows.{call_is, comma_is, sizeof_is, cast_is, member_out, struct_is, enum_is, listed_is, open_is}

-- an answer's value, said otherwise
becomes_type : {E : Type 0} (r : Result TypeSpecifier E) (a b : t.TypeSpecifier) → a ≡ b → IfOk r (λ all. type_of all ≡ a) → IfOk r (λ all. type_of all ≡ b)
becomes_type r a b e p = IfOk-weaker r (λ all. type_of all ≡ a) (λ all. type_of all ≡ b) (λ x q. q ∙ e) p

pub call_erased : (e : Expr) (b made : Box Expr) (v list : Vec Expr) (callee : Expr) (arguments : List Expr) →
    e ≡ variant.Call b v → callee ≡ b.value → arguments ≡ v.items → expression_of made.value ≡ erased (expression_of callee) →
    expressions_in list.items ≡ erased_expressions (expressions_in arguments) → expression_of (variant.Call made list) ≡ erased (expression_of e)
call_erased e b made v list callee arguments is p q m n =
    call_is made list
    ∙ both t.Call _ _ _ _ (m ∙ ap (λ x. erased (expression_of x)) p) (n ∙ ap (λ xs. erased_expressions (expressions_in xs)) q)
    ∙ sym (ap (λ x. erased (expression_of x)) is ∙ ap erased (call_is b v))

pub comma_erased : {E : Type 0} (r : Result Expr E) (e : Expr) (v : Vec Expr) (made : List Expr) (parts : List Expr) →
    e ≡ variant.Comma v → parts ≡ v.items → expressions_in made ≡ erased_expressions (expressions_in parts) →
    IfOk r (λ all. (list : t.Expressions) → expressions_in made ≡ erased_expressions list → expression_of all ≡ erased_comma list) → IfOk r (λ all. expression_of all ≡ erased (expression_of e))
comma_erased r e v made parts is q m p =
    IfOk-weaker r (λ all. (list : t.Expressions) → expressions_in made ≡ erased_expressions list → expression_of all ≡ erased_comma list) (λ all. expression_of all ≡ erased (expression_of e))
    (λ x f. f (expressions_in parts) m ∙ ap (λ xs. erased_comma (expressions_in xs)) q ∙ sym (ap (λ x. erased (expression_of x)) is ∙ ap erased (comma_is v))) p

pub sizeof_erased : (e : Expr) (b made : Box TypeName) (name : TypeName) → e ≡ variant.SizeofType b → name ≡ b.value →
    specifiers_of made.value.specifiers ≡ erased_specifiers (specifiers_of name.specifiers) → declarator_of made.value.declarator ≡ erased_declarator (declarator_of name.declarator) →
    expression_of (variant.SizeofType made) ≡ erased (expression_of e)
sizeof_erased e b made name is p s d =
    sizeof_is made made.value refl ∙ both t.SizeofType _ _ _ _ s d
    ∙ ap (λ n. t.SizeofType (erased_specifiers (specifiers_of n.specifiers)) (erased_declarator (declarator_of n.declarator))) p
    ∙ sym (ap (λ x. erased (expression_of x)) is ∙ ap erased (sizeof_is b b.value refl))

pub cast_erased : (e : Expr) (b made : Box TypeName) (o held : Box Expr) (name : TypeName) (operand : Expr) →
    e ≡ variant.Cast b o → name ≡ b.value → operand ≡ o.value →
    specifiers_of made.value.specifiers ≡ erased_specifiers (specifiers_of name.specifiers) → declarator_of made.value.declarator ≡ erased_declarator (declarator_of name.declarator) →
    expression_of held.value ≡ erased (expression_of operand) → expression_of (variant.Cast made held) ≡ erased (expression_of e)
cast_erased e b made o held name operand is p q s d m =
    cast_is made made.value held held.value refl refl
    ∙ both (λ x y. t.Cast x y (expression_of held.value)) _ _ _ _ s d
    ∙ both (λ n x. t.Cast (erased_specifiers (specifiers_of n.specifiers)) (erased_declarator (declarator_of n.declarator)) x) _ _ _ _ p (m ∙ ap (λ x. erased (expression_of x)) q)
    ∙ sym (ap (λ x. erased (expression_of x)) is ∙ ap erased (cast_is b b.value o o.value refl refl))

pub struct_erased : {E : Type 0} (r : Result TypeSpecifier E) (s : TypeSpecifier) (tag : Option (List ℕ)) (v : Vec Member) (list : List Member) →
    s ≡ kind.Struct tag v → list ≡ v.items →
    IfOk r (λ all. type_of all ≡ t.Struct tag (erased_members (members_in list))) → IfOk r (λ all. type_of all ≡ erased_type (type_of s))
struct_erased r s tag v list is q =
    becomes_type r _ _ (ap (λ xs. t.Struct tag (erased_members (members_in xs))) q ∙ sym (ap (λ x. erased_type (type_of x)) is ∙ ap erased_type (struct_is tag v)))

pub enum_erased : {E : Type 0} (r : Result TypeSpecifier E) (s : TypeSpecifier) (tag : Option (List ℕ)) (v : Vec Enumerator) (list : List Enumerator) →
    s ≡ kind.Enum tag v → list ≡ v.items →
    IfOk r (λ all. type_of all ≡ t.Enum tag (erased_enumerators (enumerators_in list))) → IfOk r (λ all. type_of all ≡ erased_type (type_of s))
enum_erased r s tag v list is q =
    becomes_type r _ _ (ap (λ xs. t.Enum tag (erased_enumerators (enumerators_in xs))) q ∙ sym (ap (λ x. erased_type (type_of x)) is ∙ ap erased_type (enum_is tag v)))

-- a declaration among members
pub member_erased : (m made : Member) (s : Specifiers) (declarators slice : List MemberDeclarator) →
    member_of made ≡ t.member (specifiers_of s) (member_declarators_in declarators) → specifiers_of s ≡ erased_specifiers (specifiers_of (views.out-Member m).specifiers) →
    slice ≡ (views.out-Member m).declarators.items → member_declarators_in declarators ≡ erased_member_declarators (member_declarators_in slice) →
    member_of made ≡ erased_member (member_of m)
member_erased m made s declarators slice is p q d =
    is ∙ both t.member _ _ _ _ p (d ∙ ap (λ xs. erased_member_declarators (member_declarators_in xs)) q) ∙ sym (ap erased_member (member_out m))

pub listed_erased : (p : Parameters) (v : Vec Parameter) (made list : List Parameter) → p ≡ listing.Listed v → list ≡ v.items →
    parameter_list_in made ≡ erased_parameter_list (parameter_list_in list) → t.Listed (parameter_list_in made) ≡ erased_parameters (parameters_of p)
listed_erased p v made list is q m =
    ap t.Listed (m ∙ ap (λ xs. erased_parameter_list (parameter_list_in xs)) q) ∙ sym (ap (λ x. erased_parameters (parameters_of x)) is ∙ ap erased_parameters (listed_is v))

pub open_erased : (p : Parameters) (v : Vec Parameter) (made list : List Parameter) → p ≡ listing.Open v → list ≡ v.items →
    parameter_list_in made ≡ erased_parameter_list (parameter_list_in list) → t.Open (parameter_list_in made) ≡ erased_parameters (parameters_of p)
open_erased p v made list is q m =
    ap t.Open (m ∙ ap (λ xs. erased_parameter_list (parameter_list_in xs)) q) ∙ sym (ap (λ x. erased_parameters (parameters_of x)) is ∙ ap erased_parameters (open_is v))
