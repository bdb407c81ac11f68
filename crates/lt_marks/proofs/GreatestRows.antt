-- The greatest id of what holds a list, a mark or the name of a type.
use Rattle.std.proofs.Common.{◌≡◌, refl, sym, ap, ◌∙◌, ℕ, max, List, Option, ◌++◌, ◌∷◌}
use Rattle.std.specs.Global.{Box, Vec}
use Rattle.lt_tree.specs.declared.declarator.DeclaratorPart.TheViews as views
use Rattle.lt_tree.specs.declared.declarator.Parameter.{Parameter}
use Rattle.lt_tree.specs.declared.declarator.Parameters.{Parameters}
use Rattle.lt_tree.specs.declared.declarator.Parameters.TheVariants as listing
use Rattle.lt_tree.specs.declared.expression.Expr.{Expr}
use Rattle.lt_tree.specs.declared.expression.Expr.TheVariants as variant
use Rattle.lt_tree.specs.declared.mark.Mark.{Mark}
use Rattle.lt_tree.specs.declared.specifier.Enumerator.{Enumerator}
use Rattle.lt_tree.specs.declared.specifier.Member.{Member}
use Rattle.lt_tree.specs.declared.specifier.TypeName.{TypeName}
use Rattle.lt_tree.specs.declared.specifier.TypeSpecifier.{TypeSpecifier}
use Rattle.lt_tree.specs.declared.specifier.TypeSpecifier.TheVariants as kind
use Rattle.lt_tree.specs.Constants.{value_of}
use Rattle.lt_tree.specs.View.{expression_of, mark_of, type_of, member_of, parameters_of}
use Rattle.lt_tree.specs.Records.{expressions_in, marks_in, bindings_in, specifiers_of, declarator_of, members_in, member_declarators_in, enumerators_in, parameter_list_in}
use Rattle.lt_tree.specs.Ids.{greatest_id, within, ids_in, ids_in_expressions, ids_in_marks, ids_in_mark, ids_in_bindings, ids_in_specifiers, ids_in_declarator, ids_in_type, ids_in_members, ids_in_member, ids_in_member_declarators, ids_in_enumerators, ids_in_parameters, ids_in_parameter_list}
use Rattle.lt_marks.proofs.Greatest.{greatest_both}
use Rattle.lt_tree.proofs.Rows.{call_is, comma_is, marked_is, sizeof_is, cast_is, mark_out, member_out, struct_is, enum_is, listed_is, open_is}

-- two answers together are the greatest id of two lists
pub both : (a b : ℕ) (xs ys : List (List ℕ)) → a ≡ greatest_id xs → b ≡ greatest_id ys → max a b ≡ greatest_id (xs ++ ys)
both a b xs ys p q = ap (λ m. max m b) p ∙ ap (max (greatest_id xs)) q ∙ sym (greatest_both xs ys)

pub call_ids : (e : Expr) (b : Box Expr) (v : Vec Expr) (f a : ℕ) → e ≡ variant.Call b v →
    f ≡ greatest_id (ids_in (expression_of b.value)) → a ≡ greatest_id (ids_in_expressions (expressions_in v.items)) → max f a ≡ greatest_id (ids_in (expression_of e))
call_ids e b v f a is p q = both f a _ _ p q ∙ sym (ap (λ x. greatest_id (ids_in (expression_of x))) is ∙ ap (λ x. greatest_id (ids_in x)) (call_is b v))

pub marked_ids : (e : Expr) (v : Vec Mark) (b : Box Expr) (m a : ℕ) → e ≡ variant.Marked v b →
    m ≡ greatest_id (ids_in_marks (marks_in v.items)) → a ≡ greatest_id (ids_in (expression_of b.value)) → max m a ≡ greatest_id (ids_in (expression_of e))
marked_ids e v b m a is p q = both m a _ _ p q ∙ sym (ap (λ x. greatest_id (ids_in (expression_of x))) is ∙ ap (λ x. greatest_id (ids_in x)) (marked_is v b))

pub comma_ids : (e : Expr) (v : Vec Expr) → e ≡ variant.Comma v → greatest_id (ids_in_expressions (expressions_in v.items)) ≡ greatest_id (ids_in (expression_of e))
comma_ids e v is = sym (ap (λ x. greatest_id (ids_in (expression_of x))) is ∙ ap (λ x. greatest_id (ids_in x)) (comma_is v))

pub sizeof_ids : (e : Expr) (b : Box TypeName) → e ≡ variant.SizeofType b →
    greatest_id (ids_in_specifiers (specifiers_of b.value.specifiers) ++ ids_in_declarator (declarator_of b.value.declarator)) ≡ greatest_id (ids_in (expression_of e))
sizeof_ids e b is = sym (ap (λ x. greatest_id (ids_in (expression_of x))) is ∙ ap (λ x. greatest_id (ids_in x)) (sizeof_is b b.value refl))

pub cast_ids : (e : Expr) (b : Box TypeName) (d : Box Expr) (n a : ℕ) → e ≡ variant.Cast b d →
    n ≡ greatest_id (ids_in_specifiers (specifiers_of b.value.specifiers) ++ ids_in_declarator (declarator_of b.value.declarator)) → a ≡ greatest_id (ids_in (expression_of d.value)) →
    max n a ≡ greatest_id (ids_in (expression_of e))
cast_ids e b d n a is p q = both n a _ _ p q ∙ sym (ap (λ x. greatest_id (ids_in (expression_of x))) is ∙ ap (λ x. greatest_id (ids_in x)) (cast_is b b.value d d.value refl refl))

pub mark_ids : (m : Mark) (p i b : ℕ) → p ≡ greatest_id (ids_in (expression_of (views.out-Mark m).predicate)) → i ≡ within (value_of (views.out-Mark m).id) →
    b ≡ greatest_id (ids_in_bindings (bindings_in (views.out-Mark m).bound.items)) → max p (max i b) ≡ greatest_id (ids_in_mark (mark_of m))
mark_ids m p i b is_p is_i is_b =
    let r = views.out-Mark m in
    both p (max i b) (ids_in (expression_of r.predicate)) (r.id ∷ ids_in_bindings (bindings_in r.bound.items)) is_p (ap (λ x. max x b) is_i ∙ ap (max (within (value_of r.id))) is_b)
    ∙ sym (ap (λ x. greatest_id (ids_in_mark x)) (mark_out m))

pub member_ids : (m : Member) (s d : ℕ) → s ≡ greatest_id (ids_in_specifiers (specifiers_of (views.out-Member m).specifiers)) →
    d ≡ greatest_id (ids_in_member_declarators (member_declarators_in (views.out-Member m).declarators.items)) → max s d ≡ greatest_id (ids_in_member (member_of m))
member_ids m s d p q = both s d _ _ p q ∙ sym (ap (λ x. greatest_id (ids_in_member x)) (member_out m))

pub struct_ids : (s : TypeSpecifier) (tag : Option (List ℕ)) (v : Vec Member) → s ≡ kind.Struct tag v → greatest_id (ids_in_members (members_in v.items)) ≡ greatest_id (ids_in_type (type_of s))
struct_ids s tag v is = sym (ap (λ x. greatest_id (ids_in_type (type_of x))) is ∙ ap (λ x. greatest_id (ids_in_type x)) (struct_is tag v))

pub enum_ids : (s : TypeSpecifier) (tag : Option (List ℕ)) (v : Vec Enumerator) → s ≡ kind.Enum tag v → greatest_id (ids_in_enumerators (enumerators_in v.items)) ≡ greatest_id (ids_in_type (type_of s))
enum_ids s tag v is = sym (ap (λ x. greatest_id (ids_in_type (type_of x))) is ∙ ap (λ x. greatest_id (ids_in_type x)) (enum_is tag v))

pub listed_ids : (p : Parameters) (v : Vec Parameter) → p ≡ listing.Listed v → greatest_id (ids_in_parameter_list (parameter_list_in v.items)) ≡ greatest_id (ids_in_parameters (parameters_of p))
listed_ids p v is = sym (ap (λ x. greatest_id (ids_in_parameters (parameters_of x))) is ∙ ap (λ x. greatest_id (ids_in_parameters x)) (listed_is v))

pub open_ids : (p : Parameters) (v : Vec Parameter) → p ≡ listing.Open v → greatest_id (ids_in_parameter_list (parameter_list_in v.items)) ≡ greatest_id (ids_in_parameters (parameters_of p))
open_ids p v is = sym (ap (λ x. greatest_id (ids_in_parameters (parameters_of x))) is ∙ ap (λ x. greatest_id (ids_in_parameters x)) (open_is v))
