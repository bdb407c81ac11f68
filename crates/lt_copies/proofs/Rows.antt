-- Expressions, types and parameters that hold rows, as they lie in memory.
use Rattle.std.proofs.Common.{◌≡◌, ◌⊎◌, inl, inr, refl, sym, ap, ◌∙◌, ℕ, nat_lt, Bool, not, ◌&&◌, List, [], ◌∷◌, ◌++◌, length, Option, arith, rules}
use Rattle.std.specs.Bool.{◌==◌}
use Rattle.std.specs.Option.{option_to_list}
use Rattle.std.specs.Global.{Box, Vec}
use Rattle.std.specs.Vec.{vec_len}
use Rattle.std.proofs.lemmas.Bool.Decides.{nat_tests}
use Rattle.lt_tree.specs.declared.expression.Expr.{Expr}
use Rattle.lt_tree.specs.declared.expression.Expr.TheVariants as variant
use Rattle.lt_tree.specs.declared.mark.Mark.{Mark}
use Rattle.lt_tree.specs.declared.specifier.Member.{Member}
use Rattle.lt_tree.specs.declared.specifier.TypeName.{TypeName}
use Rattle.lt_tree.specs.declared.specifier.TypeSpecifier.{TypeSpecifier}
use Rattle.lt_tree.specs.declared.specifier.TypeSpecifier.TheVariants as kind
use Rattle.lt_tree.specs.declared.declarator.DeclaratorPart.TheViews as views
use Rattle.lt_tree.specs.declared.declarator.Parameter.{Parameter}
use Rattle.lt_tree.specs.declared.declarator.Parameters.{Parameters}
use Rattle.lt_tree.specs.declared.declarator.Parameters.TheVariants as listing
use Rattle.lt_tree.specs.Tree as c
use Rattle.lt_tree.specs.View.{expression_of, type_of, member_of, parameters_of}
use Rattle.lt_tree.specs.Records.{expressions_in, marks_in, specifiers_of, declarator_of, members_in, parameter_list_in}
use Rattle.lt_tree.specs.Nodes.{an_expression}
use Rattle.lt_tree.proofs.Rows.{comma_is, marked_is, sizeof_is, cast_is, member_out, struct_is, listed_is, open_is}
use Rattle.lt_objectives.specs.Tags.{Tags, tags_in, tags_in_type, tags_in_members, tags_in_list, tags_in_parameters, is_of_text, names_known, are_known, is_known_declarator, are_known_parameters, is_known_list}

-- ---- tags

pub struct_tags : (k : TypeSpecifier) (tag : Option (List ℕ)) (v : Vec Member) (list : List Member) → k ≡ kind.Struct tag v → list ≡ v.items → option_to_list tag ++ tags_in_members (members_in list) ≡ tags_in_type (type_of k)
struct_tags k tag v list is items =
    ap (λ xs. option_to_list tag ++ tags_in_members (members_in xs)) items ∙ sym (ap (λ z. tags_in_type (type_of z)) is ∙ ap tags_in_type (struct_is tag v))

abbrev specifiers_in : c.StructMember → c.Specifiers
specifiers_in (c.member s ds) = s

member_first : (m : c.StructMember) (rest : c.Members) → tags_in_members (c.a_member m rest) ≡ tags_in (specifiers_in m) ++ tags_in_members rest
member_first (c.member s ds) rest = refl

pub member_tags : (m : Member) (rest : List Member) → tags_in_members (members_in (m ∷ rest)) ≡ tags_in (specifiers_of (views.out-Member m).specifiers) ++ tags_in_members (members_in rest)
member_tags m rest = member_first (member_of m) (members_in rest) ∙ ap (λ z. tags_in (specifiers_in z) ++ tags_in_members (members_in rest)) (member_out m)

pub parameters_tags : (p : Parameters) (v : Vec Parameter) (list : List Parameter) → (p ≡ listing.Listed v) ⊎ (p ≡ listing.Open v) → list ≡ v.items → tags_in_list (parameter_list_in list) ≡ tags_in_parameters (parameters_of p)
parameters_tags p v list (inl e) items = ap (λ xs. tags_in_list (parameter_list_in xs)) items ∙ sym (ap (λ z. tags_in_parameters (parameters_of z)) e ∙ ap tags_in_parameters (listed_is v))
parameters_tags p v list (inr e) items = ap (λ xs. tags_in_list (parameter_list_in xs)) items ∙ sym (ap (λ z. tags_in_parameters (parameters_of z)) e ∙ ap tags_in_parameters (open_is v))

-- ---- type names that declare nothing

pub parameters_known : (tags : Tags) (p : Parameters) (v : Vec Parameter) (list : List Parameter) → (p ≡ listing.Listed v) ⊎ (p ≡ listing.Open v) → list ≡ v.items
    → is_known_list tags (parameter_list_in list) ≡ are_known_parameters tags (parameters_of p)
parameters_known tags p v list (inl e) items = ap (λ xs. is_known_list tags (parameter_list_in xs)) items ∙ sym (ap (λ z. are_known_parameters tags (parameters_of z)) e ∙ ap (are_known_parameters tags) (listed_is v))
parameters_known tags p v list (inr e) items = ap (λ xs. is_known_list tags (parameter_list_in xs)) items ∙ sym (ap (λ z. are_known_parameters tags (parameters_of z)) e ∙ ap (are_known_parameters tags) (open_is v))

abbrev name_known : Tags → TypeName → Bool
name_known tags n = are_known tags (specifiers_of n.specifiers) && is_known_declarator tags (declarator_of n.declarator)

pub sizeof_known : (tags : Tags) (e : Expr) (b : Box TypeName) (n : TypeName) → e ≡ variant.SizeofType b → n ≡ b.value → name_known tags n ≡ names_known tags (an_expression (expression_of e))
sizeof_known tags e b n is same =
    ap (λ (m : TypeName). name_known tags m) same
    ∙ sym (ap (λ z. names_known tags (an_expression (expression_of z))) is ∙ ap (λ z. names_known tags (an_expression z)) (sizeof_is b b.value refl))

pub cast_known : (tags : Tags) (e : Expr) (b : Box TypeName) (o : Box Expr) (n : TypeName) → e ≡ variant.Cast b o → n ≡ b.value → name_known tags n ≡ names_known tags (an_expression (expression_of e))
cast_known tags e b o n is same =
    ap (λ (m : TypeName). name_known tags m) same
    ∙ sym (ap (λ z. names_known tags (an_expression (expression_of z))) is ∙ ap (λ z. names_known tags (an_expression z)) (cast_is b b.value o o.value refl refl))

-- ---- expressions that no text has

two_or_more : (list : List Expr) → nat_lt 1 (length list) ≡ is_of_text (an_expression (c.Comma (expressions_in list)))
two_or_more [] = grind (arith, nat_tests)
two_or_more (x ∷ []) = grind (arith, nat_tests)
two_or_more (x ∷ y ∷ list) = grind (arith, nat_tests)

pub comma_of_text : (e : Expr) (v : Vec Expr) → e ≡ variant.Comma v → nat_lt 1 (vec_len v) ≡ is_of_text (an_expression (expression_of e))
comma_of_text e v is =
    let long : vec_len v ≡ length v.items = search rules in
    ap (nat_lt 1) long ∙ two_or_more v.items ∙ sym (ap (λ z. is_of_text (an_expression (expression_of z))) is ∙ ap (λ z. is_of_text (an_expression z)) (comma_is v))

one_or_more : (list : List Mark) (value : c.Expression) → not (length list == 0) ≡ is_of_text (an_expression (c.Marked (marks_in list) value))
one_or_more [] value = grind (arith, nat_tests)
one_or_more (m ∷ list) value = grind (arith, nat_tests)

pub marked_of_text : (e : Expr) (v : Vec Mark) (b : Box Expr) → e ≡ variant.Marked v b → not (vec_len v == 0) ≡ is_of_text (an_expression (expression_of e))
marked_of_text e v b is =
    let long : vec_len v ≡ length v.items = search rules in
    ap (λ n. not (n == 0)) long ∙ one_or_more v.items (expression_of b.value) ∙ sym (ap (λ z. is_of_text (an_expression (expression_of z))) is ∙ ap (λ z. is_of_text (an_expression z)) (marked_is v b))
