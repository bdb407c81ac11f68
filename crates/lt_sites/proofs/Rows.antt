-- What is listed inside of a node that holds a row, a mark or the name of a type.
use Rattle.std.proofs.Common.{◌≡◌, ◌⊎◌, inl, inr, refl, sym, ap, ◌∙◌, ℕ, List, [], ◌∷◌, ◌++◌, Option, Some, None, true, false, length}
use Rattle.std.specs.Bool.{◌==◌}
use Rattle.std.specs.Option.{is_some}
use Rattle.std.specs.Global.{Box, Vec}
use Rattle.lt_tree.specs.declared.expression.Expr.{Expr}
use Rattle.lt_tree.specs.declared.expression.Expr.TheVariants as variant
use Rattle.lt_tree.specs.declared.mark.Mark.{Mark}
use Rattle.lt_tree.specs.declared.specifier.Enumerator.{Enumerator}
use Rattle.lt_tree.specs.declared.specifier.Member.{Member}
use Rattle.lt_tree.specs.declared.specifier.TypeName.{TypeName}
use Rattle.lt_tree.specs.declared.specifier.TypeSpecifier.{TypeSpecifier}
use Rattle.lt_tree.specs.declared.specifier.TypeSpecifier.TheVariants as kind
use Rattle.lt_tree.specs.declared.declarator.DeclaratorPart.{DeclaratorPart}
use Rattle.lt_tree.specs.declared.declarator.DeclaratorPart.TheBlock as block
use Rattle.lt_tree.specs.declared.declarator.DeclaratorPart.TheViews as views
use Rattle.lt_tree.specs.declared.declarator.Parameter.{Parameter}
use Rattle.lt_tree.specs.declared.declarator.Parameters.{Parameters}
use Rattle.lt_tree.specs.declared.declarator.Parameters.TheVariants as listing
use Rattle.lt_tree.specs.Tree as c
use Rattle.lt_tree.specs.View.{expression_of, mark_of, type_of, member_of, part_before, parameters_of}
use Rattle.lt_tree.specs.Records.{expressions_in, marks_in, bindings_in, specifiers_of, declarator_of, parts_in, members_in, member_declarators_in, enumerators_in, parameter_list_in}
use Rattle.lt_tree.specs.Nodes.{Node, a_declarator, a_member, a_mark, an_expression, if_written, in_expression, in_expressions, in_marks, in_bindings, in_specifiers, in_type, in_members, in_member_declarators, in_enumerators, in_declarator, in_parts, in_parameters, in_parameter_list}
use Rattle.lt_tree.proofs.Rows.{call_is, comma_is, marked_is, sizeof_is, cast_is, mark_out, member_out, struct_is, enum_is, listed_is, open_is}
use Rattle.lt_sites.specs.Sites.{in_node}
use Rattle.lt_sites.specs.Listed.{inside, in_part}

-- what is inside of an expression in memory
abbrev pub within : Expr → List Node
within e = inside (an_expression (expression_of e))

within_is : (e made : Expr) (x : c.Expression) → e ≡ made → expression_of made ≡ x → inside (an_expression x) ≡ within e
within_is e made x is makes = sym (ap within is ∙ ap (λ y. inside (an_expression y)) makes)

pub call_within : (e : Expr) (b : Box Expr) (v : Vec Expr) (callee : Expr) (list : List Expr) → e ≡ variant.Call b v → callee ≡ b.value → list ≡ v.items
    → in_expression (expression_of callee) ++ in_expressions (expressions_in list) ≡ within e
call_within e b v callee list is same items =
    ap (λ z. in_expression (expression_of z) ++ in_expressions (expressions_in list)) same ∙ ap (λ xs. in_expression (expression_of b.value) ++ in_expressions (expressions_in xs)) items
    ∙ within_is e (variant.Call b v) (c.Call (expression_of b.value) (expressions_in v.items)) is (call_is b v)

pub comma_within : (e : Expr) (v : Vec Expr) (list : List Expr) → e ≡ variant.Comma v → list ≡ v.items → in_expressions (expressions_in list) ≡ within e
comma_within e v list is items = ap (λ xs. in_expressions (expressions_in xs)) items ∙ within_is e (variant.Comma v) (c.Comma (expressions_in v.items)) is (comma_is v)

pub marked_within : (e : Expr) (v : Vec Mark) (b : Box Expr) (value : Expr) (list : List Mark) → e ≡ variant.Marked v b → value ≡ b.value → list ≡ v.items
    → in_marks (marks_in list) ++ in_expression (expression_of value) ≡ within e
marked_within e v b value list is same items =
    ap (λ z. in_marks (marks_in list) ++ in_expression (expression_of z)) same ∙ ap (λ xs. in_marks (marks_in xs) ++ in_expression (expression_of b.value)) items
    ∙ within_is e (variant.Marked v b) (c.Marked (marks_in v.items) (expression_of b.value)) is (marked_is v b)

-- the nodes of the name of a type
abbrev pub in_name : TypeName → List Node
in_name n = in_specifiers (specifiers_of n.specifiers) ++ in_declarator (declarator_of n.declarator)

pub sizeof_within : (e : Expr) (b : Box TypeName) (n : TypeName) → e ≡ variant.SizeofType b → n ≡ b.value → in_name n ≡ within e
sizeof_within e b n is same =
    ap (λ (m : TypeName). in_name m) same ∙ within_is e (variant.SizeofType b) (c.SizeofType (specifiers_of b.value.specifiers) (declarator_of b.value.declarator)) is (sizeof_is b b.value refl)

pub cast_within : (e : Expr) (b : Box TypeName) (o : Box Expr) (n : TypeName) (operand : Expr) → e ≡ variant.Cast b o → n ≡ b.value → operand ≡ o.value → in_name n ++ in_expression (expression_of operand) ≡ within e
cast_within e b o n operand is same inner =
    ap (λ (m : TypeName). in_name m ++ in_expression (expression_of operand)) same ∙ ap (λ z. in_name b.value ++ in_expression (expression_of z)) inner
    ∙ within_is e (variant.Cast b o) (c.Cast (specifiers_of b.value.specifiers) (declarator_of b.value.declarator) (expression_of o.value)) is (cast_is b b.value o o.value refl refl)

-- ---- marks and members

pub mark_node : (m : Mark) → in_node (a_mark (mark_of m)) ≡ a_mark (mark_of m) ∷ in_expression (expression_of (views.out-Mark m).predicate) ++ in_bindings (bindings_in (views.out-Mark m).bound.items)
mark_node m =
    let r = views.out-Mark m in
    ap (λ x. in_node (a_mark x)) (mark_out m) ∙ sym (ap (λ x. a_mark x ∷ in_expression (expression_of r.predicate) ++ in_bindings (bindings_in r.bound.items)) (mark_out m))

pub member_node : (m : Member)
    → in_node (a_member (member_of m)) ≡ a_member (member_of m) ∷ in_specifiers (specifiers_of (views.out-Member m).specifiers) ++ in_member_declarators (member_declarators_in (views.out-Member m).declarators.items)
member_node m =
    let r = views.out-Member m in
    ap (λ x. in_node (a_member x)) (member_out m) ∙ sym (ap (λ x. a_member x ∷ in_specifiers (specifiers_of r.specifiers) ++ in_member_declarators (member_declarators_in r.declarators.items)) (member_out m))

member_first : (m : c.StructMember) (rest : c.Members) → in_members (c.a_member m rest) ≡ in_node (a_member m) ++ in_members rest
member_first (c.member s ds) rest = refl

pub members_more : (m : Member) (rest : List Member) → in_members (members_in (m ∷ rest)) ≡ in_node (a_member (member_of m)) ++ in_members (members_in rest)
members_more m rest = member_first (member_of m) (members_in rest)

-- ---- types and declarators

pub struct_nodes : (k : TypeSpecifier) (tag : Option (List ℕ)) (v : Vec Member) (list : List Member) → k ≡ kind.Struct tag v → list ≡ v.items → in_members (members_in list) ≡ in_type (type_of k)
struct_nodes k tag v list is items = ap (λ xs. in_members (members_in xs)) items ∙ sym (ap (λ z. in_type (type_of z)) is ∙ ap in_type (struct_is tag v))

pub enum_nodes : (k : TypeSpecifier) (tag : Option (List ℕ)) (v : Vec Enumerator) (list : List Enumerator) → k ≡ kind.Enum tag v → list ≡ v.items → in_enumerators (enumerators_in list) ≡ in_type (type_of k)
enum_nodes k tag v list is items = ap (λ xs. in_enumerators (enumerators_in xs)) items ∙ sym (ap (λ z. in_type (type_of z)) is ∙ ap in_type (enum_is tag v))

written : (name : Option (List ℕ)) (p : DeclaratorPart) (rest : c.Parts) → if_written name (part_before p rest) ≡ a_declarator (c.declarator name (part_before p rest)) ∷ []
written None (block.Pointer q) rest = refl
written None (block.Array' length) rest = refl
written None (block.Function parameters) rest = refl
written (Some n) p rest = refl

-- a declarator that has parts, and one that has a name
pub parted_node : (name : Option (List ℕ)) (list : List DeclaratorPart) (n : ℕ) → n ≡ length list → false ≡ (n == 0) → in_declarator (c.declarator name (parts_in list)) ≡ a_declarator (c.declarator name (parts_in list)) ∷ in_parts (parts_in list)
parted_node name [] n is e = let none : false ≡ (0 == 0) = e ∙ ap (λ k. k == 0) is in absurd cc
parted_node name (p ∷ ps) n is e = ap (λ ns. ns ++ in_parts (part_before p (parts_in ps))) (written name p (parts_in ps))

pub named_node : (name : Option (List ℕ)) (list : List DeclaratorPart) → is_some name ≡ true → in_declarator (c.declarator name (parts_in list)) ≡ a_declarator (c.declarator name (parts_in list)) ∷ in_parts (parts_in list)
named_node None list e = absurd cc
named_node (Some n) list e = refl

pub parts_more : (p : DeclaratorPart) (rest : c.Parts) → in_parts (part_before p rest) ≡ in_part p ++ in_parts rest
parts_more (block.Pointer q) rest = refl
parts_more (block.Array' length) rest = refl
parts_more (block.Function parameters) rest = refl

pub parameters_nodes : (p : Parameters) (v : Vec Parameter) (list : List Parameter) → (p ≡ listing.Listed v) ⊎ (p ≡ listing.Open v) → list ≡ v.items
    → in_parameter_list (parameter_list_in list) ≡ in_parameters (parameters_of p)
parameters_nodes p v list (inl e) items =
    ap (λ xs. in_parameter_list (parameter_list_in xs)) items ∙ sym (ap (λ z. in_parameters (parameters_of z)) e ∙ ap in_parameters (listed_is v))
parameters_nodes p v list (inr e) items =
    ap (λ xs. in_parameter_list (parameter_list_in xs)) items ∙ sym (ap (λ z. in_parameters (parameters_of z)) e ∙ ap in_parameters (open_is v))
