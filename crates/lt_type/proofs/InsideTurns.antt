-- How loops over members, enumerators, parameters and parts of declarators go on, and what is made of what they found.
use Rattle.std.proofs.Common.{◌≡◌, ℕ, ◌+◌, ℤ, Bool, false, List, [], ◌∷◌, ◌++◌, map, Option, Some, None, refl, sym, ap, ◌∙◌}
use Rattle.std.specs.Prelude.{is_some}
use Rattle.std.specs.Global.{Box, Vec}
use Rattle.lt_tree.specs.declared.expression.Expr.{Expr}
use Rattle.lt_tree.specs.declared.expression.Expr.TheVariants as variant
use Rattle.lt_tree.specs.declared.specifier.TypeName.{TypeName}
use Rattle.lt_tree.specs.declared.specifier.TypeSpecifier.{TypeSpecifier}
use Rattle.lt_tree.specs.declared.specifier.TypeSpecifier.TheVariants as kind
use Rattle.lt_tree.specs.declared.specifier.Member.{Member}
use Rattle.lt_tree.specs.declared.specifier.Enumerator.{Enumerator}
use Rattle.lt_tree.specs.declared.declarator.Declarator.{Declarator}
use Rattle.lt_tree.specs.declared.declarator.DeclaratorPart.{DeclaratorPart}
use Rattle.lt_tree.specs.declared.declarator.DeclaratorPart.TheBlock as at
use Rattle.lt_tree.specs.declared.declarator.Parameter.{Parameter}
use Rattle.lt_tree.specs.declared.declarator.Parameters.{Parameters}
use Rattle.lt_tree.specs.declared.declarator.Parameters.TheVariants as listing
use Rattle.lt_tree.specs.Tree as c
use Rattle.lt_tree.specs.View.{expression_of, type_of, maybe_of, parameters_of}
use Rattle.lt_tree.specs.Records.{maybe_in, specifiers_of, declarator_of, members_in, enumerators_in, parts_in, parameter_list_in}
use Rattle.lt_tree.specs.Typing.Types.{CType, adjusted}
use Rattle.lt_tree.specs.Typing.Rules.{Rule}
use Rattle.lt_tree.specs.Typing.Extents as x
use Rattle.lt_tree.specs.Typing.Entities.{Known}
use Rattle.lt_tree.specs.Typing.Steps.{Outcome, Goes, Breaks, Walk, goes_on, gives, in_block}
use Rattle.lt_tree.specs.Typing.Specifying as s
use Rattle.lt_tree.specs.Typing.Declarators as d
use Rattle.lt_tree.specs.Typing.ExpressionTyping as typing
use Rattle.lt_tree.specs.Typing.NodeEnds.{end_of_enumerator}
use Rattle.lt_tree.proofs.Rows.{sizeof_is, cast_is, struct_is, enum_is, listed_is, open_is}
use Rattle.lt_declare.specs.declared.made.Judging.TheVariants as judging
use Rattle.lt_type.specs.Ends.{enumerator, without_any}
use Rattle.lt_type.specs.Found as found
use Rattle.lt_type.specs.Found.{Part, a_pointer, an_array, a_function, with_part, with_parts, Found, with_all_found, with_found}
use Rattle.lt_declare.specs.DeclaredViews.{judging_of}
use Rattle.lt_type.proofs.Turns.{behind}

-- ---- expressions with type names

pub size_seen : (e : Expr) (b : Box TypeName) (name : TypeName) → e ≡ variant.SizeofType b → name ≡ b.value → c.SizeofType (specifiers_of name.specifiers) (declarator_of name.declarator) ≡ expression_of e
size_seen e b name is same = sym (sizeof_is b name (sym same)) ∙ sym (ap expression_of is)

pub cast_seen : (e : Expr) (b : Box TypeName) (q : Box Expr) (name : TypeName) (operand : Expr) → e ≡ variant.Cast b q → name ≡ b.value → operand ≡ q.value
    → c.Cast (specifiers_of name.specifiers) (declarator_of name.declarator) (expression_of operand) ≡ expression_of e
cast_seen e b q name operand is same one = sym (cast_is b name q operand (sym same) (sym one)) ∙ sym (ap expression_of is)

-- ---- specifiers

pub struct_seen : (t : TypeSpecifier) (tag : Option (List ℕ)) (v : Vec Member) (list : List Member) → t ≡ kind.Struct tag v → list ≡ v.items → c.Struct tag (members_in list) ≡ type_of t
struct_seen t tag v list is all = ap (λ l. c.Struct tag (members_in l)) all ∙ sym (struct_is tag v) ∙ sym (ap type_of is)

pub enum_seen : (t : TypeSpecifier) (tag : Option (List ℕ)) (v : Vec Enumerator) (list : List Enumerator) → t ≡ kind.Enum tag v → list ≡ v.items → c.Enum tag (enumerators_in list) ≡ type_of t
enum_seen t tag v list is all = ap (λ l. c.Enum tag (enumerators_in l)) all ∙ sym (enum_is tag v) ∙ sym (ap type_of is)

-- enumerators, of which the first is gone over first
pub enumerators_open : (e : Enumerator) (rest : List Enumerator) (counted : ℤ) (k : Known)
    → typing.enumerators (enumerators_in (e ∷ rest)) counted k ≡ goes_on (enumerator e.name (maybe_in e.value) counted k) (λ next. typing.enumerators (enumerators_in rest) next)
enumerators_open e rest counted k =
    behind (typing.maybe (maybe_in e.value) (record k { next = k.next + 1 })) (λ x. end_of_enumerator k.next e.name (s.value_given counted x)) (λ next. typing.enumerators (enumerators_in rest) next)

-- ---- members

-- a member is judged with whether its name is declared
pub member_judged : (m : Declarator) (it : s.Specified) (is_declared has_width : Bool) (list : List x.Member) (width : c.Maybe) (k : Known)
    → is_declared ≡ d.is_member_already list m.name → has_width ≡ d.has_width width
    → typing.declarator (declarator_of m) it false (judging_of (judging.Member is_declared has_width)) k ≡ typing.declarator (declarator_of m) it false (d.member_faults list (d.has_width width)) k
member_judged m it is_declared has_width list width k e f =
    ap (λ b. typing.declarator (declarator_of m) it false (judging_of (judging.Member b has_width)) k) e
    ∙ ap (λ b. typing.declarator (declarator_of m) it false (judging_of (judging.Member (d.is_member_already list m.name) b)) k) f

-- what one declarator breaks is put behind what others before it broke
broken_more : (o : Outcome d.Membered) (old one new : List Rule) → new ≡ old ++ one
    → goes_on (goes_on o (λ f. gives (record f { faults = one ++ f.faults }))) (λ f. gives (record f { faults = old ++ f.faults })) ≡ goes_on o (λ f. gives (record f { faults = new ++ f.faults }))
broken_more (Goes f k) old one new e = ap (λ l. Goes (record f { faults = l }) k) (sym (assoc old one f.faults) ∙ ap (λ l. l ++ f.faults) (sym e))
  where
    assoc : (xs ys zs : List Rule) → (xs ++ ys) ++ zs ≡ xs ++ (ys ++ zs)
    assoc [] ys zs = refl
    assoc (x ∷ xs) ys zs = ap (λ l. x ∷ l) (assoc xs ys zs)
broken_more (Breaks rule node) old one new e = refl

pub membered_more : (rest : c.MemberDeclarators) (it : s.Specified) (list longer : List x.Member) (old one new : List Rule) (k : Known) → longer ≡ list → new ≡ old ++ one
    → goes_on (goes_on (typing.member_declarators rest it list k) (λ f. gives (record f { faults = one ++ f.faults }))) (λ f. gives (record f { faults = old ++ f.faults }))
    ≡ goes_on (typing.member_declarators rest it longer k) (λ f. gives (record f { faults = new ++ f.faults }))
membered_more rest it list longer old one new k e f =
    broken_more (typing.member_declarators rest it list k) old one new f ∙ ap (λ l. goes_on (typing.member_declarators rest it l k) (λ m. gives (record m { faults = new ++ m.faults }))) (sym e)

pub all_rules : (xs : List Rule) → xs ++ [] ≡ xs
all_rules [] = refl
all_rules (x ∷ xs) = ap (λ l. x ∷ l) (all_rules xs)

pub width_seen : (width : Option (Box Expr)) (b : Bool) → b ≡ is_some width → b ≡ d.has_width (maybe_in width)
width_seen None b e = e
width_seen (Some w) b e = e

-- ---- parts of declarators

-- what is made of all parts
abbrev makes : CType → List Part → Walk d.Built
makes t ps = λ known. Goes (with_parts known ps (d.built t [])) known

one_around : (t : CType) (p : Part) (o : Outcome (List Part)) → goes_on (goes_on o (λ ps. gives (p ∷ ps))) (makes t) ≡ goes_on (goes_on o (makes t)) (λ inner known. Goes (with_part known p inner) known)
one_around t p (Goes ps k) = refl
one_around t p (Breaks rule node) = refl

part_around : (t : CType) (rest : List DeclaratorPart) (o : Outcome Part) (same : (k : Known) → goes_on (found.parts rest false false k) (makes t) ≡ typing.parts (parts_in rest) t false false k)
    → goes_on (goes_on o (λ p k. goes_on (found.parts rest false false k) (λ ps. gives (p ∷ ps)))) (makes t) ≡ goes_on o (λ p k. goes_on (typing.parts (parts_in rest) t false false k) (λ inner known. Goes (with_part known p inner) known))
part_around t rest (Goes p k) same = one_around t p (found.parts rest false false k) ∙ ap (λ o. goes_on o (λ inner known. Goes (with_part known p inner) known)) (same k)
part_around t rest (Breaks rule node) same = refl

pub parts_made : (t : CType) (list : List DeclaratorPart) (is_definition is_outermost : Bool) (k : Known) → goes_on (found.parts list is_definition is_outermost k) (makes t) ≡ typing.parts (parts_in list) t is_definition is_outermost k
parts_made t [] is_definition is_outermost k = refl
parts_made t (at.Pointer quals ∷ rest) is_definition is_outermost k = part_around t rest (found.part (at.Pointer quals) is_definition is_outermost k) (parts_made t rest false false)
parts_made t (at.Array' length ∷ rest) is_definition is_outermost k =
    part_around t rest (found.part (at.Array' length) is_definition is_outermost k) (parts_made t rest false false)
    ∙ sym (behind (typing.maybe (maybe_of length) k) (λ n. gives (an_array (d.length_or_none is_outermost n))) (λ p k. goes_on (typing.parts (parts_in rest) t false false k) (λ inner known. Goes (with_part known p inner) known)))
parts_made t (at.Function ps ∷ rest) is_definition is_outermost k =
    part_around t rest (found.part (at.Function ps) is_definition is_outermost k) (parts_made t rest false false)
    ∙ sym (behind (in_block (typing.parameters (parameters_of ps) is_definition) k) (λ them. gives (a_function them)) (λ p k. goes_on (typing.parts (parts_in rest) t false false k) (λ inner known. Goes (with_part known p inner) known)))

-- ---- parameters

pub listed_seen : (p : Parameters) (v : Vec Parameter) (list : List Parameter) → p ≡ listing.Listed v → list ≡ v.items → c.Listed (parameter_list_in list) ≡ parameters_of p
listed_seen p v list is all = ap (λ l. c.Listed (parameter_list_in l)) all ∙ sym (listed_is v) ∙ sym (ap parameters_of is)

pub open_seen : (p : Parameters) (v : Vec Parameter) (list : List Parameter) → p ≡ listing.Open v → list ≡ v.items → c.Open (parameter_list_in list) ≡ parameters_of p
open_seen p v list is all = ap (λ l. c.Open (parameter_list_in l)) all ∙ sym (open_is v) ∙ sym (ap parameters_of is)

abbrev makes_list : List Found → Walk d.Parameters
makes_list ps = λ known. Goes (with_all_found ps (without_any known)) known

one_before : (p : Found) (o : Outcome (List Found)) → goes_on (goes_on o (λ ps. gives (p ∷ ps))) makes_list ≡ goes_on (goes_on o makes_list) (λ others. gives (with_found p others))
one_before p (Goes ps k) = refl
one_before p (Breaks rule node) = refl

found_before : (rest : List Parameter) (is_definition : Bool) (o : Outcome Found) (same : (k : Known) → goes_on (found.parameters rest is_definition k) makes_list ≡ typing.parameter_list (parameter_list_in rest) is_definition k)
    → goes_on (goes_on o (λ p k. goes_on (found.parameters rest is_definition k) (λ ps. gives (p ∷ ps)))) makes_list ≡ goes_on o (λ p k. goes_on (typing.parameter_list (parameter_list_in rest) is_definition k) (λ others. gives (with_found p others)))
found_before rest is_definition (Goes p k) same = one_before p (found.parameters rest is_definition k) ∙ ap (λ o. goes_on o (λ others. gives (with_found p others))) (same k)
found_before rest is_definition (Breaks rule node) same = refl

objects_behind : {B : Type 0} (declared : d.Declares) (o : Outcome (List ℕ)) (g : Found → Walk B) → goes_on o (λ objects. g (record { declared = declared; objects = objects })) ≡ goes_on (goes_on o (λ objects. gives (record { declared = declared; objects = objects }))) g
objects_behind declared (Goes objects k) g = refl
objects_behind declared (Breaks rule node) g = refl

declared_behind : {B : Type 0} (is_definition is_register : Bool) (o : Outcome d.Declares) (g : Found → Walk B)
    → goes_on o (λ declared k. goes_on (d.binds_parameter is_definition is_register declared.node declared.name (adjusted declared.type) k) (λ objects. g (record { declared = declared; objects = objects })))
    ≡ goes_on (goes_on o (λ declared k. goes_on (d.binds_parameter is_definition is_register declared.node declared.name (adjusted declared.type) k) (λ objects. gives (record { declared = declared; objects = objects })))) g
declared_behind is_definition is_register (Goes declared k) g = objects_behind declared (d.binds_parameter is_definition is_register declared.node declared.name (adjusted declared.type) k) g
declared_behind is_definition is_register (Breaks rule node) g = refl

specified_behind : {B : Type 0} (m : c.Declarator) (is_definition : Bool) (o : Outcome s.Specified) (g : Found → Walk B)
    → goes_on o (λ it k. goes_on (typing.declarator m it false (d.parameter_faults is_definition) k) (λ declared k. goes_on (d.binds_parameter is_definition (s.is_register it) declared.node declared.name (adjusted declared.type) k) (λ objects. g (record { declared = declared; objects = objects }))))
    ≡ goes_on (goes_on o (λ it k. goes_on (typing.declarator m it false (d.parameter_faults is_definition) k) (λ declared k. goes_on (d.binds_parameter is_definition (s.is_register it) declared.node declared.name (adjusted declared.type) k) (λ objects. gives (record { declared = declared; objects = objects }))))) g
specified_behind m is_definition (Goes it k) g = declared_behind is_definition (s.is_register it) (typing.declarator m it false (d.parameter_faults is_definition) k) g
specified_behind m is_definition (Breaks rule node) g = refl

pub list_made : (list : List Parameter) (is_definition : Bool) (k : Known) → goes_on (found.parameters list is_definition k) makes_list ≡ typing.parameter_list (parameter_list_in list) is_definition k
list_made [] is_definition k = refl
list_made (p ∷ rest) is_definition k =
    found_before rest is_definition (found.parameter (specifiers_of p.specifiers) (declarator_of p.declarator) is_definition k) (list_made rest is_definition)
    ∙ sym (specified_behind (declarator_of p.declarator) is_definition (typing.specifiers (specifiers_of p.specifiers) s.elsewhere k) (λ f k. goes_on (typing.parameter_list (parameter_list_in rest) is_definition k) (λ others. gives (with_found f others))))

-- ---- from the last to the first

pub last_part : {X : Type 0} (known : Known) (f : X → Part) (front : List X) (x : X) (inner : d.Built) → with_parts known (map f (front ++ x ∷ [])) inner ≡ with_parts known (map f front) (with_part known (f x) inner)
last_part known f [] x inner = refl
last_part known f (y ∷ front) x inner = ap (with_part known (f y)) (last_part known f front x inner)
