-- What is hidden in rows and inside of nodes.
use Rattle.std.proofs.Common.{◌≡◌, ◌⊎◌, inl, inr, refl, sym, ap, ◌∙◌, subst, ℕ, suc, ◌+◌, ◌<◌, ◌≤◌, Bool, false, List, [], ◌∷◌, ◌++◌, length, drop, get_or, drop-cons, Option, Some, None, Result, arith}
use Rattle.std.proofs.lemmas.List.{append-nil}
use Rattle.std.specs.Result.{IfOk}
use Rattle.std.specs.Global.{Box, Vec}
use Rattle.lt_tree.specs.declared.expression.Expr.{Expr}
use Rattle.lt_tree.specs.declared.expression.Expr.TheVariants as variant
use Rattle.lt_tree.specs.declared.mark.Mark.{Mark}
use Rattle.lt_tree.specs.declared.mark.Binding.{Binding}
use Rattle.lt_tree.specs.declared.specifier.Enumerator.{Enumerator}
use Rattle.lt_tree.specs.declared.specifier.Member.{Member}
use Rattle.lt_tree.specs.declared.specifier.MemberDeclarator.{MemberDeclarator}
use Rattle.lt_tree.specs.declared.specifier.TypeName.{TypeName}
use Rattle.lt_tree.specs.declared.specifier.TypeSpecifier.{TypeSpecifier}
use Rattle.lt_tree.specs.declared.specifier.TypeSpecifier.TheVariants as kind
use Rattle.lt_tree.specs.declared.declarator.DeclaratorPart.{DeclaratorPart}
use Rattle.lt_tree.specs.declared.declarator.DeclaratorPart.TheBlock as block
use Rattle.lt_tree.specs.declared.declarator.DeclaratorPart.TheViews as views
use Rattle.lt_tree.specs.Tree as c
use Rattle.lt_tree.specs.View.{expression_of, mark_of, type_of, member_of, maybe_of, part_before}
use Rattle.lt_tree.specs.Records.{expressions_in, maybe_in, marks_in, bindings_in, specifiers_of, declarator_of, parts_in, members_in, member_declarators_in, enumerators_in}
use Rattle.lt_tree.specs.Scope as scope
use Rattle.lt_tree.specs.Scope.{Scope, hiding}
use Rattle.lt_expr.proofs.Hiding.{hiding_both}
use Rattle.lt_expr.proofs.Rows.{expressions_are, marks_are, bindings_are, members_are, enumerators_are, type_name_is}
use Rattle.lt_expr.proofs.WalkRows.{mark_out, member_out}

-- the answer of a call that ensures the same
pub ok_then : {A E : Type 0} (r : Result A E) (x : Scope) {a b : Scope} → IfOk r (λ _. x ≡ a) → a ≡ b → IfOk r (λ _. x ≡ b)
ok_then r x h e = subst (λ (y : Scope). IfOk r (λ _. x ≡ y)) e h

-- ---- rows

-- one more of a row
pub row_more : {X : Type 0} (names : List X → List (List ℕ)) (one : List (List ℕ)) (list : List X) (i : ℕ) (x : X) (s next all : Scope) → i < length list → x ≡ get_or list i x
    → names (x ∷ drop (i + 1) list) ≡ one ++ names (drop (i + 1) list) → next ≡ hiding one s → hiding (names (drop i list)) s ≡ all → hiding (names (drop (i + 1) list)) next ≡ all
row_more names one list i x s next all within is first goes before =
    let rest = drop (i + 1) list in
    let more : suc i ≡ i + 1 = omega arith in
    let split : drop i list ≡ x ∷ rest = drop-cons list i x within ∙ ap (λ y. y ∷ drop (suc i) list) (sym is) ∙ ap (λ k. x ∷ drop k list) more in
    ap (hiding (names rest)) goes
    ∙ sym (hiding_both one (names rest) s)
    ∙ ap (λ ws. hiding ws s) (sym first)
    ∙ ap (λ xs. hiding (names xs) s) (sym split)
    ∙ before

-- ---- inside of an expression

abbrev pub names : Expr → List (List ℕ)
names e = scope.enumerators_in (expression_of e)

pub both_hidden : (some others : List (List ℕ)) (s mid next : Scope) → mid ≡ hiding some s → next ≡ hiding others mid → next ≡ hiding (some ++ others) s
both_hidden some others s mid next before then_others = then_others ∙ ap (hiding others) before ∙ sym (hiding_both some others s)

pub call_hidden : (e : Expr) (b : Box Expr) (v : Vec Expr) (callee : Expr) (list : List Expr) (s first : Scope) → e ≡ variant.Call b v → callee ≡ b.value → list ≡ v.items
    → first ≡ hiding (names callee) s → hiding (scope.enumerators_in_all (expressions_in list)) first ≡ hiding (names e) s
call_hidden e b v callee list s first is same items before =
    ap (hiding (scope.enumerators_in_all (expressions_in list))) (before ∙ ap (λ z. hiding (names z) s) same)
    ∙ ap (λ xs. hiding (scope.enumerators_in_all (expressions_in xs)) (hiding (names b.value) s)) items
    ∙ sym (hiding_both (names b.value) (scope.enumerators_in_all (expressions_in v.items)) s)
    ∙ sym (ap (λ z. hiding (names z) s) is ∙ ap (λ xs. hiding (names b.value ++ scope.enumerators_in_all xs) s) (expressions_are v))

pub comma_hidden : (e : Expr) (v : Vec Expr) (list : List Expr) (s : Scope) → e ≡ variant.Comma v → list ≡ v.items → hiding (scope.enumerators_in_all (expressions_in list)) s ≡ hiding (names e) s
comma_hidden e v list s is items =
    ap (λ xs. hiding (scope.enumerators_in_all (expressions_in xs)) s) items
    ∙ sym (ap (λ z. hiding (names z) s) is ∙ ap (λ xs. hiding (scope.enumerators_in_all xs) s) (expressions_are v))

pub marked_hidden : (e : Expr) (v : Vec Mark) (b : Box Expr) (value : Expr) (list : List Mark) (s first : Scope) → e ≡ variant.Marked v b → value ≡ b.value → list ≡ v.items
    → first ≡ hiding (scope.enumerators_in_marks (marks_in list)) s → hiding (names value) first ≡ hiding (names e) s
marked_hidden e v b value list s first is same items before =
    ap (hiding (names value)) (before ∙ ap (λ xs. hiding (scope.enumerators_in_marks (marks_in xs)) s) items)
    ∙ ap (λ z. hiding (names z) (hiding (scope.enumerators_in_marks (marks_in v.items)) s)) same
    ∙ sym (hiding_both (scope.enumerators_in_marks (marks_in v.items)) (names b.value) s)
    ∙ sym (ap (λ z. hiding (names z) s) is ∙ ap (λ ms. hiding (scope.enumerators_in_marks ms ++ names b.value) s) (marks_are v))

-- the name of a type
abbrev pub hides_name : TypeName → Scope → Scope
hides_name n s = hiding (scope.enumerators_in_declarator (declarator_of n.declarator)) (hiding (scope.enumerators_in_specifiers (specifiers_of n.specifiers)) s)

pub sizeof_hidden : (e : Expr) (b : Box TypeName) (n : TypeName) (s : Scope) → e ≡ variant.SizeofType b → n ≡ b.value → hides_name n s ≡ hiding (names e) s
sizeof_hidden e b n s is same =
    let ss = b.value.specifiers in
    let d = b.value.declarator in
    ap (λ (m : TypeName). hides_name m s) same
    ∙ sym (hiding_both (scope.enumerators_in_specifiers (specifiers_of ss)) (scope.enumerators_in_declarator (declarator_of d)) s)
    ∙ sym (ap (λ z. hiding (names z) s) is ∙ type_name_is ss.storage ss.inline ss.noreturn ss.quals ss.types d.name d.parts (λ x y. hiding (scope.enumerators_in (c.SizeofType x y)) s))

pub cast_hidden : (e : Expr) (b : Box TypeName) (o : Box Expr) (n : TypeName) (operand : Expr) (s first : Scope) → e ≡ variant.Cast b o → n ≡ b.value → operand ≡ o.value
    → first ≡ hides_name n s → hiding (names operand) first ≡ hiding (names e) s
cast_hidden e b o n operand s first is same inner before =
    let ss = b.value.specifiers in
    let d = b.value.declarator in
    let front = scope.enumerators_in_specifiers (specifiers_of ss) in
    let back = scope.enumerators_in_declarator (declarator_of d) in
    ap (hiding (names operand)) (before ∙ ap (λ (m : TypeName). hides_name m s) same)
    ∙ ap (λ z. hiding (names z) (hides_name b.value s)) inner
    ∙ ap (hiding (names o.value)) (sym (hiding_both front back s))
    ∙ sym (hiding_both (front ++ back) (names o.value) s)
    ∙ sym (ap (λ z. hiding (names z) s) is ∙ type_name_is ss.storage ss.inline ss.noreturn ss.quals ss.types d.name d.parts (λ x y. hiding (scope.enumerators_in (c.Cast x y (expression_of o.value))) s))

-- ---- marks, types and declarators

pub mark_hidden : (m : Mark) (list : List Binding) (s first : Scope) → list ≡ (views.out-Mark m).bound.items → first ≡ hiding (names (views.out-Mark m).predicate) s
    → hiding (scope.enumerators_in_bindings (bindings_in list)) first ≡ hiding (scope.enumerators_in_mark (mark_of m)) s
mark_hidden m list s first same before =
    let p = names (views.out-Mark m).predicate in
    let bound = (views.out-Mark m).bound.items in
    ap (hiding (scope.enumerators_in_bindings (bindings_in list))) before
    ∙ ap (λ xs. hiding (scope.enumerators_in_bindings (bindings_in xs)) (hiding p s)) same
    ∙ sym (hiding_both p (scope.enumerators_in_bindings (bindings_in bound)) s)
    ∙ sym (ap (λ x. hiding (scope.enumerators_in_mark x) s) (mark_out m))

-- the enumerators of a member of a struct
abbrev pub in_member : c.StructMember → List (List ℕ)
in_member (c.member ss ds) = scope.enumerators_in_specifiers ss ++ scope.enumerators_in_member_declarators ds

pub members_first : (m : c.StructMember) (rest : c.Members) → scope.enumerators_in_members (c.a_member m rest) ≡ in_member m ++ scope.enumerators_in_members rest
members_first (c.member ss ds) rest = refl

pub member_hidden : (m : Member) (list : List MemberDeclarator) (s first : Scope) → list ≡ (views.out-Member m).declarators.items → first ≡ hiding (scope.enumerators_in_specifiers (specifiers_of (views.out-Member m).specifiers)) s
    → hiding (scope.enumerators_in_member_declarators (member_declarators_in list)) first ≡ hiding (in_member (member_of m)) s
member_hidden m list s first same before =
    let front = scope.enumerators_in_specifiers (specifiers_of (views.out-Member m).specifiers) in
    let back = (views.out-Member m).declarators.items in
    ap (hiding (scope.enumerators_in_member_declarators (member_declarators_in list))) before
    ∙ ap (λ xs. hiding (scope.enumerators_in_member_declarators (member_declarators_in xs)) (hiding front s)) same
    ∙ sym (hiding_both front (scope.enumerators_in_member_declarators (member_declarators_in back)) s)
    ∙ sym (ap (λ x. hiding (in_member x) s) (member_out m))

pub struct_hidden : (k : TypeSpecifier) (tag : Option (List ℕ)) (v : Vec Member) (list : List Member) (s : Scope) → k ≡ kind.Struct tag v → list ≡ v.items
    → hiding (scope.enumerators_in_members (members_in list)) s ≡ hiding (scope.enumerators_in_type (type_of k)) s
struct_hidden k tag v list s is items =
    ap (λ xs. hiding (scope.enumerators_in_members (members_in xs)) s) items
    ∙ sym (ap (λ z. hiding (scope.enumerators_in_type (type_of z)) s) is ∙ ap (λ xs. hiding (scope.enumerators_in_members xs) s) (members_are v))

pub enum_hidden : (k : TypeSpecifier) (tag : Option (List ℕ)) (v : Vec Enumerator) (list : List Enumerator) (s : Scope) → k ≡ kind.Enum tag v → list ≡ v.items
    → hiding (scope.enumerators_of (enumerators_in list)) s ≡ hiding (scope.enumerators_in_type (type_of k)) s
enum_hidden k tag v list s is items =
    ap (λ xs. hiding (scope.enumerators_of (enumerators_in xs)) s) items
    ∙ sym (ap (λ z. hiding (scope.enumerators_in_type (type_of z)) s) is ∙ ap (λ xs. hiding (scope.enumerators_of xs) s) (enumerators_are v))

-- the enumerators of a part of a declarator
abbrev pub in_part : DeclaratorPart → List (List ℕ)
in_part p = scope.enumerators_in_parts (part_before p c.no_parts)

pub parts_first : (p : DeclaratorPart) (rest : c.Parts) → scope.enumerators_in_parts (part_before p rest) ≡ in_part p ++ scope.enumerators_in_parts rest
parts_first (block.Pointer q) rest = refl
parts_first (block.Array' length) rest = ap (λ ws. ws ++ scope.enumerators_in_parts rest) (sym (append-nil (scope.enumerators_in_maybe (maybe_of length))))
parts_first (block.Function parameters) rest = refl
