-- What walks do in rows and inside of nodes.
use Rattle.std.proofs.Common.{◌≡◌, ◌⊎◌, inl, inr, refl, sym, ap, ◌∙◌, subst, ℕ, suc, ◌-◌, ◌<◌, ◌≤◌, Bool, false, List, [], ◌∷◌, length, drop, get_or, drop-cons, Option, Some, None, Result, arith}
use Rattle.std.specs.Result.{IfOk}
use Rattle.std.specs.Global.{Box, Vec}
use Rattle.lt_tree.specs.declared.expression.Expr.{Expr}
use Rattle.lt_tree.specs.declared.expression.Expr.TheVariants as variant
use Rattle.lt_tree.specs.declared.mark.Mark.{Mark}
use Rattle.lt_tree.specs.declared.mark.Binding.{Binding}
use Rattle.lt_tree.specs.declared.specifier.Enumerator.{Enumerator}
use Rattle.lt_tree.specs.declared.specifier.Member.{Member}
use Rattle.lt_tree.specs.declared.specifier.MemberDeclarator.{MemberDeclarator}
use Rattle.lt_tree.specs.declared.specifier.TypeName.{TypeName}
use Rattle.lt_tree.specs.declared.specifier.TypeSpecifier.{TypeSpecifier}
use Rattle.lt_tree.specs.declared.specifier.TypeSpecifier.TheVariants as kind
use Rattle.lt_tree.specs.declared.declarator.DeclaratorPart.{DeclaratorPart}
use Rattle.lt_tree.specs.declared.declarator.DeclaratorPart.TheBlock as block
use Rattle.lt_tree.specs.declared.declarator.DeclaratorPart.TheViews as views
use Rattle.lt_tree.specs.declared.declarator.Parameter.{Parameter}
use Rattle.lt_tree.specs.declared.declarator.Parameters.{Parameters}
use Rattle.lt_tree.specs.declared.declarator.Parameters.TheVariants as listing
use Rattle.lt_tree.specs.Tree as c
use Rattle.lt_tree.specs.View.{expression_of, mark_of, type_of, member_of, part_before, parameters_of, words_of}
use Rattle.lt_tree.specs.Records.{expressions_in, marks_in, bindings_in, specifiers_of, declarator_of, parts_in, members_in, member_declarators_in, enumerators_in, parameter_list_in}
use Rattle.lt_tree.specs.Grammar.{is_missing}
use Rattle.lt_expr.specs.Walk.{Walked, node, last_end, walk, walk_all, walk_marks, walk_mark, walk_bindings, walk_specifiers, walk_type, walk_members, walk_member, walk_member_declarators, walk_enumerators, walk_declarator, walk_parts, walk_parameters, walk_parameter_list}
use Rattle.lt_expr.specs.Inside.{inside}
use Rattle.lt_expr.proofs.Rows.{expressions_are, marks_are, bindings_are, members_are, enumerators_are, parameters_are, type_name_is, member_is}

-- the answer of a call that ensures the same
pub ok_then : {A E : Type 0} (r : Result A E) (x : Walked) {a b : Walked} → IfOk r (λ _. x ≡ a) → a ≡ b → IfOk r (λ _. x ≡ b)
ok_then r x h e = subst (λ (y : Walked). IfOk r (λ _. x ≡ y)) e h

-- a row that was walked from its end to its front
pub walked_whole : {X : Type 0} (walks : List X → Walked → Walked) (list : List X) (at : ℕ) (w now : Walked) → at ≤ 0 → now ≡ walks (drop at list) w → now ≡ walks list w
walked_whole walks list at w now none is =
    let first : at ≡ 0 = omega arith in
    is ∙ ap (λ n. walks (drop n list) w) first

-- ---- nodes

pub walk_node : (e : c.Expression) (w : Walked) → walk e w ≡ node (inside (walk e)) w
walk_node (c.Name name) w = refl
walk_node (c.Constant text) w = refl
walk_node (c.Text bytes) w = refl
walk_node (c.Index whole index) w = refl
walk_node (c.Call callee arguments) w = refl
walk_node (c.Member whole name) w = refl
walk_node (c.Arrow pointer name) w = refl
walk_node (c.PostInc target) w = refl
walk_node (c.PostDec target) w = refl
walk_node (c.PreInc target) w = refl
walk_node (c.PreDec target) w = refl
walk_node (c.Unary op operand) w = refl
walk_node (c.SizeofExpr operand) w = refl
walk_node (c.SizeofType s d) w = refl
walk_node (c.Cast s d operand) w = refl
walk_node (c.Binary op left right) w = refl
walk_node (c.Logical op left right) w = refl
walk_node (c.Conditional test left right) w = refl
walk_node (c.Assign op target value) w = refl
walk_node (c.Comma parts) w = refl
walk_node (c.Marked marks value) w = refl
walk_node (c.Decide operand when_true when_false tag) w = refl
walk_node (c.After operand id tag) w = refl

-- a node that was gone into, walked inside and left
pub left_is : (within : Walked → Walked) (w entered walked : Walked) (start : ℕ) → start ≡ last_end w.0 → entered ≡ (drop 1 w.0, w.1) → walked ≡ within entered → (walked.0, start ∷ walked.1) ≡ node within w
left_is within w entered walked start is goes in_it =
    ap (λ (v : Walked). (v.0, start ∷ v.1)) (in_it ∙ ap within goes)
    ∙ ap (λ s. ((within (drop 1 w.0, w.1)).0, s ∷ (within (drop 1 w.0, w.1)).1)) is

pub node_left : (e : c.Expression) (w entered walked left : Walked) (start : ℕ) → start ≡ last_end w.0 → entered ≡ (drop 1 w.0, w.1) → walked ≡ inside (walk e) entered → left ≡ (walked.0, start ∷ walked.1) → left ≡ walk e w
node_left e w entered walked left start is goes in_it out = out ∙ left_is (inside (walk e)) w entered walked start is goes in_it ∙ sym (walk_node e w)

-- a declarator that isn't missing is a node
declarator_node : (name : Option (List ℕ)) (parts : c.Parts) → is_missing name parts ≡ false → (w : Walked) → walk_declarator (c.declarator name parts) w ≡ node (walk_parts parts) w
declarator_node None c.no_parts e w = absurd cc
declarator_node None (c.Pointer q rest) e w = refl
declarator_node None (c.Array length rest) e w = refl
declarator_node None (c.Function parameters rest) e w = refl
declarator_node (Some n) parts e w = refl

pub declarator_left : (name : Option (List ℕ)) (items list : List DeclaratorPart) (missing : Bool) (w entered walked : Walked) (start : ℕ) → missing ≡ false → missing ≡ is_missing name (parts_in items)
    → start ≡ last_end w.0 → entered ≡ (drop 1 w.0, w.1) → list ≡ items → walked ≡ walk_parts (parts_in list) entered → (walked.0, start ∷ walked.1) ≡ walk_declarator (c.declarator name (parts_in items)) w
declarator_left name items list missing w entered walked start not_so says is goes same in_it =
    left_is (walk_parts (parts_in items)) w entered walked start is goes (in_it ∙ ap (λ xs. walk_parts (parts_in xs) entered) same)
    ∙ sym (declarator_node name (parts_in items) (sym says ∙ not_so) w)

pub mark_out : (m : Mark) → mark_of m ≡ c.mark (expression_of (views.out-Mark m).predicate) (views.out-Mark m).id (views.out-Mark m).tag (bindings_in (views.out-Mark m).bound.items)
mark_out m =
    ap mark_of (sym (views.roll-out-Mark m)) ∙ ap mark_of (views.rolls-struct-Mark (views.out-Mark m))
    ∙ ap (c.mark (expression_of (views.out-Mark m).predicate) (views.out-Mark m).id (views.out-Mark m).tag) (bindings_are (views.out-Mark m).bound)

pub mark_left : (m : Mark) (w entered inner walked : Walked) (start : ℕ) (list : List Binding) → start ≡ last_end w.0 → entered ≡ (drop 1 w.0, w.1) → list ≡ (views.out-Mark m).bound.items
    → inner ≡ walk_bindings (bindings_in list) entered → walked ≡ walk (expression_of (views.out-Mark m).predicate) inner → (walked.0, start ∷ walked.1) ≡ walk_mark (mark_of m) w
mark_left m w entered inner walked start list is goes same first in_it =
    let p = expression_of (views.out-Mark m).predicate in
    left_is (λ v. walk p (walk_bindings (bindings_in (views.out-Mark m).bound.items) v)) w entered walked start is goes
    (in_it ∙ ap (walk p) (first ∙ ap (λ xs. walk_bindings (bindings_in xs) entered) same))
    ∙ sym (ap (λ x. walk_mark x w) (mark_out m))

pub member_out : (m : Member) → member_of m ≡ c.member (specifiers_of (views.out-Member m).specifiers) (member_declarators_in (views.out-Member m).declarators.items)
member_out m =
    let s = (views.out-Member m).specifiers in
    ap member_of (sym (views.roll-out-Member m)) ∙ ap member_of (views.rolls-struct-Member (views.out-Member m))
    ∙ member_is (words_of s.storage s.inline s.noreturn s.quals) s.types (views.out-Member m).declarators

pub member_left : (m : Member) (w entered inner walked : Walked) (start : ℕ) (list : List MemberDeclarator) → start ≡ last_end w.0 → entered ≡ (drop 1 w.0, w.1) → list ≡ (views.out-Member m).declarators.items
    → inner ≡ walk_member_declarators (member_declarators_in list) entered → walked ≡ walk_specifiers (specifiers_of (views.out-Member m).specifiers) inner → (walked.0, start ∷ walked.1) ≡ walk_member (member_of m) w
member_left m w entered inner walked start list is goes same first in_it =
    let s = specifiers_of (views.out-Member m).specifiers in
    left_is (λ v. walk_specifiers s (walk_member_declarators (member_declarators_in (views.out-Member m).declarators.items) v)) w entered walked start is goes
    (in_it ∙ ap (walk_specifiers s) (first ∙ ap (λ xs. walk_member_declarators (member_declarators_in xs) entered) same))
    ∙ sym (ap (λ x. walk_member x w) (member_out m))

-- ---- inside of an expression

pub one_walked : (e made kept x : Expr) (w : Walked) → e ≡ made → x ≡ kept → walk (expression_of kept) w ≡ inside (walk (expression_of made)) w → walk (expression_of x) w ≡ inside (walk (expression_of e)) w
one_walked e made kept x w is same in_it = ap (λ y. walk (expression_of y) w) same ∙ in_it ∙ sym (ap (λ y. inside (walk (expression_of y)) w) is)

pub two_walked : (e made left right x y : Expr) (w first : Walked) → e ≡ made → x ≡ left → y ≡ right → first ≡ walk (expression_of y) w → walk (expression_of left) (walk (expression_of right) w) ≡ inside (walk (expression_of made)) w
    → walk (expression_of x) first ≡ inside (walk (expression_of e)) w
two_walked e made left right x y w first is same other before in_it =
    ap (walk (expression_of x)) before
    ∙ ap (λ z. walk (expression_of z) (walk (expression_of y) w)) same ∙ ap (λ z. walk (expression_of left) (walk (expression_of z) w)) other ∙ in_it
    ∙ sym (ap (λ z. inside (walk (expression_of z)) w) is)

pub choice_walked : (e : Expr) (one two three : Box Expr) (test left right : Expr) (w first second : Walked) → e ≡ variant.Conditional one two three → test ≡ one.value → left ≡ two.value → right ≡ three.value
    → first ≡ walk (expression_of right) w → second ≡ walk (expression_of left) first → walk (expression_of test) second ≡ inside (walk (expression_of e)) w
choice_walked e one two three test left right w first second is a b d before then_one =
    ap (walk (expression_of test)) (then_one ∙ ap (walk (expression_of left)) before)
    ∙ ap (λ z. walk (expression_of z) (walk (expression_of left) (walk (expression_of right) w))) a
    ∙ ap (λ z. walk (expression_of one.value) (walk (expression_of z) (walk (expression_of right) w))) b
    ∙ ap (λ z. walk (expression_of one.value) (walk (expression_of two.value) (walk (expression_of z) w))) d
    ∙ sym (ap (λ z. inside (walk (expression_of z)) w) is)

pub call_walked : (e : Expr) (b : Box Expr) (v : Vec Expr) (callee : Expr) (list : List Expr) (w first : Walked) → e ≡ variant.Call b v → callee ≡ b.value → list ≡ v.items
    → first ≡ walk_all (expressions_in list) w → walk (expression_of callee) first ≡ inside (walk (expression_of e)) w
call_walked e b v callee list w first is same items before =
    ap (walk (expression_of callee)) (before ∙ ap (λ xs. walk_all (expressions_in xs) w) items)
    ∙ ap (λ z. walk (expression_of z) (walk_all (expressions_in v.items) w)) same
    ∙ sym (ap (λ z. inside (walk (expression_of z)) w) is ∙ ap (λ xs. inside (walk (c.Call (expression_of b.value) xs)) w) (expressions_are v))

pub comma_walked : (e : Expr) (v : Vec Expr) (list : List Expr) (w : Walked) → e ≡ variant.Comma v → list ≡ v.items → walk_all (expressions_in list) w ≡ inside (walk (expression_of e)) w
comma_walked e v list w is items =
    ap (λ xs. walk_all (expressions_in xs) w) items
    ∙ sym (ap (λ z. inside (walk (expression_of z)) w) is ∙ ap (λ xs. inside (walk (c.Comma xs)) w) (expressions_are v))

pub marked_walked : (e : Expr) (v : Vec Mark) (b : Box Expr) (value : Expr) (list : List Mark) (w first : Walked) → e ≡ variant.Marked v b → value ≡ b.value → list ≡ v.items
    → first ≡ walk (expression_of value) w → walk_marks (marks_in list) first ≡ inside (walk (expression_of e)) w
marked_walked e v b value list w first is same items before =
    ap (walk_marks (marks_in list)) (before ∙ ap (λ z. walk (expression_of z) w) same)
    ∙ ap (λ xs. walk_marks (marks_in xs) (walk (expression_of b.value) w)) items
    ∙ sym (ap (λ z. inside (walk (expression_of z)) w) is ∙ ap (λ ms. inside (walk (c.Marked ms (expression_of b.value))) w) (marks_are v))

-- what is inside of the name of a type
abbrev pub walk_name : TypeName → Walked → Walked
walk_name n w = walk_specifiers (specifiers_of n.specifiers) (walk_declarator (declarator_of n.declarator) w)

pub sizeof_walked : (e : Expr) (b : Box TypeName) (n : TypeName) (w : Walked) → e ≡ variant.SizeofType b → n ≡ b.value → walk_name n w ≡ inside (walk (expression_of e)) w
sizeof_walked e b n w is same =
    let s = b.value.specifiers in
    let d = b.value.declarator in
    ap (λ (m : TypeName). walk_name m w) same
    ∙ sym (ap (λ z. inside (walk (expression_of z)) w) is ∙ type_name_is s.storage s.inline s.noreturn s.quals s.types d.name d.parts (λ x y. inside (walk (c.SizeofType x y)) w))

pub cast_walked : (e : Expr) (b : Box TypeName) (o : Box Expr) (n : TypeName) (operand : Expr) (w first : Walked) → e ≡ variant.Cast b o → n ≡ b.value → operand ≡ o.value
    → first ≡ walk (expression_of operand) w → walk_name n first ≡ inside (walk (expression_of e)) w
cast_walked e b o n operand w first is same inner before =
    let s = b.value.specifiers in
    let d = b.value.declarator in
    ap (walk_name n) (before ∙ ap (λ z. walk (expression_of z) w) inner)
    ∙ ap (λ (m : TypeName). walk_name m (walk (expression_of o.value) w)) same
    ∙ sym (ap (λ z. inside (walk (expression_of z)) w) is ∙ type_name_is s.storage s.inline s.noreturn s.quals s.types d.name d.parts (λ x y. inside (walk (c.Cast x y (expression_of o.value))) w))

-- ---- types and declarators

pub struct_walked : (k : TypeSpecifier) (tag : Option (List ℕ)) (v : Vec Member) (list : List Member) (w : Walked) → k ≡ kind.Struct tag v → list ≡ v.items → walk_members (members_in list) w ≡ walk_type (type_of k) w
struct_walked k tag v list w is items =
    ap (λ xs. walk_members (members_in xs) w) items ∙ sym (ap (λ z. walk_type (type_of z) w) is ∙ ap (λ xs. walk_type (c.Struct tag xs) w) (members_are v))

pub enum_walked : (k : TypeSpecifier) (tag : Option (List ℕ)) (v : Vec Enumerator) (list : List Enumerator) (w : Walked) → k ≡ kind.Enum tag v → list ≡ v.items → walk_enumerators (enumerators_in list) w ≡ walk_type (type_of k) w
enum_walked k tag v list w is items =
    ap (λ xs. walk_enumerators (enumerators_in xs) w) items ∙ sym (ap (λ z. walk_type (type_of z) w) is ∙ ap (λ xs. walk_type (c.Enum tag xs) w) (enumerators_are v))

-- a part before others
pub part_first : (p : DeclaratorPart) (rest : c.Parts) (w : Walked) → walk_parts (part_before p rest) w ≡ walk_parts (part_before p c.no_parts) (walk_parts rest w)
part_first (block.Pointer q) rest w = refl
part_first (block.Array' length) rest w = refl
part_first (block.Function parameters) rest w = refl

pub walked_part : (list : List DeclaratorPart) (at : ℕ) (p : DeclaratorPart) (w now next : Walked) → 0 < at → at ≤ length list → p ≡ get_or list (at - 1) p → now ≡ walk_parts (parts_in (drop at list)) w
    → next ≡ walk_parts (part_before p c.no_parts) now → next ≡ walk_parts (parts_in (drop (at - 1) list)) w
walked_part list at p w now next some within is before one =
    let k = at - 1 in
    let more : suc k ≡ at = omega arith in
    let inside : k < length list = omega arith in
    let split : drop k list ≡ p ∷ drop at list = drop-cons list k p inside ∙ ap (λ x. x ∷ drop (suc k) list) (sym is) ∙ ap (λ n. p ∷ drop n list) more in
    one ∙ ap (walk_parts (part_before p c.no_parts)) before
    ∙ sym (part_first p (parts_in (drop at list)) w)
    ∙ sym (ap (λ xs. walk_parts (parts_in xs) w) split)

pub parameters_walked : (p : Parameters) (v : Vec Parameter) (list : List Parameter) (w : Walked) → (p ≡ listing.Listed v) ⊎ (p ≡ listing.Open v) → list ≡ v.items
    → walk_parameter_list (parameter_list_in list) w ≡ walk_parameters (parameters_of p) w
parameters_walked p v list w (inl e) items =
    ap (λ xs. walk_parameter_list (parameter_list_in xs) w) items ∙ sym (ap (λ z. walk_parameters (parameters_of z) w) e ∙ ap (λ xs. walk_parameters (c.Listed xs) w) (parameters_are v))
parameters_walked p v list w (inr e) items =
    ap (λ xs. walk_parameter_list (parameter_list_in xs) w) items ∙ sym (ap (λ z. walk_parameters (parameters_of z) w) e ∙ ap (λ xs. walk_parameters (c.Open xs) w) (parameters_are v))
