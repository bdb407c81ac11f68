-- What an expression with its marks is as a constant it is without them.
use Rattle.std.proofs.Common.{◌≡◌, refl, ap, subst, ◌∙◌, inl, inr, ℕ, ℤ, pos, Bool, true, false, ◌&&◌, if◌then◌else◌, List, [], ◌∷◌, ◌++◌, length, Option, Some, None}
use Rattle.std.specs.Prelude.{◌-ℤ◌, option_and_then}
use Rattle.lt_model.specs.declared.scalar.DataModel.{DataModel}
use Rattle.lt_model.specs.declared.scalar.Scalar.{Scalar}
use Rattle.lt_model.specs.declared.scalar.Scalar.TheVariants as S
use Rattle.lt_model.specs.declared.operator.Op.{Op}
use Rattle.lt_model.specs.declared.operator.Op.TheVariants as O
use Rattle.lt_model.specs.Conversions.{promoted}
use Rattle.lt_tree.specs.declared.expression.UnaryOp.{UnaryOp}
use Rattle.lt_tree.specs.declared.expression.UnaryOp.TheVariants as unary
use Rattle.lt_tree.specs.declared.expression.LogicalOp.{LogicalOp}
use Rattle.lt_tree.specs.Tree as c
use Rattle.lt_tree.specs.Typing.Types.{CType, Num, Pointer, Function, is_pointer, is_array, target_of, unqualified}
use Rattle.lt_tree.specs.Typing.Extents.{Placed, is_complete}
use Rattle.lt_tree.specs.Typing.Constants.{Constancy, varying, faulty, number, null_constant, null_address, address, is_form, is_true, converted, applied, operated, negated, connected, chosen, TypedConstant, constant_of}
use Rattle.lt_tree.specs.Typing.Rules.{Rule, least, bad_address}
use Rattle.lt_tree.specs.Typing.TypedTree as e
use Rattle.lt_tree.specs.Typing.TypedTree.{Place, When, before, after, type_at}
use Rattle.lt_tree.specs.Typing.Entities.{Known, Entity, an_object, a_function, a_typedef, an_enumerator, Label, meaning_of}
use Rattle.lt_tree.specs.Typing.Operands.{are_integers, points_to}
use Rattle.lt_tree.specs.Typing.Steps.{Outcome, Goes, Breaks, goes_on, unless_broken, marked_again}
use Rattle.lt_tree.specs.Typing.Expressions.{Typed, Form, a_value, a_place, a_designator, Use, as_value, as_truth, as_place, as_callee, own_type, value_at, value_in, varies, nothing, placed, as_it_is_read, used, fact_of, Judged, judgement, faults_of_any, finish, constancy_as_number, constancy_to, scalar_in}
use Rattle.lt_tree.specs.Typing.Operations.{judge_name, judge_constant, judge_plus, judge_minus, judge_complement, judge_not, judge_address_of, judge_dereference, judge_step, judge_size, judge_part, judge_member, judge_arrow, judge_index, judge_function, judge_call, judge_cast, member_in, target_in, constant_address}
use Rattle.lt_tree.specs.Typing.BinaryOperations.{operation_type, right_type, on_integers, on_pointers, moved, distance, settles, judge_binary, judge_logical, chosen_type, judge_conditional, judge_assign, judge_update, judge_assignment, judge_comma}
use Rattle.lt_tree.specs.Typing.MarkRules.{label_of, judge_decide, inside_mark, inside_after, judge_after, judge_marked}
use Rattle.lt_tree.specs.Typing.NodeEnds.{text_at, judge_unary, operand_of, also}
use Rattle.lt_tree.specs.Typing.ExpressionTyping.{expression, expressions, marks, specifiers, declarator}
use Rattle.lt_tree.specs.Typing.Specifying.{elsewhere}
use Rattle.lt_tree.specs.Typing.Declarators.{setting_in_sizeof, type_name_faults}
use Rattle.lt_typed_nodes.specs.Laws.{StaysConstant, ConstantsStay}
use Rattle.lt_typed_nodes.specs.Coming.{entered, unmarked_here}

-- ---- operations on constants

one : (f : Constancy → Constancy) {a b : Constancy} → f varying ≡ varying → StaysConstant a b → StaysConstant (f a) (f b)
one f none (inl is) = inl (ap f is ∙ none)
one f none (inr same) = inr (ap f same)

two : (f : Constancy → Constancy → Constancy) {a b x y : Constancy} → ((c : Constancy) → f varying c ≡ varying) → ((c : Constancy) → f c varying ≡ varying)
    → StaysConstant a b → StaysConstant x y → StaysConstant (f a x) (f b y)
two f {a} {b} {x} {y} left right (inl is) q = inl (ap (λ c. f c x) is ∙ left x)
two f {a} {b} {x} {y} left right (inr same) (inl is) = inl (ap (f a) is ∙ right a)
two f {a} {b} {x} {y} left right (inr same) (inr alike) = inr (ap (λ c. f c x) same ∙ ap (f b) alike)

applied_right : (m : DataModel) (op : Op) (s : Scalar) (a : Constancy) → applied m op s a varying ≡ varying
applied_right m op s varying = refl
applied_right m op s faulty = refl
applied_right m op s (number z) = refl
applied_right m op s null_constant = refl
applied_right m op s null_address = refl
applied_right m op s (address object offset) = refl

connected_right : (ends : ℤ → Bool) (a : Constancy) → connected ends a varying ≡ varying
connected_right ends varying = refl
connected_right ends faulty = refl
connected_right ends (number z) = refl
connected_right ends null_constant = refl
connected_right ends null_address = refl
connected_right ends (address object offset) = refl

and_none : (b : Bool) → (b && false) ≡ false
and_none true = refl
and_none false = refl

chosen_first : (test b : Constancy) → chosen test varying b ≡ varying
chosen_first varying b = refl
chosen_first faulty b = refl
chosen_first (number z) b = refl
chosen_first null_constant b = refl
chosen_first null_address b = refl
chosen_first (address object offset) b = refl

chosen_second : (test a : Constancy) → chosen test a varying ≡ varying
chosen_second varying a = refl
chosen_second faulty a = ap (λ b. if b then faulty else varying) (and_none (is_form a))
chosen_second (number z) a = ap (λ b. if b then (if is_true z then a else varying) else varying) (and_none (is_form a))
chosen_second null_constant a = refl
chosen_second null_address a = refl
chosen_second (address object offset) a = refl

choice : {p q a b x y : Constancy} → StaysConstant p q → StaysConstant a b → StaysConstant x y → StaysConstant (chosen p a x) (chosen q b y)
choice {p} {q} {a} {b} {x} {y} (inl is) s t = inl (ap (λ test. chosen test a x) is)
choice {p} {q} {a} {b} {x} {y} (inr same) s t = second (two (chosen p) (chosen_first p) (chosen_second p) s t)
  where
    second : StaysConstant (chosen p a x) (chosen p b y) → StaysConstant (chosen p a x) (chosen q b y)
    second (inl is) = inl is
    second (inr alike) = inr (alike ∙ ap (λ test. chosen test b y) same)

as_number : (m : DataModel) (s : Scalar) → constancy_as_number m s varying ≡ varying
as_number m S.Bool = refl
as_number m _ = refl

as_type : (m : DataModel) (t : CType) → constancy_to m t varying ≡ varying
as_type m (Num s) = as_number m s
as_type m (Pointer t) = refl
as_type m _ = refl

-- ---- expressions

abbrev pub Stays : Typed → Type 0
Stays x = StaysConstant x.constancy x.erased

-- what is found stays constant
pub data Keeps : Outcome Typed → Type 0 where
  kept : {x : Typed} {known : Known} → Stays x → Keeps (Goes x known)
  stopped : {rule : Rule} {node : ℕ} → Keeps (Breaks rule node)

read_if : (keeps : Bool) (place : Place) (x : Typed) → Stays x
    → Stays (if keeps then record x { form = a_value (value_at (type_at place) place) } else varies (value_at (type_at place) place))
read_if true place x stays = stays
read_if false place x stays = inl refl

read_by : (x : Typed) (form : Form) → Stays x → Stays (as_it_is_read (record x { form = form }))
read_by x (a_value v) stays = stays
read_by x (a_place place) stays = read_if (is_array (type_at place)) place (record x { form = a_place place }) stays
read_by x (a_designator name t) stays = stays

pub used_as : (role : Use) (x : Typed) → Stays x → Stays (used role x)
used_as as_value x stays = read_by x x.form stays
used_as as_truth x stays = read_by x x.form stays
used_as as_callee x stays = read_by x x.form stays
used_as as_place x stays = stays

ended_by : (node : ℕ) (role : Use) (rule : Option Rule) (y : Typed) (known : Known) → Stays y
    → Keeps (goes_on (unless_broken rule node known) (λ u k. Goes (used role y) (record k { facts = k.facts ++ fact_of node y ∷ [] })))
ended_by node role None y known stays = kept (used_as role y stays)
ended_by node role (Some rule) y known stays = stopped

ended : (node : ℕ) (role : Use) (it : Judged) (known : Known) → Stays it.typed → Keeps (finish node role it known)
unfolding finish
ended node role it known stays = ended_by node role (least (it.faults ++ faults_of_any known.structs role it.typed)) it.typed known stays

-- behind an operand that stays constant, and behind anything
behind : {o : Outcome Typed} {rest : Typed → Known → Outcome Typed} → Keeps o → ((x : Typed) (k : Known) → Stays x → Keeps (rest x k)) → Keeps (goes_on o rest)
behind (kept {x = x} {known = k} stays) f = f x k stays
behind stopped f = stopped

past : {A : Type 0} (o : Outcome A) {rest : A → Known → Outcome Typed} → ((a : A) (k : Known) → Keeps (rest a k)) → Keeps (goes_on o rest)
past (Goes a k) f = f a k
past (Breaks rule node) f = stopped

-- the same with labels added
labelled : {o : Outcome Typed} (labels : Known → List Label) → Keeps o → Keeps (goes_on o (λ x k. Goes x (record k { labels = labels k })))
labelled labels (kept stays) = kept stays
labelled labels stopped = stopped

-- ---- what operators make of constants

of_name : (role : Use) (name : List ℕ) (found : Option Entity) (known : Known) → Stays (judge_name role name found known).typed
unfolding judge_name
of_name role name None known = inr refl
of_name role name (Some (a_typedef t)) known = inr refl
of_name role name (Some (an_object n is_register)) known = inr refl
of_name role name (Some a_function) known = inl refl
of_name role name (Some (an_enumerator z)) known = inr refl

of_constant : (found : Option TypedConstant) → Stays (judge_constant found).typed
unfolding judge_constant
of_constant None = inr refl
of_constant (Some c) = inr refl

of_text : (known : Known) (bytes : List ℕ) (n : ℕ) → Stays (text_at known bytes n).typed
unfolding text_at
of_text known bytes n = inr refl

of_index : (x y : Typed) (known : Known) → Stays (judge_index x y known).typed
unfolding judge_index
of_index x y known = inr refl

of_function : (known : Known) (name : List ℕ) (t : CType) (xs : List Typed) → Stays (judge_function known name t xs).typed
unfolding judge_function
of_function known name (Function result ts dots) xs = inl refl
of_function known name _ xs = inr refl

of_call : (f : Typed) (form : Form) (xs : List Typed) (known : Known) → Stays (judge_call (record f { form = form }) xs known).typed
unfolding judge_call
of_call f (a_value v) xs known = inr refl
of_call f (a_place place) xs known = inr refl
of_call f (a_designator name t) xs known = of_function known name t xs

of_part : (x : Typed) (found : Option Placed) → Stays (judge_part x found).typed
of_part x None = inr refl
of_part x (Some member) = inr refl

of_member : (x : Typed) (name : List ℕ) (known : Known) → Stays (judge_member x name known).typed
unfolding judge_member
of_member x name known = of_part x (member_in known (own_type x) name)

of_arrow : (x : Typed) (name : List ℕ) (known : Known) → Stays (judge_arrow x name known).typed
unfolding judge_arrow
of_arrow x name known = of_part (placed (e.Pointed (target_in x) (value_in x)) (constant_address x.constancy)) (option_and_then (λ t. member_in known t name) (target_of (own_type x)))

of_step : (gives : When) (op : Op) (x : Typed) (known : Known) → Stays (judge_step gives op x known).typed
unfolding judge_step
of_step gives op x known = inl refl

of_size : (t : CType) (known : Known) → Stays (judge_size t known).typed
unfolding judge_size
of_size t known = inr refl

of_cast : (t : CType) (x : Typed) (known : Known) → Stays x → Stays (judge_cast t x known).typed
unfolding judge_cast
of_cast t x known stays = one (constancy_to known.model (unqualified t)) (as_type known.model (unqualified t)) stays

either : (b : Bool) (p q : Judged) → Stays p.typed → Stays q.typed → Stays (if b then p else q).typed
either true p q first second = first
either false p q first second = second

of_unary : (op : UnaryOp) (x : Typed) (known : Known) → Stays x → Stays (judge_unary op x known).typed
unfolding judge_address_of judge_dereference judge_plus judge_minus judge_complement judge_not
of_unary unary.AddressOf x known stays = inr refl
of_unary unary.Dereference x known stays =
    either (points_to (is_complete known.structs) (own_type x)) (judgement [] (placed (e.Pointed (target_in x) (value_in x)) (constant_address x.constancy))) (judgement (bad_address ∷ []) nothing) (inr refl) (inr refl)
of_unary unary.Plus x known stays = one (converted known.model (promoted known.model (scalar_in x))) refl stays
of_unary unary.Minus x known stays =
    let s : Scalar = promoted known.model (scalar_in x) in one (λ c. applied known.model O.Sub s (number (pos 0)) (converted known.model s c)) refl stays
of_unary unary.Complement x known stays =
    let s : Scalar = promoted known.model (scalar_in x) in one (λ c. applied known.model O.Xor s (converted known.model s (number (pos 0 -ℤ pos 1))) (converted known.model s c)) refl stays
of_unary unary.Not x known stays = one negated refl stays

of_integers : (known : Known) (op : Op) (x y : Typed) → Stays x → Stays y → Stays (on_integers known op x y)
of_integers known op x y p q =
    two (operated known.model op s r) (λ c. refl) (λ c. applied_right known.model op s (converted known.model s c)) p q
  where
    s : Scalar
    s = operation_type known op x y

    r : Scalar
    r = right_type known op x y

distance_or_moved : (b : Bool) (known : Known) (x y : Typed) → Stays (if b then distance known x y else moved known O.Sub x y)
distance_or_moved true known x y = inl refl
distance_or_moved false known x y = inr refl

of_pointers : (known : Known) (op : Op) (x y : Typed) → Stays (on_pointers known op x y)
of_pointers known O.Sub x y = distance_or_moved (is_pointer (own_type x) && is_pointer (own_type y)) known x y
of_pointers known O.Add x y = inr refl
of_pointers known op x y = inl refl

choose : (b : Bool) (x y : Typed) → Stays x → Stays y → Stays (if b then x else y)
choose true x y p q = p
choose false x y p q = q

of_binary : (op : Op) (x y : Typed) (known : Known) → Stays x → Stays y → Stays (judge_binary op x y known).typed
unfolding judge_binary
of_binary op x y known p q = choose (are_integers (own_type x) (own_type y)) (on_integers known op x y) (on_pointers known op x y) (of_integers known op x y p q) (of_pointers known op x y)

of_logical : (op : LogicalOp) (x y : Typed) → Stays x → Stays y → Stays (judge_logical op x y).typed
unfolding judge_logical
of_logical op x y p q = two (connected (settles op)) (λ c. refl) (connected_right (settles op)) p q

of_conditional : (test x y : Typed) (known : Known) → Stays test → Stays x → Stays y → Stays (judge_conditional test x y known).typed
unfolding judge_conditional
of_conditional test x y known p q r = one (constancy_to known.model (chosen_type known x y)) (as_type known.model (chosen_type known x y)) (choice p q r)

of_assignment : (op : Option Op) (x y : Typed) (known : Known) → Stays (judge_assignment op x y known).typed
unfolding judge_assign judge_update
of_assignment None x y known = inl refl
of_assignment (Some op) x y known = inl refl

of_comma : (xs : List Typed) → Stays (judge_comma xs).typed
unfolding judge_comma
of_comma xs = inl refl

of_marked : (ms : e.Marks) (x : Typed) → Stays (judge_marked ms x).typed
unfolding judge_marked
of_marked ms x = inl refl

of_decide : (role : Use) (x : Typed) (when_true when_false tag : List ℕ) (known : Known) → Stays (judge_decide role x when_true when_false tag known).typed
unfolding judge_decide
of_decide role x when_true when_false tag known = inl refl

of_after : (role : Use) (x : Typed) (id tag : List ℕ) (known : Known) → Stays (judge_after role x id tag known).typed
unfolding judge_after
of_after role x id tag known = inl refl

-- ---- all expressions

pub of_expression : (it : c.Expression) (role : Use) (known : Known) → Keeps (expression it role known)
of_expression (c.Name name) role known = ended known.next role _ (entered known) (of_name role name (meaning_of name known) (entered known))
of_expression (c.Constant text) role known = ended known.next role _ (entered known) (of_constant (constant_of known.model text))
of_expression (c.Text bytes) role known = ended known.next role _ _ (of_text (entered known) bytes (length known.objects))
of_expression (c.Index base index) role known =
    past (expression base as_value (entered known)) (λ x k. past (expression index as_value k) (λ y k. ended known.next role (judge_index x y k) k (of_index x y k)))
of_expression (c.Call callee arguments) role known =
    past (expression callee as_callee (entered known)) (λ f k. past (expressions arguments k) (λ xs k. ended known.next role (judge_call f xs k) k (of_call f f.form xs k)))
of_expression (c.Member base name) role known = past (expression base as_place (entered known)) (λ x k. ended known.next role (judge_member x name k) k (of_member x name k))
of_expression (c.Arrow pointer name) role known = past (expression pointer as_value (entered known)) (λ x k. ended known.next role (judge_arrow x name k) k (of_arrow x name k))
of_expression (c.PostInc target) role known = past (expression target as_place (entered known)) (λ x k. ended known.next role (judge_step before O.Add x k) k (of_step before O.Add x k))
of_expression (c.PostDec target) role known = past (expression target as_place (entered known)) (λ x k. ended known.next role (judge_step before O.Sub x k) k (of_step before O.Sub x k))
of_expression (c.PreInc target) role known = past (expression target as_place (entered known)) (λ x k. ended known.next role (judge_step after O.Add x k) k (of_step after O.Add x k))
of_expression (c.PreDec target) role known = past (expression target as_place (entered known)) (λ x k. ended known.next role (judge_step after O.Sub x k) k (of_step after O.Sub x k))
of_expression (c.Unary op target) role known = behind (of_expression target (operand_of op) (entered known)) (λ x k stays. ended known.next role (judge_unary op x k) k (of_unary op x k stays))
of_expression (c.SizeofExpr target) role known =
    past (marked_again known.is_unmarked (expression target as_place (unmarked_here (entered known)))) (λ x k. ended known.next role (judge_size (own_type x) k) k (of_size (own_type x) k))
of_expression (c.SizeofType s d) role known =
    past (specifiers s (setting_in_sizeof d) (entered known))
    (λ it k. past (declarator d it false (λ name known b. type_name_faults b) k) (λ t k. ended known.next role (also t.faults (judge_size t.type k)) k (of_size t.type k)))
of_expression (c.Cast s d target) role known =
    past (specifiers s elsewhere (entered known)) (λ it k. past (declarator d it false (λ name known b. type_name_faults b) k)
    (λ t k. behind (of_expression target as_value k) (λ x k stays. ended known.next role (also t.faults (judge_cast t.type x k)) k (of_cast t.type x k stays))))
of_expression (c.Binary op left right) role known =
    behind (of_expression left as_value (entered known)) (λ x k p. behind (of_expression right as_value k) (λ y k q. ended known.next role (judge_binary op x y k) k (of_binary op x y k p q)))
of_expression (c.Logical op left right) role known =
    behind (of_expression left as_truth (entered known)) (λ x k p. behind (of_expression right as_truth k) (λ y k q. ended known.next role (judge_logical op x y) k (of_logical op x y p q)))
of_expression (c.Conditional test left right) role known =
    behind (of_expression test as_truth (entered known)) (λ t k o. behind (of_expression left as_value k)
    (λ x k p. behind (of_expression right as_value k) (λ y k q. ended known.next role (judge_conditional t x y k) k (of_conditional t x y k o p q))))
of_expression (c.Assign op target value) role known =
    past (expression target as_place (entered known)) (λ x k. past (expression value as_value k) (λ y k. ended known.next role (judge_assignment op x y k) k (of_assignment op x y k)))
of_expression (c.Comma list) role known = past (expressions list (entered known)) (λ xs k. ended known.next role (judge_comma xs) k (of_comma xs))
of_expression (c.Marked ms value) role known =
    past (marks ms (entered known)) (λ typed k. past (expression value (inside_mark role) k) (λ x k. ended known.next role (judge_marked typed x) k (of_marked typed x)))
of_expression (c.Decide target when_true when_false tag) role known =
    past (expression target (inside_mark role) (entered known))
    (λ x k. labelled (λ it. it.labels ++ label_of when_true tag [] ∷ [] ++ label_of when_false tag [] ∷ []) (ended known.next role (judge_decide role x when_true when_false tag k) k (of_decide role x when_true when_false tag k)))
of_expression (c.After target id tag) role known =
    past (expression target (inside_after role) (entered known))
    (λ x k. labelled (λ it. it.labels ++ label_of id tag [] ∷ []) (ended known.next role (judge_after role x id tag k) k (of_after role x id tag k)))

stays_at : (behind : Known) (x : Typed) → Keeps (Goes x behind) → Stays x
stays_at behind x (kept stays) = stays

pub constants_stay : ConstantsStay
constants_stay it role known behind x is = stays_at behind x (subst Keeps is (of_expression it role known))

-- ---- what is noted of them

noted_if : (keeps : Bool) (place : Place) (y : Typed)
    → let x = if keeps then record y { form = a_value (value_at (type_at place) place) } else varies (value_at (type_at place) place) in Stays x → StaysConstant x.constancy y.erased
noted_if true place y stays = stays
noted_if false place y stays = inl refl

noted_by : (y : Typed) (form : Form) → let x = as_it_is_read (record y { form = form }) in Stays x → StaysConstant x.constancy y.erased
noted_by y (a_value v) stays = stays
noted_by y (a_place place) stays = noted_if (is_array (type_at place)) place (record y { form = a_place place }) stays
noted_by y (a_designator name t) stays = stays

pub noted_as : (role : Use) (y : Typed) → Stays (used role y) → StaysConstant (used role y).constancy y.erased
noted_as as_value y stays = noted_by y y.form stays
noted_as as_truth y stays = noted_by y y.form stays
noted_as as_callee y stays = noted_by y y.form stays
noted_as as_place y stays = stays
