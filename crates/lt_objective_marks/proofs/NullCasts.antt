-- What is a null pointer constant is a cast of an integer constant, or such a cast with marks around it.
use Rattle.std.proofs.Common.{◌≡◌, refl, sym, ◌∙◌, ℕ, ℤ, pos, Bool, true, false, ◌&&◌, ◌||◌, if◌then◌else◌, List, [], ◌∷◌, length, Option, Some, None, Result, Ok, Err}
use Rattle.std.proofs.lemmas.Bool.{false≢true}
use Rattle.std.specs.Prelude.{◌-ℤ◌, option_and_then}
use Rattle.lt_model.specs.declared.scalar.DataModel.{DataModel}
use Rattle.lt_model.specs.declared.scalar.Scalar.{Scalar}
use Rattle.lt_model.specs.declared.scalar.Scalar.TheVariants as S
use Rattle.lt_model.specs.declared.operator.Op.{Op}
use Rattle.lt_model.specs.declared.operator.Op.TheVariants as O
use Rattle.lt_model.specs.declared.operator.Ub.{Ub}
use Rattle.lt_model.specs.Conversions.{promoted, usual_of}
use Rattle.lt_tree.specs.declared.expression.LogicalOp.{LogicalOp}
use Rattle.lt_tree.specs.declared.expression.UnaryOp.{UnaryOp}
use Rattle.lt_tree.specs.declared.expression.UnaryOp.TheVariants as unary
use Rattle.lt_tree.specs.Tree as c
use Rattle.lt_tree.specs.Typing.Types.{CType, Num, Pointer, Function, is_pointer, is_array, target_of}
use Rattle.lt_tree.specs.Typing.Extents.{Placed, is_complete}
use Rattle.lt_tree.specs.Typing.Constants.{Constancy, varying, faulty, number, null_constant, null_address, address, is_number, is_form, is_zero, is_true, value_or_fault, converted, applied, negated, connected, chosen, TypedConstant, constant_of}
use Rattle.lt_tree.specs.Typing.Rules.{bad_address}
use Rattle.lt_tree.specs.Typing.TypedTree as e
use Rattle.lt_tree.specs.Typing.TypedTree.{Place, When, before, after, type_at}
use Rattle.lt_tree.specs.Typing.Entities.{Known, Entity, an_object, a_function, a_typedef, an_enumerator, meaning_of}
use Rattle.lt_tree.specs.Typing.Operands.{are_integers, points_to}
use Rattle.lt_tree.specs.Typing.Steps.{Goes, marked_again}
use Rattle.lt_tree.specs.Typing.Expressions.{Typed, Form, a_value, a_place, a_designator, Use, as_value, as_truth, as_place, as_callee, own_type, value_at, value_in, varies, nothing, placed, as_it_is_read, used, Judged, judgement, finish, null_of, constancy_as_pointer, constancy_as_number, constancy_to, scalar_in}
use Rattle.lt_tree.specs.Typing.Operations.{judge_name, judge_constant, judge_plus, judge_minus, judge_complement, judge_not, judge_address_of, judge_dereference, judge_step, judge_size, judge_part, judge_member, judge_arrow, judge_index, judge_function, judge_call, member_in, target_in, constant_address}
use Rattle.lt_tree.specs.Typing.BinaryOperations.{on_integers, on_pointers, moved, distance, operation_type, right_type, settles, judge_binary, judge_logical, chosen_pointer, chosen_type, judge_conditional, judge_assign, judge_update, judge_assignment, judge_comma}
use Rattle.lt_tree.specs.Typing.NodeEnds.{text_at, judge_unary, operand_of, also}
use Rattle.lt_tree.specs.Typing.ExpressionTyping.{expression, expressions, marks, specifiers, declarator}
use Rattle.lt_tree.specs.Typing.Declarators.{setting_in_sizeof, type_name_faults}
use Rattle.lt_typed_nodes.specs.Coming.{entered, unmarked_here}
use Rattle.lt_objective_marks.proofs.Fitting.{is_at_most_address, Fits, Holds, held, ended, behind, past, addressed, constant_is, of_name, of_index, of_part, moved_is_address, of_expression}

abbrev pub is_null : Constancy → Bool
is_null null_constant = true
is_null _ = false

-- a cast, or something with marks around it
abbrev pub may_be_null : c.Expression → Bool
may_be_null (c.Cast s d operand) = true
may_be_null (c.Marked marks e) = true
may_be_null (c.Decide e when_true when_false tag) = true
may_be_null (c.After e id tag) = true
may_be_null _ = false

-- ---- constants that are no null pointers

-- that of an integer, if it has one
abbrev is_integral : Constancy → Bool
is_integral (number z) = true
is_integral faulty = true
is_integral varying = true
is_integral _ = false

integral_no_null : (c : Constancy) → is_integral c ≡ true → is_null c ≡ false
integral_no_null (number z) is = refl
integral_no_null faulty is = refl
integral_no_null varying is = refl
integral_no_null null_constant is = absurd cc
integral_no_null null_address is = absurd cc
integral_no_null (address object offset) is = absurd cc

address_no_null : (c : Constancy) → is_at_most_address c ≡ true → is_null c ≡ false
address_no_null varying is = refl
address_no_null (address object offset) is = refl
address_no_null (number z) is = absurd cc
address_no_null faulty is = absurd cc
address_no_null null_constant is = absurd cc
address_no_null null_address is = absurd cc

converted_integral : (m : DataModel) (s : Scalar) (c : Constancy) → is_integral (converted m s c) ≡ true
converted_integral m s (number z) = refl
converted_integral m s faulty = refl
converted_integral m s varying = refl
converted_integral m s null_constant = refl
converted_integral m s null_address = refl
converted_integral m s (address object offset) = refl

fault_integral : (r : Result ℤ Ub) → is_integral (value_or_fault r) ≡ true
fault_integral (Ok z) = refl
fault_integral (Err kind) = refl

faulty_integral : (b : Bool) → is_integral (if b then faulty else varying) ≡ true
faulty_integral true = refl
faulty_integral false = refl

applied_integral : (m : DataModel) (op : Op) (s : Scalar) (a b : Constancy) → is_integral (applied m op s a b) ≡ true
applied_integral m op s (number a) (number b) = fault_integral _
applied_integral m op s (number a) varying = refl
applied_integral m op s (number a) faulty = refl
applied_integral m op s (number a) null_constant = refl
applied_integral m op s (number a) null_address = refl
applied_integral m op s (number a) (address object offset) = refl
applied_integral m op s varying b = refl
applied_integral m op s faulty b = faulty_integral (is_form b)
applied_integral m op s null_constant b = refl
applied_integral m op s null_address b = refl
applied_integral m op s (address object offset) b = refl

negated_integral : (c : Constancy) → is_integral (negated c) ≡ true
negated_integral (number z) = refl
negated_integral faulty = refl
negated_integral varying = refl
negated_integral null_constant = refl
negated_integral null_address = refl
negated_integral (address object offset) = refl

settled_integral : (b : Bool) (c d : Constancy) → is_integral (if b then negated c else negated d) ≡ true
settled_integral true c d = negated_integral c
settled_integral false c d = negated_integral d

connected_if : (settles : ℤ → Bool) (z : ℤ) (b : Constancy) (form : Bool) → is_integral (if form then (if settles z then negated (negated (number z)) else negated (negated b)) else varying) ≡ true
connected_if settles z b true = settled_integral (settles z) (negated (number z)) (negated b)
connected_if settles z b false = refl

connected_integral : (settles : ℤ → Bool) (a b : Constancy) → is_integral (connected settles a b) ≡ true
connected_integral settles (number z) b = connected_if settles z b (is_form b)
connected_integral settles faulty b = faulty_integral (is_form b)
connected_integral settles varying b = refl
connected_integral settles null_constant b = refl
connected_integral settles null_address b = refl
connected_integral settles (address object offset) b = refl

-- ---- conversions

number_integral : (m : DataModel) (s : Scalar) (c : Constancy) → is_integral (constancy_as_number m s c) ≡ true
number_integral m s (number z) = refl
number_integral m s faulty = refl
number_integral m S.Bool varying = refl
number_integral m S.Bool null_constant = refl
number_integral m S.Bool null_address = refl
number_integral m S.Bool (address object offset) = refl
number_integral m _ varying = refl
number_integral m _ null_constant = refl
number_integral m _ null_address = refl
number_integral m _ (address object offset) = refl

zero_null : (t : CType) (zero : Bool) → is_null (if zero then null_of t else varying) ≡ true → zero ≡ true
zero_null t true is = refl
zero_null t false is = absurd (false≢true is)

pointer_null : (t : CType) (c : Constancy) → is_null (constancy_as_pointer t c) ≡ true → is_zero c ≡ true
pointer_null t (number z) is = zero_null t (is_zero (number z)) is
pointer_null t varying is = absurd (false≢true is)
pointer_null t faulty is = absurd (false≢true is)
pointer_null t null_constant is = absurd (false≢true is)
pointer_null t null_address is = absurd (false≢true is)
pointer_null t (address object offset) is = absurd (false≢true is)

-- what is a null pointer constant once it is converted to a type is the integer constant 0, and the type is that of a pointer
pub conversion_null : (m : DataModel) (t : CType) (c : Constancy) → is_null (constancy_to m t c) ≡ true → (is_pointer t ≡ true) × (is_zero c ≡ true)
conversion_null m (Num s) c is = absurd (false≢true (sym (integral_no_null (constancy_as_number m s c) (number_integral m s c)) ∙ is))
conversion_null m (Pointer t) c is = (refl, pointer_null (Pointer t) c is)
conversion_null m _ c is = absurd (false≢true is)

-- ---- choices

both_forms : (b c : Bool) (x : Constancy) → is_number (if b && c then x else varying) ≡ true → (b ≡ true) × (c ≡ true)
both_forms true true x is = (refl, refl)
both_forms true false x is = absurd (false≢true is)
both_forms false c x is = absurd (false≢true is)

faulty_no_number : (b : Bool) → is_number (if b then faulty else varying) ≡ false
faulty_no_number true = refl
faulty_no_number false = refl

zero_number : (c : Constancy) → is_zero c ≡ true → is_number c ≡ true
zero_number (number z) is = refl
zero_number varying is = absurd (false≢true is)
zero_number faulty is = absurd (false≢true is)
zero_number null_constant is = absurd (false≢true is)
zero_number null_address is = absurd (false≢true is)
zero_number (address object offset) is = absurd (false≢true is)

chosen_forms : (a b c : Constancy) → is_number (chosen a b c) ≡ true → (is_form b ≡ true) × (is_form c ≡ true)
chosen_forms (number z) b c is = both_forms (is_form b) (is_form c) (if is_true z then b else c) is
chosen_forms faulty b c is = absurd (false≢true (sym (faulty_no_number (is_form b && is_form c)) ∙ is))
chosen_forms varying b c is = absurd (false≢true is)
chosen_forms null_constant b c is = absurd (false≢true is)
chosen_forms null_address b c is = absurd (false≢true is)
chosen_forms (address object offset) b c is = absurd (false≢true is)

choice_by : (integers p q : Bool) (s : Scalar) (t u : CType) → p ≡ false → q ≡ false → is_pointer u ≡ false → is_pointer (if integers then Num s else (if p || q then t else u)) ≡ false
choice_by true p q s t u f g h = refl
choice_by false false false s t u f g h = h
choice_by false true q s t u f g h = absurd cc
choice_by false false true s t u f g h = absurd cc

by_cases : (b : Bool) → (b ≡ true → ⊥) → b ≡ false
by_cases true h = absurd (h refl)
by_cases false h = refl

-- ---- what operators make

abbrev NotNull : Typed → Type 0
NotNull x = is_null x.erased ≡ false

read_if : (keeps : Bool) (place : Place) (x : Typed) → NotNull x → NotNull (if keeps then record x { form = a_value (value_at (type_at place) place) } else varies (value_at (type_at place) place))
read_if true place x h = h
read_if false place x h = refl

read_by : (x : Typed) (form : Form) → NotNull x → NotNull (as_it_is_read (record x { form = form }))
read_by x (a_value v) h = h
read_by x (a_place place) h = read_if (is_array (type_at place)) place (record x { form = a_place place }) h
read_by x (a_designator name t) h = h

used_no_null : (role : Use) (x : Typed) → NotNull x → NotNull (used role x)
used_no_null as_value x h = read_by x x.form h
used_no_null as_truth x h = read_by x x.form h
used_no_null as_callee x h = read_by x x.form h
used_no_null as_place x h = h

none : (node : ℕ) (role : Use) (it : Judged) (known : Known) → (it.faults ≡ [] → NotNull it.typed) → Holds NotNull (finish node role it known)
none node role it known h = ended NotNull node role it known (λ faults. used_no_null role it.typed (h faults))

-- a place
place_no_null : (x : Typed) → Fits x → (place : Place) → x.form ≡ a_place place → NotNull x
place_no_null x fits place is = address_no_null x.erased (fits.place (rw is refl)).1

of_object : (role : Use) (name : List ℕ) (found : Option Entity) (known : Known) → NotNull (judge_name role name found known).typed
unfolding judge_name
of_object role name None known = refl
of_object role name (Some (a_typedef t)) known = refl
of_object role name (Some (an_object n is_register)) known = place_no_null _ (of_name role name (Some (an_object n is_register)) known) _ refl
of_object role name (Some a_function) known = refl
of_object role name (Some (an_enumerator z)) known = refl

of_constant : (found : Option TypedConstant) → NotNull (judge_constant found).typed
unfolding judge_constant
of_constant None = refl
of_constant (Some it) = refl

of_text : (known : Known) (bytes : List ℕ) (n : ℕ) → NotNull (text_at known bytes n).typed
unfolding text_at
of_text known bytes n = refl

of_element : (x y : Typed) (known : Known) → NotNull (judge_index x y known).typed
unfolding judge_index
of_element x y known = place_no_null _ (of_index x y known) _ refl

of_function : (known : Known) (name : List ℕ) (t : CType) (xs : List Typed) → NotNull (judge_function known name t xs).typed
unfolding judge_function
of_function known name (Function result ts dots) xs = refl
of_function known name _ xs = refl

of_call : (f : Typed) (form : Form) (xs : List Typed) (known : Known) → NotNull (judge_call (record f { form = form }) xs known).typed
unfolding judge_call
of_call f (a_value v) xs known = refl
of_call f (a_place place) xs known = refl
of_call f (a_designator name t) xs known = of_function known name t xs

of_a_part : (x : Typed) (found : Option Placed) → NotNull (judge_part x found).typed
of_a_part x None = refl
of_a_part x (Some member) = place_no_null _ (of_part x (Some member)) _ refl

of_member : (x : Typed) (name : List ℕ) (known : Known) → NotNull (judge_member x name known).typed
unfolding judge_member
of_member x name known = of_a_part x (member_in known (own_type x) name)

of_arrow : (x : Typed) (name : List ℕ) (known : Known) → NotNull (judge_arrow x name known).typed
unfolding judge_arrow
of_arrow x name known = of_a_part (placed (e.Pointed (target_in x) (value_in x)) (constant_address x.constancy)) (option_and_then (λ t. member_in known t name) (target_of (own_type x)))

of_step : (gives : When) (op : Op) (x : Typed) (known : Known) → NotNull (judge_step gives op x known).typed
unfolding judge_step
of_step gives op x known = refl

of_size : (t : CType) (known : Known) → NotNull (judge_size t known).typed
unfolding judge_size
of_size t known = refl

either : (b : Bool) (p q : Judged) → NotNull p.typed → NotNull q.typed → NotNull (if b then p else q).typed
either true p q first second = first
either false p q first second = second

of_address : (x : Typed) → Fits x → (judge_address_of x).faults ≡ [] → NotNull (judge_address_of x).typed
unfolding judge_address_of
of_address x fits faults = address_no_null x.constancy (addressed x fits faults)

of_unary : (op : UnaryOp) (x : Typed) (known : Known) → Fits x → (judge_unary op x known).faults ≡ [] → NotNull (judge_unary op x known).typed
unfolding judge_dereference judge_plus judge_minus judge_complement judge_not
of_unary unary.AddressOf x known fits faults = of_address x fits faults
of_unary unary.Dereference x known fits faults =
    either (points_to (is_complete known.structs) (own_type x)) (judgement [] (placed (e.Pointed (target_in x) (value_in x)) (constant_address x.constancy))) (judgement (bad_address ∷ []) nothing)
    (address_no_null (constant_address x.constancy) (constant_is x.constancy)) refl
of_unary unary.Plus x known fits faults = integral_no_null _ (converted_integral known.model (promoted known.model (scalar_in x)) x.erased)
of_unary unary.Minus x known fits faults =
    let s = promoted known.model (scalar_in x) in integral_no_null _ (applied_integral known.model O.Sub s (number (pos 0)) (converted known.model s x.erased))
of_unary unary.Complement x known fits faults =
    let s = promoted known.model (scalar_in x) in integral_no_null _ (applied_integral known.model O.Xor s (converted known.model s (number (pos 0 -ℤ pos 1))) (converted known.model s x.erased))
of_unary unary.Not x known fits faults = integral_no_null _ (negated_integral x.erased)

choose : (b : Bool) (x y : Typed) → NotNull x → NotNull y → NotNull (if b then x else y)
choose true x y p q = p
choose false x y p q = q

of_integers : (known : Known) (op : Op) (x y : Typed) → NotNull (on_integers known op x y)
of_integers known op x y =
    integral_no_null _ (applied_integral known.model op (operation_type known op x y) (converted known.model (operation_type known op x y) x.erased) (converted known.model (right_type known op x y) y.erased))

of_moved : (known : Known) (op : Op) (x y : Typed) → NotNull (moved known op x y)
of_moved known op x y = address_no_null (moved known op x y).erased (moved_is_address known op x y)

of_pointers : (known : Known) (op : Op) (x y : Typed) → NotNull (on_pointers known op x y)
of_pointers known O.Sub x y = choose (is_pointer (own_type x) && is_pointer (own_type y)) (distance known x y) (moved known O.Sub x y) refl (of_moved known O.Sub x y)
of_pointers known O.Add x y = of_moved known O.Add x y
of_pointers known op x y = refl

of_binary : (op : Op) (x y : Typed) (known : Known) → NotNull (judge_binary op x y known).typed
unfolding judge_binary
of_binary op x y known = choose (are_integers (own_type x) (own_type y)) (on_integers known op x y) (on_pointers known op x y) (of_integers known op x y) (of_pointers known op x y)

of_logical : (op : LogicalOp) (x y : Typed) → NotNull (judge_logical op x y).typed
unfolding judge_logical
of_logical op x y = integral_no_null _ (connected_integral (settles op) x.erased y.erased)

of_conditional : (test x y : Typed) (known : Known) → Fits x → Fits y → NotNull (judge_conditional test x y known).typed
unfolding judge_conditional
of_conditional test x y known p q = by_cases (is_null (constancy_to known.model (chosen_type known x y) (chosen test.erased x.erased y.erased))) (λ is.
    let it = conversion_null known.model (chosen_type known x y) (chosen test.erased x.erased y.erased) is in
    let forms = chosen_forms test.erased x.erased y.erased (zero_number (chosen test.erased x.erased y.erased) it.1) in
    false≢true (sym (choice_by (are_integers (own_type x) (own_type y)) (is_pointer (own_type x)) (is_pointer (own_type y)) (usual_of known.model (scalar_in x) (scalar_in y)) (chosen_pointer x y) (own_type x)
    (p.number forms.0) (q.number forms.1) (p.number forms.0)) ∙ it.0))

of_assignment : (op : Option Op) (x y : Typed) (known : Known) → NotNull (judge_assignment op x y known).typed
unfolding judge_assign judge_update
of_assignment None x y known = refl
of_assignment (Some op) x y known = refl

of_comma : (xs : List Typed) → NotNull (judge_comma xs).typed
unfolding judge_comma
of_comma xs = refl

-- ---- expressions that are no casts and have no marks around them

no_null : (it : c.Expression) (role : Use) (known : Known) → may_be_null it ≡ false → Holds NotNull (expression it role known)
no_null (c.Name name) role known plain = none known.next role _ (entered known) (λ f. of_object role name (meaning_of name known) (entered known))
no_null (c.Constant text) role known plain = none known.next role _ (entered known) (λ f. of_constant (constant_of known.model text))
no_null (c.Text bytes) role known plain = none known.next role _ _ (λ f. of_text (entered known) bytes (length known.objects))
no_null (c.Index base index) role known plain =
    past (expression base as_value (entered known)) (λ x k. past (expression index as_value k) (λ y k. none known.next role (judge_index x y k) k (λ f. of_element x y k)))
no_null (c.Call callee arguments) role known plain =
    past (expression callee as_callee (entered known)) (λ f k. past (expressions arguments k) (λ xs k. none known.next role (judge_call f xs k) k (λ _. of_call f f.form xs k)))
no_null (c.Member base name) role known plain = past (expression base as_place (entered known)) (λ x k. none known.next role (judge_member x name k) k (λ f. of_member x name k))
no_null (c.Arrow pointer name) role known plain = past (expression pointer as_value (entered known)) (λ x k. none known.next role (judge_arrow x name k) k (λ f. of_arrow x name k))
no_null (c.PostInc target) role known plain = past (expression target as_place (entered known)) (λ x k. none known.next role (judge_step before O.Add x k) k (λ f. of_step before O.Add x k))
no_null (c.PostDec target) role known plain = past (expression target as_place (entered known)) (λ x k. none known.next role (judge_step before O.Sub x k) k (λ f. of_step before O.Sub x k))
no_null (c.PreInc target) role known plain = past (expression target as_place (entered known)) (λ x k. none known.next role (judge_step after O.Add x k) k (λ f. of_step after O.Add x k))
no_null (c.PreDec target) role known plain = past (expression target as_place (entered known)) (λ x k. none known.next role (judge_step after O.Sub x k) k (λ f. of_step after O.Sub x k))
no_null (c.Unary op target) role known plain =
    behind (of_expression target (operand_of op) (entered known)) (λ x k fits. none known.next role (judge_unary op x k) k (of_unary op x k fits))
no_null (c.SizeofExpr target) role known plain =
    past (marked_again known.is_unmarked (expression target as_place (unmarked_here (entered known)))) (λ x k. none known.next role (judge_size (own_type x) k) k (λ f. of_size (own_type x) k))
no_null (c.SizeofType s d) role known plain =
    past (specifiers s (setting_in_sizeof d) (entered known))
    (λ it k. past (declarator d it false (λ name known b. type_name_faults b) k) (λ t k. none known.next role (also t.faults (judge_size t.type k)) k (λ f. of_size t.type k)))
no_null (c.Binary op left right) role known plain =
    past (expression left as_value (entered known)) (λ x k. past (expression right as_value k) (λ y k. none known.next role (judge_binary op x y k) k (λ f. of_binary op x y k)))
no_null (c.Logical op left right) role known plain =
    past (expression left as_truth (entered known)) (λ x k. past (expression right as_truth k) (λ y k. none known.next role (judge_logical op x y) k (λ f. of_logical op x y)))
no_null (c.Conditional test left right) role known plain =
    past (expression test as_truth (entered known)) (λ t k. behind (of_expression left as_value k)
    (λ x k p. behind (of_expression right as_value k) (λ y k q. none known.next role (judge_conditional t x y k) k (λ f. of_conditional t x y k p q))))
no_null (c.Assign op target value) role known plain =
    past (expression target as_place (entered known)) (λ x k. past (expression value as_value k) (λ y k. none known.next role (judge_assignment op x y k) k (λ f. of_assignment op x y k)))
no_null (c.Comma list) role known plain = past (expressions list (entered known)) (λ xs k. none known.next role (judge_comma xs) k (λ f. of_comma xs))
no_null (c.Cast s d target) role known plain = absurd (false≢true (sym plain))
no_null (c.Marked ms value) role known plain = absurd (false≢true (sym plain))
no_null (c.Decide target when_true when_false tag) role known plain = absurd (false≢true (sym plain))
no_null (c.After target id tag) role known plain = absurd (false≢true (sym plain))

pub no_null_found : (e : c.Expression) (role : Use) (known behind : Known) (x : Typed) → expression e role known ≡ Goes x behind → may_be_null e ≡ false → is_null x.erased ≡ false
no_null_found e role known behind x is plain = held is (no_null e role known plain)
