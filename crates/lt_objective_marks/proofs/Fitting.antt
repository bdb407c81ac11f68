-- What an expression is as a constant fits its type and form: an integer constant is no pointer, and a place is at most the address of an object.
use Rattle.std.proofs.Common.{◌≡◌, refl, sym, subst, ◌∙◌, ℕ, ℤ, pos, negsuc, Bool, true, false, ◌&&◌, ◌||◌, if◌then◌else◌, List, [], ◌∷◌, ◌++◌, length, Option, Some, None}
use Rattle.std.proofs.lemmas.Bool.{false≢true}
use Rattle.std.specs.Prelude.{nat_le, option_and_then}
use Rattle.lt_model.specs.declared.scalar.DataModel.{DataModel}
use Rattle.lt_model.specs.declared.scalar.Scalar.TheVariants as S
use Rattle.lt_model.specs.declared.operator.Op.{Op}
use Rattle.lt_model.specs.declared.operator.Op.TheVariants as O
use Rattle.lt_tree.specs.declared.expression.UnaryOp.{UnaryOp}
use Rattle.lt_tree.specs.declared.expression.UnaryOp.TheVariants as unary
use Rattle.lt_tree.specs.Tree as c
use Rattle.lt_tree.specs.Typing.Types.{CType, Void, Num, Pointer, Function, is_pointer, is_array, same, target_of, unqualified}
use Rattle.lt_tree.specs.Typing.Extents.{Placed, is_complete}
use Rattle.lt_tree.specs.Typing.Constants.{Constancy, varying, faulty, number, null_constant, null_address, address, is_form, is_zero, chosen, moved_to, moved_by, TypedConstant, constant_of}
use Rattle.lt_tree.specs.Typing.Rules.{Rule, least, unless, bad_address}
use Rattle.lt_tree.specs.Typing.TypedTree as e
use Rattle.lt_tree.specs.Typing.TypedTree.{Place, When, before, after, type_at, type_of}
use Rattle.lt_tree.specs.Typing.Entities.{Known, Entity, an_object, a_function, a_typedef, an_enumerator, Label, meaning_of}
use Rattle.lt_tree.specs.Typing.Operands.{are_integers, points_to, is_relation, is_equality}
use Rattle.lt_tree.specs.Typing.Steps.{Outcome, Goes, Breaks, goes_on, unless_broken, marked_again}
use Rattle.lt_tree.specs.Typing.Expressions.{Typed, Form, a_value, a_place, a_designator, Use, as_value, as_truth, as_place, as_callee, own_type, is_lvalue, is_lvalue_place, value_at, value_in, varies, valued, nothing, placed, as_it_is_read, used, fact_of, Judged, judgement, faults_of_any, finish, null_of, constancy_as_pointer, constancy_to}
use Rattle.lt_tree.specs.Typing.Operations.{judge_name, judge_constant, judge_plus, judge_minus, judge_complement, judge_not, judge_address_of, judge_dereference, judge_step, judge_size, part_of, judge_part, judge_member, judge_arrow, judge_index, judge_function, judge_call, judge_cast, constancy_of_object, lives_from_the_start, member_in, object_size, pointer_among, other_among, element_size, target_in, constant_address}
use Rattle.lt_tree.specs.Typing.BinaryOperations.{operation_type, on_integers, on_pointers, moved, distance, towards, judge_binary, judge_logical, chosen_type, judge_conditional, judge_assign, judge_update, judge_assignment, judge_comma}
use Rattle.lt_tree.specs.Typing.MarkRules.{label_of, judge_decide, inside_mark, inside_after, judge_after, judge_marked}
use Rattle.lt_tree.specs.Typing.NodeEnds.{text_at, judge_unary, operand_of, also}
use Rattle.lt_tree.specs.Typing.ExpressionTyping.{expression, expressions, marks, specifiers, declarator}
use Rattle.lt_tree.specs.Typing.Specifying.{elsewhere}
use Rattle.lt_tree.specs.Typing.Declarators.{setting_in_sizeof, type_name_faults}
use Rattle.lt_typed_nodes.specs.Coming.{entered, unmarked_here}

-- ---- constants

-- of an object, or unknown
abbrev pub is_at_most_address : Constancy → Bool
is_at_most_address varying = true
is_at_most_address (address object offset) = true
is_at_most_address _ = false

pub address_no_form : (c : Constancy) → is_at_most_address c ≡ true → is_form c ≡ false
address_no_form varying is = refl
address_no_form (address object offset) is = refl
address_no_form faulty is = absurd cc
address_no_form (number z) is = absurd cc
address_no_form null_constant is = absurd cc
address_no_form null_address is = absurd cc

behind_object : (object : ℕ) (b : Bool) (n : ℕ) → is_at_most_address (if b then address object n else varying) ≡ true
behind_object object true n = refl
behind_object object false n = refl

moved_is : (object size : ℕ) (z : ℤ) → is_at_most_address (moved_to object size z) ≡ true
moved_is object size (pos n) = behind_object object (nat_le n size) n
moved_is object size (negsuc n) = refl

pub moved_address : (sizes : ℕ → ℕ) (size : ℕ) (a b : Constancy) → is_at_most_address (moved_by sizes size a b) ≡ true
moved_address sizes size (address object offset) (number z) = moved_is object (sizes object) _
moved_address sizes size (address object offset) varying = refl
moved_address sizes size (address object offset) faulty = refl
moved_address sizes size (address object offset) null_constant = refl
moved_address sizes size (address object offset) null_address = refl
moved_address sizes size (address object offset) (address other n) = refl
moved_address sizes size varying b = refl
moved_address sizes size faulty b = refl
moved_address sizes size (number z) b = refl
moved_address sizes size null_constant b = refl
moved_address sizes size null_address b = refl

pub constant_is : (c : Constancy) → is_at_most_address (constant_address c) ≡ true
constant_is varying = refl
constant_is faulty = refl
constant_is (number z) = refl
constant_is null_constant = refl
constant_is null_address = refl
constant_is (address object offset) = refl

no_form : (c : Constancy) {b : Bool} → is_at_most_address c ≡ true → is_form c ≡ true → b ≡ false
no_form c h is = absurd (false≢true (sym (address_no_form c h) ∙ is))

null_no_form : (t : CType) → is_form (null_of t) ≡ false
null_no_form t = by (same t (Pointer Void))
  where
    by : (b : Bool) → is_form (if b then null_constant else null_address) ≡ false
    by true = refl
    by false = refl

zero_no_form : (t : CType) (b : Bool) → is_form (if b then null_of t else varying) ≡ false
zero_no_form t true = null_no_form t
zero_no_form t false = refl

pointer_no_form : (t : CType) (c : Constancy) → is_form (constancy_as_pointer t c) ≡ false
pointer_no_form t (number z) = zero_no_form t (is_zero (number z))
pointer_no_form t varying = refl
pointer_no_form t faulty = refl
pointer_no_form t null_constant = refl
pointer_no_form t null_address = refl
pointer_no_form t (address object offset) = refl

-- what is converted to a pointer is no integer constant
pub converted_fits : (m : DataModel) (t : CType) (c : Constancy) → is_form (constancy_to m t c) ≡ true → is_pointer t ≡ false
converted_fits m (Num s) c is = refl
converted_fits m (Pointer t) c is = absurd (false≢true (sym (pointer_no_form (Pointer t) c) ∙ is))
converted_fits m _ c is = absurd (false≢true is)

-- ---- expressions

abbrev is_placed : Form → Bool
is_placed (a_value v) = false
is_placed (a_place place) = true
is_placed (a_designator name t) = false

-- What it is as a constant fits an expression: an integer constant is no pointer, and a place has an address at most.
pub record Fits (x : Typed) : Type 0 where
  pub number : is_form x.erased ≡ true → is_pointer (own_type x) ≡ false
  pub place : is_placed x.form ≡ true → (is_at_most_address x.constancy ≡ true) × (is_at_most_address x.erased ≡ true)

-- what varies fits
none_fits : {v : e.Value} {c : Constancy} → Fits (valued v c varying)
none_fits = record { number = λ is. absurd (false≢true is); place = λ is. absurd (false≢true is) }

-- so does what is no constant of an integer's form
value_fits : {v : e.Value} {c d : Constancy} → (is_form d ≡ true → is_pointer (type_of v) ≡ false) → Fits (valued v c d)
value_fits h = record { number = h; place = λ is. absurd (false≢true is) }

place_fits : {place : Place} {c : Constancy} → is_at_most_address c ≡ true → Fits (placed place c)
place_fits {c = c} h = record { number = no_form c h; place = λ is. (h, h) }

-- what holds where typing goes on
pub data Holds (P : Typed → Type 0) : Outcome Typed → Type 0 where
  holds : {x : Typed} {known : Known} → P x → Holds P (Goes x known)
  stopped : {rule : Rule} {node : ℕ} → Holds P (Breaks rule node)

pub held : {P : Typed → Type 0} {o : Outcome Typed} {x : Typed} {known : Known} → o ≡ Goes x known → Holds P o → P x
held {P} {x = x} {known} is h = by (subst (Holds P) is h)
  where
    by : Holds P (Goes x known) → P x
    by (holds p) = p

read_if : (keeps : Bool) (place : Place) (x : Typed) → is_at_most_address x.erased ≡ true → Fits (if keeps then record x { form = a_value (value_at (type_at place) place) } else varies (value_at (type_at place) place))
read_if true place x h = record { number = no_form x.erased h; place = λ is. absurd (false≢true is) }
read_if false place x h = none_fits

read_by : (x : Typed) (form : Form) → Fits (record x { form = form }) → Fits (as_it_is_read (record x { form = form }))
read_by x (a_value v) fits = fits
read_by x (a_place place) fits = read_if (is_array (type_at place)) place (record x { form = a_place place }) (fits.place refl).1
read_by x (a_designator name t) fits = fits

read_fits : (x : Typed) → Fits x → Fits (as_it_is_read x)
read_fits x fits = read_by x x.form fits

used_fits : (role : Use) (x : Typed) → Fits x → Fits (used role x)
used_fits as_value x fits = read_fits x fits
used_fits as_truth x fits = read_fits x fits
used_fits as_callee x fits = read_fits x fits
used_fits as_place x fits = fits

ended_by : (P : Typed → Type 0) (node : ℕ) (role : Use) (rules : List Rule) (y : Typed) (known : Known) → (rules ≡ [] → P (used role y))
    → Holds P (goes_on (unless_broken (least rules) node known) (λ u k. Goes (used role y) (record k { facts = k.facts ++ fact_of node y ∷ [] })))
ended_by P node role [] y known h = holds (h refl)
ended_by P node role (rule ∷ rules) y known h = stopped

left_none : (xs ys : List Rule) → xs ++ ys ≡ [] → xs ≡ []
left_none [] ys h = refl
left_none (x ∷ xs) ys h = absurd cc

pub ended : (P : Typed → Type 0) (node : ℕ) (role : Use) (it : Judged) (known : Known) → (it.faults ≡ [] → P (used role it.typed)) → Holds P (finish node role it known)
unfolding finish
ended P node role it known h =
    ended_by P node role (it.faults ++ faults_of_any known.structs role it.typed) it.typed known (λ none. h (left_none it.faults (faults_of_any known.structs role it.typed) none))

fit : (node : ℕ) (role : Use) (it : Judged) (known : Known) → (it.faults ≡ [] → Fits it.typed) → Holds Fits (finish node role it known)
fit node role it known h = ended Fits node role it known (λ none. used_fits role it.typed (h none))

-- behind an operand of which something holds, and behind anything
pub behind : {P Q : Typed → Type 0} {o : Outcome Typed} {rest : Typed → Known → Outcome Typed} → Holds P o → ((x : Typed) (k : Known) → P x → Holds Q (rest x k)) → Holds Q (goes_on o rest)
behind (holds {x = x} {known = k} h) f = f x k h
behind stopped f = stopped

pub past : {A : Type 0} {Q : Typed → Type 0} (o : Outcome A) {rest : A → Known → Outcome Typed} → ((a : A) (k : Known) → Holds Q (rest a k)) → Holds Q (goes_on o rest)
past (Goes a k) f = f a k
past (Breaks rule node) f = stopped

-- the same with labels added
labelled : {P : Typed → Type 0} {o : Outcome Typed} (labels : Known → List Label) → Holds P o → Holds P (goes_on o (λ x k. Goes x (record k { labels = labels k })))
labelled labels (holds h) = holds h
labelled labels stopped = stopped

-- ---- what operators make

object_address : (known : Known) (n : ℕ) → is_at_most_address (constancy_of_object known n) ≡ true
object_address known n = by (lives_from_the_start known n)
  where
    by : (b : Bool) → is_at_most_address (if b then address n 0 else varying) ≡ true
    by true = refl
    by false = refl

pub of_name : (role : Use) (name : List ℕ) (found : Option Entity) (known : Known) → Fits (judge_name role name found known).typed
unfolding judge_name
of_name role name None known = value_fits (λ is. refl)
of_name role name (Some (a_typedef t)) known = value_fits (λ is. refl)
of_name role name (Some (an_object n is_register)) known =
    let h = object_address known n in record { number = no_form (constancy_of_object known n) h; place = λ is. (h, h) }
of_name role name (Some a_function) known = record { number = λ is. absurd (false≢true is); place = λ is. absurd (false≢true is) }
of_name role name (Some (an_enumerator z)) known = value_fits (λ is. refl)

of_constant : (found : Option TypedConstant) → Fits (judge_constant found).typed
unfolding judge_constant
of_constant None = value_fits (λ is. refl)
of_constant (Some it) = value_fits (λ is. refl)

of_text : (known : Known) (bytes : List ℕ) (n : ℕ) → Fits (text_at known bytes n).typed
unfolding text_at
of_text known bytes n = place_fits refl

pub of_index : (x y : Typed) (known : Known) → Fits (judge_index x y known).typed
unfolding judge_index
of_index x y known =
    let h = moved_address (object_size known) (element_size known x y) (pointer_among x y).constancy (other_among x y).constancy in
    record { number = no_form (moved_by (object_size known) (element_size known x y) (pointer_among x y).constancy (other_among x y).constancy) h; place = λ is. (h, h) }

of_function : (known : Known) (name : List ℕ) (t : CType) (xs : List Typed) → Fits (judge_function known name t xs).typed
unfolding judge_function
of_function known name (Function result ts dots) xs = none_fits
of_function known name _ xs = value_fits (λ is. refl)

of_call : (f : Typed) (form : Form) (xs : List Typed) (known : Known) → Fits (judge_call (record f { form = form }) xs known).typed
unfolding judge_call
of_call f (a_value v) xs known = value_fits (λ is. refl)
of_call f (a_place place) xs known = value_fits (λ is. refl)
of_call f (a_designator name t) xs known = of_function known name t xs

part_is : (x : Typed) (member : Placed) (c : Constancy) → is_at_most_address (part_of (record x { constancy = c }) member).constancy ≡ true
part_is x member varying = refl
part_is x member faulty = refl
part_is x member (number z) = refl
part_is x member null_constant = refl
part_is x member null_address = refl
part_is x member (address object offset) = refl

pub of_part : (x : Typed) (found : Option Placed) → Fits (judge_part x found).typed
of_part x None = value_fits (λ is. refl)
of_part x (Some member) =
    let h = part_is x member x.constancy in record { number = no_form (part_of x member).erased h; place = λ is. (h, h) }

of_member : (x : Typed) (name : List ℕ) (known : Known) → Fits (judge_member x name known).typed
unfolding judge_member
of_member x name known = of_part x (member_in known (own_type x) name)

of_arrow : (x : Typed) (name : List ℕ) (known : Known) → Fits (judge_arrow x name known).typed
unfolding judge_arrow
of_arrow x name known = of_part (placed (e.Pointed (target_in x) (value_in x)) (constant_address x.constancy)) (option_and_then (λ t. member_in known t name) (target_of (own_type x)))

of_step : (gives : When) (op : Op) (x : Typed) (known : Known) → Fits (judge_step gives op x known).typed
unfolding judge_step
of_step gives op x known = none_fits

of_size : (t : CType) (known : Known) → Fits (judge_size t known).typed
unfolding judge_size
of_size t known = value_fits (λ is. refl)

of_cast : (t : CType) (x : Typed) (known : Known) → Fits (judge_cast t x known).typed
unfolding judge_cast
of_cast t x known = value_fits (converted_fits known.model (unqualified t) x.erased)

either : (b : Bool) (p q : Judged) → Fits p.typed → Fits q.typed → Fits (if b then p else q).typed
either true p q first second = first
either false p q first second = second

placed_lvalue : (form : Form) → elim (form) as (λ _. Bool) [ a_value v ↦ false | a_place place ↦ is_lvalue_place place | a_designator name type ↦ false ] ≡ true → is_placed form ≡ true
placed_lvalue (a_value v) is = is
placed_lvalue (a_place place) is = refl
placed_lvalue (a_designator name t) is = is

first_true : (a b : Bool) → (a && b) ≡ true → a ≡ true
first_true true b h = refl
first_true false b h = absurd (false≢true h)

unless_true : (b : Bool) (rule : Rule) → unless b rule ≡ [] → b ≡ true
unless_true true rule h = refl
unless_true false rule h = absurd cc

-- an operand of `&` is a place
pub addressed : (x : Typed) → Fits x → (judge_address_of x).faults ≡ [] → is_at_most_address x.constancy ≡ true
unfolding judge_address_of
addressed x fits none = (fits.place (placed_lvalue x.form (first_true (is_lvalue x) _ (unless_true _ bad_address none)))).0

of_address : (x : Typed) → Fits x → (judge_address_of x).faults ≡ [] → Fits (judge_address_of x).typed
unfolding judge_address_of
of_address x fits none = value_fits (no_form x.constancy (addressed x fits none))

of_unary : (op : UnaryOp) (x : Typed) (known : Known) → Fits x → (judge_unary op x known).faults ≡ [] → Fits (judge_unary op x known).typed
unfolding judge_dereference judge_plus judge_minus judge_complement judge_not
of_unary unary.AddressOf x known fits none = of_address x fits none
of_unary unary.Dereference x known fits none =
    either (points_to (is_complete known.structs) (own_type x)) (judgement [] (placed (e.Pointed (target_in x) (value_in x)) (constant_address x.constancy))) (judgement (bad_address ∷ []) nothing)
    (place_fits (constant_is x.constancy)) (value_fits (λ is. refl))
of_unary unary.Plus x known fits none = value_fits (λ is. refl)
of_unary unary.Minus x known fits none = value_fits (λ is. refl)
of_unary unary.Complement x known fits none = value_fits (λ is. refl)
of_unary unary.Not x known fits none = value_fits (λ is. refl)

choose : (b : Bool) (x y : Typed) → Fits x → Fits y → Fits (if b then x else y)
choose true x y p q = p
choose false x y p q = q

integers_fit : (known : Known) (op : Op) (x y : Typed) → Fits (on_integers known op x y)
integers_fit known op x y = value_fits (λ is. by (is_relation op || is_equality op))
  where
    by : (b : Bool) → is_pointer (if b then Num S.Int else Num (operation_type known op x y)) ≡ false
    by true = refl
    by false = refl

pub moved_is_address : (known : Known) (op : Op) (x y : Typed) → is_at_most_address (moved known op x y).erased ≡ true
moved_is_address known op x y = moved_address (object_size known) (element_size known x y) (pointer_among x y).constancy (towards op (other_among x y).constancy)

moved_fits : (known : Known) (op : Op) (x y : Typed) → Fits (moved known op x y)
moved_fits known op x y = value_fits (no_form (moved known op x y).erased (moved_is_address known op x y))

pointers_fit : (known : Known) (op : Op) (x y : Typed) → Fits (on_pointers known op x y)
pointers_fit known O.Sub x y = choose (is_pointer (own_type x) && is_pointer (own_type y)) (distance known x y) (moved known O.Sub x y) none_fits (moved_fits known O.Sub x y)
pointers_fit known O.Add x y = moved_fits known O.Add x y
pointers_fit known op x y = none_fits

of_binary : (op : Op) (x y : Typed) (known : Known) → Fits (judge_binary op x y known).typed
unfolding judge_binary
of_binary op x y known = choose (are_integers (own_type x) (own_type y)) (on_integers known op x y) (on_pointers known op x y) (integers_fit known op x y) (pointers_fit known op x y)

of_logical : (op : _) (x y : Typed) → Fits (judge_logical op x y).typed
unfolding judge_logical
of_logical op x y = value_fits (λ is. refl)

of_conditional : (test x y : Typed) (known : Known) → Fits (judge_conditional test x y known).typed
unfolding judge_conditional
of_conditional test x y known = value_fits (converted_fits known.model (chosen_type known x y) (chosen test.erased x.erased y.erased))

of_assignment : (op : Option Op) (x y : Typed) (known : Known) → Fits (judge_assignment op x y known).typed
unfolding judge_assign judge_update
of_assignment None x y known = none_fits
of_assignment (Some op) x y known = none_fits

of_comma : (xs : List Typed) → Fits (judge_comma xs).typed
unfolding judge_comma
of_comma xs = none_fits

of_marked : (ms : e.Marks) (x : Typed) → Fits x → Fits (judge_marked ms x).typed
unfolding judge_marked
of_marked ms x fits = record { number = fits.number; place = λ is. absurd (false≢true is) }

of_decide : (role : Use) (x : Typed) (when_true when_false tag : List ℕ) (known : Known) → Fits (judge_decide role x when_true when_false tag known).typed
unfolding judge_decide
of_decide role x when_true when_false tag known = value_fits (λ is. refl)

of_after : (role : Use) (x : Typed) (id tag : List ℕ) (known : Known) → Fits x → Fits (judge_after role x id tag known).typed
unfolding judge_after
of_after role x id tag known fits = record { number = (read_fits x fits).number; place = λ is. absurd (false≢true is) }

-- ---- all expressions

pub of_expression : (it : c.Expression) (role : Use) (known : Known) → Holds Fits (expression it role known)
of_expression (c.Name name) role known = fit known.next role _ (entered known) (λ none. of_name role name (meaning_of name known) (entered known))
of_expression (c.Constant text) role known = fit known.next role _ (entered known) (λ none. of_constant (constant_of known.model text))
of_expression (c.Text bytes) role known = fit known.next role _ _ (λ none. of_text (entered known) bytes (length known.objects))
of_expression (c.Index base index) role known =
    past (expression base as_value (entered known)) (λ x k. past (expression index as_value k) (λ y k. fit known.next role (judge_index x y k) k (λ none. of_index x y k)))
of_expression (c.Call callee arguments) role known =
    past (expression callee as_callee (entered known)) (λ f k. past (expressions arguments k) (λ xs k. fit known.next role (judge_call f xs k) k (λ none. of_call f f.form xs k)))
of_expression (c.Member base name) role known = past (expression base as_place (entered known)) (λ x k. fit known.next role (judge_member x name k) k (λ none. of_member x name k))
of_expression (c.Arrow pointer name) role known = past (expression pointer as_value (entered known)) (λ x k. fit known.next role (judge_arrow x name k) k (λ none. of_arrow x name k))
of_expression (c.PostInc target) role known = past (expression target as_place (entered known)) (λ x k. fit known.next role (judge_step before O.Add x k) k (λ none. of_step before O.Add x k))
of_expression (c.PostDec target) role known = past (expression target as_place (entered known)) (λ x k. fit known.next role (judge_step before O.Sub x k) k (λ none. of_step before O.Sub x k))
of_expression (c.PreInc target) role known = past (expression target as_place (entered known)) (λ x k. fit known.next role (judge_step after O.Add x k) k (λ none. of_step after O.Add x k))
of_expression (c.PreDec target) role known = past (expression target as_place (entered known)) (λ x k. fit known.next role (judge_step after O.Sub x k) k (λ none. of_step after O.Sub x k))
of_expression (c.Unary op target) role known = behind (of_expression target (operand_of op) (entered known)) (λ x k fits. fit known.next role (judge_unary op x k) k (of_unary op x k fits))
of_expression (c.SizeofExpr target) role known =
    past (marked_again known.is_unmarked (expression target as_place (unmarked_here (entered known)))) (λ x k. fit known.next role (judge_size (own_type x) k) k (λ none. of_size (own_type x) k))
of_expression (c.SizeofType s d) role known =
    past (specifiers s (setting_in_sizeof d) (entered known))
    (λ it k. past (declarator d it false (λ name known b. type_name_faults b) k) (λ t k. fit known.next role (also t.faults (judge_size t.type k)) k (λ none. of_size t.type k)))
of_expression (c.Cast s d target) role known =
    past (specifiers s elsewhere (entered known)) (λ it k. past (declarator d it false (λ name known b. type_name_faults b) k)
    (λ t k. past (expression target as_value k) (λ x k. fit known.next role (also t.faults (judge_cast t.type x k)) k (λ none. of_cast t.type x k))))
of_expression (c.Binary op left right) role known =
    past (expression left as_value (entered known)) (λ x k. past (expression right as_value k) (λ y k. fit known.next role (judge_binary op x y k) k (λ none. of_binary op x y k)))
of_expression (c.Logical op left right) role known =
    past (expression left as_truth (entered known)) (λ x k. past (expression right as_truth k) (λ y k. fit known.next role (judge_logical op x y) k (λ none. of_logical op x y)))
of_expression (c.Conditional test left right) role known =
    past (expression test as_truth (entered known)) (λ t k. past (expression left as_value k)
    (λ x k. past (expression right as_value k) (λ y k. fit known.next role (judge_conditional t x y k) k (λ none. of_conditional t x y k))))
of_expression (c.Assign op target value) role known =
    past (expression target as_place (entered known)) (λ x k. past (expression value as_value k) (λ y k. fit known.next role (judge_assignment op x y k) k (λ none. of_assignment op x y k)))
of_expression (c.Comma list) role known = past (expressions list (entered known)) (λ xs k. fit known.next role (judge_comma xs) k (λ none. of_comma xs))
of_expression (c.Marked ms value) role known =
    past (marks ms (entered known)) (λ typed k. behind (of_expression value (inside_mark role) k) (λ x k fits. fit known.next role (judge_marked typed x) k (λ none. of_marked typed x fits)))
of_expression (c.Decide target when_true when_false tag) role known =
    past (expression target (inside_mark role) (entered known))
    (λ x k. labelled (λ it. it.labels ++ label_of when_true tag [] ∷ [] ++ label_of when_false tag [] ∷ []) (fit known.next role (judge_decide role x when_true when_false tag k) k (λ none. of_decide role x when_true when_false tag k)))
of_expression (c.After target id tag) role known =
    behind (of_expression target (inside_after role) (entered known))
    (λ x k fits. labelled (λ it. it.labels ++ label_of id tag [] ∷ []) (fit known.next role (judge_after role x id tag k) k (λ none. of_after role x id tag k fits)))
