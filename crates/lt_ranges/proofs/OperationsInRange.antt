-- What operators make of operands in range.
use Rattle.std.proofs.Common.{◌≡◌, refl, ap, ◌∙◌, ℕ, suc, pos, ◌+◌, ◌<◌, List, [], ◌∷◌, ◌++◌, length, Bool, true, false, Option, Some, None}
use Rattle.std.specs.Prelude.{if◌then◌else◌, unwrap_or, option_and_then, ◌-ℤ◌}
use Rattle.lt_model.specs.declared.scalar.DataModel.{DataModel}
use Rattle.lt_model.specs.declared.scalar.Scalar.TheVariants as S
use Rattle.lt_model.specs.declared.operator.Op.{Op}
use Rattle.lt_model.specs.declared.operator.Op.TheVariants as O
use Rattle.lt_model.specs.Conversions.{promoted}
use Rattle.lt_model.specs.Scalar.{size_type}
use Rattle.lt_tree.specs.declared.expression.UnaryOp.{UnaryOp}
use Rattle.lt_tree.specs.declared.expression.UnaryOp.TheVariants as unary
use Rattle.lt_tree.specs.Typing.Types.{CType, CTypes, no_types, a_type, Void, Num, Function, target_of, unqualified, qualifiers_of, is_integer, is_pointer}
use Rattle.lt_tree.specs.Typing.Extents.{Placed, size_of, is_complete}
use Rattle.lt_tree.specs.Typing.Constants.{Constancy, varying, number, address, converted, moved_by, TypedConstant}
use Rattle.lt_tree.specs.Typing.Rules.{Rule, broken_if, unless, bad_address, bad_call, bad_assignment, no_body, floating_type, function_as_value}
use Rattle.lt_tree.specs.Typing.TypedTree as e
use Rattle.lt_tree.specs.Typing.TypedTree.{Value, Values, Place, When}
use Rattle.lt_tree.specs.Typing.Entities.{Known, Entity, an_object, a_function, a_typedef, an_enumerator, declared_among}
use Rattle.lt_tree.specs.Typing.Expressions.{Form, a_value, a_place, a_designator, Typed, Use, placed, nothing, own_type, value_in, place_in, Judged, judgement, scalar_in, has_floating, has_pointer_to_function}
use Rattle.lt_tree.specs.Typing.Operands.{points_to}
use Rattle.lt_tree.specs.Typing.Operations.{lives_from_the_start, object_named, function_named, judge_name, judge_constant, promoted_value, judge_plus, judge_minus, judge_complement, judge_not, judge_address_of, target_in, constant_address, judge_dereference, stepped, judge_step, judge_size, part_of, judge_part, member_in, judge_member, judge_arrow, pointer_among, other_among, element_size, object_size, judge_index, promoted_argument, passed, is_right_number, all_fit, takes_or_gives, can_be_run, judge_function, judge_call, judge_cast}
use Rattle.lt_tree.specs.Typing.NodeEnds.{judge_unary, text_at}
use Rattle.lt_tree.specs.Typing.Ranges.{Lists, to_object, to_call, in_type, in_types, in_values, in_option, count_values, takes}
use Rattle.lt_ranges.proofs.References.{Has, none, one, cons, head, both, front, back, some, call_there}
use Rattle.lt_ranges.proofs.Steps.{Sound, lists_of}
use Rattle.lt_ranges.proofs.TypesInRange.{T, C, unqualified_in, qualified_in, converted_in, applied_in, negated_in, moved_by_in, constant_address_in, constancy_to_in}
use Rattle.lt_ranges.proofs.TypesInRange as types
use Rattle.lt_ranges.proofs.TypedInRange.{V, FormIn, TypedIn, own_type_in, value_in_range, place_in_range, valued_in, varies_in, placed_typed, constant_in, nothing_in, cast_in, converted_value_in}
use Rattle.lt_ranges.proofs.Lookups.{EntityIn, PlacedIn, object_type_in, declared_among_in, member_in_range}

-- ---- names and constants

object_named_in : (known : Known) (n : ℕ) (is_register : Bool) → Sound known → n < length known.objects → TypedIn (lists_of known) (object_named known n is_register)
object_named_in known n is_register s h =
    let c : C (lists_of known) (if lives_from_the_start known n then address n 0 else varying) =
    elim (lives_from_the_start known n) as (λ v. C (lists_of known) (if v then address n 0 else varying)) [ true ↦ one h | false ↦ none ] in
    record { form = both (object_type_in known n s) (one h); constancy = c; erased = c }

-- the type with which a function is declared
function_form : {b : Lists} (name : List ℕ) (found : Option CType) → declared_among name b.declared ≡ found → Has b (in_option in_type found) → (t : CType) → found ≡ Some t
    → FormIn b (a_designator name (unwrap_or found Void))
function_form name None is h t some = absurd cc
function_form name (Some u) is h t some = (is, h)

function_named_in : (known : Known) (name : List ℕ) → Sound known → (t : CType) → declared_among name known.declared ≡ Some t → TypedIn (lists_of known) (function_named known name)
function_named_in known name s t some = record {
  form = function_form name (declared_among name known.declared) refl (declared_among_in name known.declared s.declared) t some;
  constancy = none;
  erased = none;
}

pub name_in : (role : Use) (name : List ℕ) (found : Option Entity) (known : Known) → Sound known → EntityIn name (lists_of known) found → TypedIn (lists_of known) (judge_name role name found known).typed
unfolding judge_name
name_in role name None known s h = nothing_in
name_in role name (Some (a_typedef t)) known s h = nothing_in
name_in role name (Some (an_object n is_register)) known s h = object_named_in known n is_register s (head h)
name_in role name (Some a_function) known s h = let it = some (declared_among name known.declared) (head h) in function_named_in known name s it.0 it.1
name_in role name (Some (an_enumerator z)) known s h = constant_in S.Int z

pub constant_in_range : {b : Lists} (c : Option TypedConstant) → TypedIn b (judge_constant c).typed
unfolding judge_constant
constant_in_range None = nothing_in
constant_in_range (Some c) = constant_in c.type c.value

pub text_in_range : {b : Lists} (known : Known) (bytes : List ℕ) (n : ℕ) → n < length b.objects → TypedIn b (text_at known bytes n).typed
unfolding text_at
text_in_range known bytes n h = placed_typed (one {r = to_object n} h) (one {r = to_object n} h)

-- ---- operators on one operand

promoted_in : {b : Lists} (m : DataModel) {x : Typed} → TypedIn b x → V b (promoted_value m x)
promoted_in m {x} h = converted_value_in (Num (promoted m (scalar_in x))) (value_in x) none (value_in_range h)

plus_in : {b : Lists} {x : Typed} (known : Known) → TypedIn b x → TypedIn b (judge_plus x known).typed
unfolding judge_plus
plus_in {b} {x} known h =
    valued_in (cast_in (Num (promoted known.model (scalar_in x))) (value_in x) none (value_in_range h))
    (converted_in known.model (promoted known.model (scalar_in x)) x.constancy) (converted_in known.model (promoted known.model (scalar_in x)) x.erased)

minus_in : {b : Lists} {x : Typed} (known : Known) → TypedIn b x → TypedIn b (judge_minus x known).typed
unfolding judge_minus
minus_in {b} {x} known h =
    valued_in (promoted_in known.model h)
    (applied_in known.model O.Sub (promoted known.model (scalar_in x)) (number (pos 0)) (converted known.model (promoted known.model (scalar_in x)) x.constancy))
    (applied_in known.model O.Sub (promoted known.model (scalar_in x)) (number (pos 0)) (converted known.model (promoted known.model (scalar_in x)) x.erased))

complement_in : {b : Lists} {x : Typed} (known : Known) → TypedIn b x → TypedIn b (judge_complement x known).typed
unfolding judge_complement
complement_in {b} {x} known h =
    let s = promoted known.model (scalar_in x) in
    valued_in (promoted_in known.model h)
    (applied_in known.model O.Xor s (converted known.model s (number (pos 0 -ℤ pos 1))) (converted known.model s x.constancy))
    (applied_in known.model O.Xor s (converted known.model s (number (pos 0 -ℤ pos 1))) (converted known.model s x.erased))

not_in : {b : Lists} {x : Typed} → TypedIn b x → TypedIn b (judge_not x).typed
unfolding judge_not
not_in {b} {x} h = valued_in (value_in_range h) (negated_in x.constancy) (negated_in x.erased)

address_of_in : {b : Lists} {x : Typed} → TypedIn b x → TypedIn b (judge_address_of x).typed
unfolding judge_address_of
address_of_in {b} {x} h = valued_in (both (own_type_in h) (place_in_range h)) h.constancy h.constancy

pub target_type_in : {b : Lists} {x : Typed} → TypedIn b x → T b (target_in x)
target_type_in {b} {x} h = types.target_in (own_type x) (Num S.Int) (own_type_in h) none

pointed_in : {b : Lists} {x : Typed} → TypedIn b x → TypedIn b (placed (e.Pointed (target_in x) (value_in x)) (constant_address x.constancy))
pointed_in {b} {x} h = placed_typed (both (target_type_in h) (value_in_range h)) (constant_address_in x.constancy h.constancy)

dereference_in : {b : Lists} {x : Typed} (known : Known) → TypedIn b x → TypedIn b (judge_dereference x known).typed
unfolding judge_dereference
dereference_in {b} {x} known h =
    elim (points_to (is_complete known.structs) (own_type x)) as (λ v. TypedIn b (if v then judgement [] (placed (e.Pointed (target_in x) (value_in x)) (constant_address x.constancy)) else judgement (bad_address ∷ []) nothing).typed)
    [ true ↦ pointed_in h | false ↦ nothing_in ]

pub unary_in : {b : Lists} {x : Typed} (op : UnaryOp) (known : Known) → TypedIn b x → TypedIn b (judge_unary op x known).typed
unary_in unary.AddressOf known h = address_of_in h
unary_in unary.Dereference known h = dereference_in known h
unary_in unary.Plus known h = plus_in known h
unary_in unary.Minus known h = minus_in known h
unary_in unary.Complement known h = complement_in known h
unary_in unary.Not known h = not_in h

own_unqualified_in : {b : Lists} {x : Typed} → TypedIn b x → T b (unqualified (own_type x))
own_unqualified_in {b} {x} h = unqualified_in (own_type x) (own_type_in h)

stepped_in : {b : Lists} {x : Typed} (known : Known) (gives : When) (op : Op) → TypedIn b x → V b (stepped known gives op x)
stepped_in {b} {x} known gives op h =
    elim (is_pointer (own_type x)) as (λ v. V b (if v then e.StepPointer (unqualified (own_type x)) gives op (size_of known.model known.structs (target_in x)) (place_in x) else e.Step (unqualified (own_type x)) gives op (promoted known.model (scalar_in x)) (place_in x)))
    [ true ↦ both (own_unqualified_in h) (place_in_range h) | false ↦ both (own_unqualified_in h) (place_in_range h) ]

pub step_in : {b : Lists} {x : Typed} (gives : When) (op : Op) (known : Known) → TypedIn b x → TypedIn b (judge_step gives op x known).typed
unfolding judge_step
step_in gives op known h = varies_in (stepped_in known gives op h)

pub size_in : {b : Lists} (t : CType) (known : Known) → TypedIn b (judge_size t known).typed
unfolding judge_size
size_in t known = constant_in (size_type known.model) (pos (size_of known.model known.structs t))

-- ---- members and elements

part_in : {b : Lists} {x : Typed} (member : Placed) → TypedIn b x → T b member.type → TypedIn b (part_of x member)
part_in {b} {x} member h i = record {
  form = both (qualified_in (qualifiers_of (own_type x)) member.type i) (place_in_range h);
  constancy = behind x.constancy h.constancy;
  erased = behind x.constancy h.constancy;
}
  where
    behind : (c : Constancy) → C b c → C b (elim c [ address object offset ↦ address object (offset + member.offset) | _ ↦ varying ])
    behind (address object offset) h = h
    behind _ h = none

judged_part_in : {b : Lists} {x : Typed} (found : Option Placed) → TypedIn b x → PlacedIn b found → TypedIn b (judge_part x found).typed
judged_part_in None h i = nothing_in
judged_part_in (Some member) h i = part_in member h i

pub member_typed_in : {x : Typed} (name : List ℕ) (known : Known) → Sound known → TypedIn (lists_of known) x → TypedIn (lists_of known) (judge_member x name known).typed
unfolding judge_member
member_typed_in {x} name known s h = judged_part_in (member_in known (own_type x) name) h (member_in_range known (own_type x) name s)

arrow_member_in : (target : Option CType) (name : List ℕ) (known : Known) → Sound known → PlacedIn (lists_of known) (option_and_then (λ t. member_in known t name) target)
arrow_member_in None name known s = none
arrow_member_in (Some t) name known s = member_in_range known t name s

pub arrow_in : {x : Typed} (name : List ℕ) (known : Known) → Sound known → TypedIn (lists_of known) x → TypedIn (lists_of known) (judge_arrow x name known).typed
unfolding judge_arrow
arrow_in {x} name known s h = judged_part_in (option_and_then (λ t. member_in known t name) (target_of (own_type x))) (pointed_in h) (arrow_member_in (target_of (own_type x)) name known s)

pub pointer_among_in : {b : Lists} {x y : Typed} → TypedIn b x → TypedIn b y → TypedIn b (pointer_among x y)
pointer_among_in {b} {x} {y} h i = elim (is_pointer (own_type x)) as (λ v. TypedIn b (if v then x else y)) [ true ↦ h | false ↦ i ]

pub index_in : {b : Lists} {x y : Typed} (known : Known) → TypedIn b x → TypedIn b y → TypedIn b (judge_index x y known).typed
unfolding judge_index
index_in {b} {x} {y} known h i =
    let pointer : TypedIn b (pointer_among x y) = pointer_among_in h i in
    let c : C b (moved_by (object_size known) (element_size known x y) (pointer_among x y).constancy (other_among x y).constancy) =
    moved_by_in (object_size known) (element_size known x y) (pointer_among x y).constancy (other_among x y).constancy pointer.constancy in
    record { form = both (target_type_in pointer) (both (value_in_range h) (value_in_range i)); constancy = c; erased = c }

-- ---- calls

abbrev pub AllTyped : Lists → List Typed → Type 0
AllTyped b [] = Unit {0}
AllTyped b (x ∷ xs) = TypedIn b x × AllTyped b xs

argument_in : {b : Lists} {x : Typed} (m : DataModel) → TypedIn b x → V b (promoted_argument m x)
argument_in {b} {x} m h = elim (is_integer (own_type x)) as (λ v. V b (if v then promoted_value m x else value_in x)) [ true ↦ promoted_in m h | false ↦ value_in_range h ]

passed_in : {b : Lists} (m : DataModel) (xs : List Typed) (ts : CTypes) → AllTyped b xs → Has b (in_types ts) → Has b (in_values (passed m xs ts))
passed_in m [] ts h i = none
passed_in m (x ∷ xs) no_types h i = both (argument_in m h.0) (passed_in m xs no_types h.1 none)
passed_in m (x ∷ xs) (a_type t ts) h i =
    both (converted_value_in t (value_in x) (front {rs = in_type t} _ i) (value_in_range h.0)) (passed_in m xs ts h.1 (back (in_type t) i))

as_many : (m : DataModel) (xs : List Typed) (ts : CTypes) → count_values (passed m xs ts) ≡ length xs
as_many m [] ts = refl
as_many m (x ∷ xs) no_types = ap suc (as_many m xs no_types)
as_many m (x ∷ xs) (a_type t ts) = ap suc (as_many m xs ts)

-- where no rule is broken
pub front_empty : (xs ys : List Rule) → xs ++ ys ≡ [] → xs ≡ []
front_empty [] ys h = refl
front_empty (x ∷ xs) ys h = absurd cc

back_empty : (xs ys : List Rule) → xs ++ ys ≡ [] → ys ≡ []
back_empty [] ys h = h
back_empty (x ∷ xs) ys h = absurd cc

pub unless_empty : (test : Bool) (rule : Rule) → unless test rule ≡ [] → test ≡ true
unless_empty true rule h = refl
unless_empty false rule h = absurd cc

right_number : (floating functions fitting : List Rule) (test : Bool) (last : List Rule) → floating ++ functions ++ fitting ++ unless test bad_call ++ last ≡ [] → test ≡ true
right_number floating functions fitting test last h =
    unless_empty test bad_call (back_empty (floating ++ functions ++ fitting) (unless test bad_call) (front_empty (floating ++ functions ++ fitting ++ unless test bad_call) last h))

function_in : {b : Lists} (known : Known) (name : List ℕ) (t : CType) (xs : List Typed) → declared_among name b.declared ≡ Some t → T b t → AllTyped b xs
    → (judge_function known name t xs).faults ≡ [] → TypedIn b (judge_function known name t xs).typed
unfolding judge_function
function_in {b} known name (Function result ts dots) xs is h i clean =
    let right : is_right_number (length xs) ts dots ≡ true =
    right_number (broken_if floating_type (takes_or_gives has_floating result ts)) (broken_if function_as_value (takes_or_gives has_pointer_to_function result ts))
    (unless (all_fit xs ts) bad_assignment) (is_right_number (length xs) ts dots) (unless (can_be_run known name result) no_body) clean in
    let counted : takes (count_values (passed known.model xs ts)) (Function result ts dots) ≡ true = ap (λ n. is_right_number n ts dots) (as_many known.model xs ts) ∙ right in
    varies_in (both (unqualified_in result (front {rs = in_type result} _ h)) (cons {r = to_call name (count_values (passed known.model xs ts))} (call_there b name (count_values (passed known.model xs ts)) is counted) (passed_in known.model xs ts i (back (in_type result) h))))
function_in known name _ xs is h i clean = nothing_in

-- a call of what is written so
abbrev call_of : List Typed → Known → Form → Judged
call_of xs known (a_value v) = judgement (bad_call ∷ []) nothing
call_of xs known (a_place place) = judgement (bad_call ∷ []) nothing
call_of xs known (a_designator name t) = judge_function known name t xs

call_form_in : {b : Lists} (form : Form) (xs : List Typed) (known : Known) → FormIn b form → AllTyped b xs → (call_of xs known form).faults ≡ [] → TypedIn b (call_of xs known form).typed
call_form_in (a_value v) xs known h i clean = nothing_in
call_form_in (a_place place) xs known h i clean = nothing_in
call_form_in (a_designator name t) xs known h i clean = function_in known name t xs h.0 h.1 i clean

pub call_in : {b : Lists} {f : Typed} (xs : List Typed) (known : Known) → TypedIn b f → AllTyped b xs → (judge_call f xs known).faults ≡ [] → TypedIn b (judge_call f xs known).typed
unfolding judge_call
call_in {b} {f} xs known h i clean = call_form_in f.form xs known h.form i clean

-- ---- casts

pub cast_typed_in : {b : Lists} {x : Typed} (t : CType) (known : Known) → T b t → TypedIn b x → TypedIn b (judge_cast t x known).typed
unfolding judge_cast
cast_typed_in {b} {x} t known h i =
    valued_in (cast_in (unqualified t) (value_in x) (unqualified_in t h) (value_in_range i))
    (constancy_to_in known.model (unqualified t) x.constancy i.constancy) (constancy_to_in known.model (unqualified t) x.erased i.erased)
