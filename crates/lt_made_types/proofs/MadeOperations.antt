-- The types of what operators make of operands whose types are made, and how the node of an expression ends.
use Rattle.std.proofs.Common.{◌≡◌, refl, ℕ, List, [], ◌∷◌, ◌++◌, Bool, true, false, Option, Some, None}
use Rattle.std.specs.Prelude.{if◌then◌else◌, unwrap_or, option_and_then}
use Rattle.lt_model.specs.declared.scalar.Scalar.{Scalar}
use Rattle.lt_model.specs.declared.scalar.Scalar.TheVariants as S
use Rattle.lt_model.specs.declared.operator.Op.{Op}
use Rattle.lt_model.specs.Conversions.{promoted}
use Rattle.lt_tree.specs.declared.expression.UnaryOp.{UnaryOp}
use Rattle.lt_tree.specs.declared.expression.UnaryOp.TheVariants as unary
use Rattle.lt_tree.specs.Typing.Types.{CType, Void, Num, Function, target_of, unqualified, qualifiers_of, is_array, is_pointer}
use Rattle.lt_tree.specs.Typing.Extents.{Structs, Placed, size_of, is_complete, has_too_many_cells}
use Rattle.lt_tree.specs.Typing.Constants.{TypedConstant}
use Rattle.lt_tree.specs.Typing.Rules.{Rule, broken_if, floating_type, bad_length, function_as_value, volatile_access, bad_address, bad_call}
use Rattle.lt_tree.specs.Typing.TypedTree as e
use Rattle.lt_tree.specs.Typing.TypedTree.{Value, Place, When, type_of, type_at}
use Rattle.lt_tree.specs.Typing.Entities.{Known, Entity, an_object, a_function, a_typedef, an_enumerator, declared_among}
use Rattle.lt_tree.specs.Typing.Steps.{Goes}
use Rattle.lt_tree.specs.Typing.Expressions.{Form, a_value, a_place, a_designator, Typed, Use, placed, varies, nothing, own_type, value_at, value_in, place_in, read, as_it_is_read, is_read, used, has_floating, has_pointer_to_function, reads_volatile, faults_of_any, Judged, judgement, fact_of, finish, scalar_in}
use Rattle.lt_tree.specs.Typing.Operands.{points_to}
use Rattle.lt_tree.specs.Typing.Operations.{judge_name, judge_constant, text_type, judge_plus, judge_minus, judge_complement, judge_not, judge_address_of, target_in, constant_address, judge_dereference, stepped, judge_step, judge_size, judge_part, member_in, judge_member, judge_arrow, pointer_among, judge_index, judge_function, judge_call, judge_cast}
use Rattle.lt_tree.specs.Typing.NodeEnds.{judge_unary, text_at}
use Rattle.lt_made_types.proofs.MadeTypes.{Made, unqualified_made, qualified_made, pointer_made, target_made, value_made}
use Rattle.lt_made_types.proofs.Keeping.{WhenThere, Sound, Good, went, judges, front_empty, back_empty}
use Rattle.lt_made_types.proofs.Lookups.{object_type_made, declared_among_made, PlacedMade, member_made}
use Rattle.lt_made_types.proofs.Growth.{noted}

pub record TypedMade (x : Typed) : Type 0 where
  pub type : Made (own_type x)

pub number_made : {s : Scalar} → Made (Num s)
number_made = record { so = tt }

-- ---- expressions as they are used

placed_read : (place : Place) (x : Typed) → Made (type_at place) → TypedMade (read place x)
placed_read place x h =
    elim (is_array (type_at place)) as (λ v. TypedMade (if v then record x { form = a_value (value_at (type_at place) place) } else varies (value_at (type_at place) place)))
    [ true ↦ record { type = value_made (type_at place) place h } | false ↦ record { type = value_made (type_at place) place h } ]

abbrev type_in : Form → CType
type_in (a_value v) = type_of v
type_in (a_place place) = type_at place
type_in (a_designator name t) = t

form_read : (form : Form) (x : Typed) → Made (type_in form) → TypedMade x → TypedMade (elim form [ a_value v ↦ x | a_place place ↦ read place x | a_designator name t ↦ x ])
form_read (a_value v) x h i = i
form_read (a_place place) x h i = placed_read place x h
form_read (a_designator name t) x h i = i

pub read_made : {x : Typed} → TypedMade x → TypedMade (as_it_is_read x)
read_made {x} h = form_read x.form x h.type h

pub used_made : (role : Use) {x : Typed} → TypedMade x → TypedMade (used role x)
used_made role {x} h = elim (is_read role) as (λ v. TypedMade (if v then as_it_is_read x else x)) [ true ↦ read_made h | false ↦ h ]

-- ---- the end of an expression's node

pub none_broken : (rule : Rule) (broken : Bool) → broken_if rule broken ≡ [] → broken ≡ false
none_broken rule true h = absurd cc
none_broken rule false h = refl

no_pointer : (structs : Structs) (role : Use) (x : Typed) → faults_of_any structs role x ≡ [] → has_pointer_to_function (own_type x) ≡ false
no_pointer structs role x clean =
    let before = broken_if floating_type (has_floating (own_type x)) ++ broken_if bad_length (has_too_many_cells structs (own_type x)) in
    let it = broken_if function_as_value (has_pointer_to_function (own_type x)) in
    none_broken function_as_value (has_pointer_to_function (own_type x)) (back_empty before it (front_empty (before ++ it) (broken_if volatile_access (reads_volatile role x)) clean))

pub finished : (node : ℕ) (role : Use) (it : Judged) (known : Known) → Sound known → TypedMade it.typed → Good TypedMade (finish node role it known)
unfolding finish
finished node role it known s h =
    judges node (it.faults ++ faults_of_any known.structs role it.typed) known (λ u k. Goes (used role it.typed) (record k { facts = k.facts ++ fact_of node it.typed ∷ [] }))
    (λ clean. went (noted (fact_of node it.typed) known (h.type, no_pointer known.structs role it.typed (back_empty it.faults (faults_of_any known.structs role it.typed) clean)) s) (used_made role h))

-- ---- names and constants

void_made : Made Void
void_made = record { so = tt }

pub nothing_made : TypedMade nothing
nothing_made = record { type = number_made }

function_or_void : (found : Option CType) → WhenThere Made found → Made (unwrap_or found Void)
function_or_void None h = void_made
function_or_void (Some t) h = h

pub name_made : (role : Use) (name : List ℕ) (found : Option Entity) (known : Known) → Sound known → TypedMade (judge_name role name found known).typed
unfolding judge_name
name_made role name None known s = nothing_made
name_made role name (Some (a_typedef t)) known s = nothing_made
name_made role name (Some (an_object n is_register)) known s = record { type = object_type_made known n s }
name_made role name (Some a_function) known s = record { type = function_or_void (declared_among name known.declared) (declared_among_made name known.declared s.declared) }
name_made role name (Some (an_enumerator z)) known s = record { type = number_made }

pub constant_made : (c : Option TypedConstant) → TypedMade (judge_constant c).typed
unfolding judge_constant
constant_made None = nothing_made
constant_made (Some c) = record { type = number_made }

pub letters_made : (bytes : List ℕ) → Made (text_type bytes)
letters_made bytes = record { so = (refl, tt) }

pub text_made : (known : Known) (bytes : List ℕ) (n : ℕ) → TypedMade (text_at known bytes n).typed
unfolding text_at
text_made known bytes n = record { type = letters_made bytes }

-- ---- operators on one operand

plus_made : (x : Typed) (known : Known) → TypedMade (judge_plus x known).typed
unfolding judge_plus
plus_made x known = record { type = number_made }

minus_made : (x : Typed) (known : Known) → TypedMade (judge_minus x known).typed
unfolding judge_minus
minus_made x known = record { type = number_made }

complement_made : (x : Typed) (known : Known) → TypedMade (judge_complement x known).typed
unfolding judge_complement
complement_made x known = record { type = number_made }

not_made : (x : Typed) → TypedMade (judge_not x).typed
unfolding judge_not
not_made x = record { type = number_made }

address_of_made : {x : Typed} → TypedMade x → TypedMade (judge_address_of x).typed
unfolding judge_address_of
address_of_made h = record { type = pointer_made h.type }

pub target_type_made : {x : Typed} → TypedMade x → Made (target_in x)
target_type_made {x} h = target_made (own_type x) (Num S.Int) h.type number_made

pointed_made : {x : Typed} → TypedMade x → TypedMade (placed (e.Pointed (target_in x) (value_in x)) (constant_address x.constancy))
pointed_made h = record { type = target_type_made h }

dereference_made : {x : Typed} (known : Known) → TypedMade x → TypedMade (judge_dereference x known).typed
unfolding judge_dereference
dereference_made {x} known h =
    elim (points_to (is_complete known.structs) (own_type x)) as (λ v. TypedMade (if v then judgement [] (placed (e.Pointed (target_in x) (value_in x)) (constant_address x.constancy)) else judgement (bad_address ∷ []) nothing).typed)
    [ true ↦ pointed_made h | false ↦ nothing_made ]

pub unary_made : {x : Typed} (op : UnaryOp) (known : Known) → TypedMade x → TypedMade (judge_unary op x known).typed
unary_made unary.AddressOf known h = address_of_made h
unary_made unary.Dereference known h = dereference_made known h
unary_made {x} unary.Plus known h = plus_made x known
unary_made {x} unary.Minus known h = minus_made x known
unary_made {x} unary.Complement known h = complement_made x known
unary_made {x} unary.Not known h = not_made x

pub own_unqualified : {x : Typed} → TypedMade x → Made (unqualified (own_type x))
own_unqualified {x} h = unqualified_made (own_type x) h.type

stepped_made : {x : Typed} (known : Known) (gives : When) (op : Op) → TypedMade x → Made (type_of (stepped known gives op x))
stepped_made {x} known gives op h =
    elim (is_pointer (own_type x)) as (λ v. Made (type_of (if v then e.StepPointer (unqualified (own_type x)) gives op (size_of known.model known.structs (target_in x)) (place_in x) else e.Step (unqualified (own_type x)) gives op (promoted known.model (scalar_in x)) (place_in x))))
    [ true ↦ own_unqualified h | false ↦ own_unqualified h ]

pub step_made : {x : Typed} (gives : When) (op : Op) (known : Known) → TypedMade x → TypedMade (judge_step gives op x known).typed
unfolding judge_step
step_made gives op known h = record { type = stepped_made known gives op h }

pub size_made : (t : CType) (known : Known) → TypedMade (judge_size t known).typed
unfolding judge_size
size_made t known = record { type = number_made }

-- ---- members and elements

part_made : (x : Typed) (found : Option Placed) → WhenThere PlacedMade found → TypedMade (judge_part x found).typed
part_made x None h = nothing_made
part_made x (Some member) h = record { type = qualified_made (qualifiers_of (own_type x)) member.type h }

pub member_typed : (x : Typed) (name : List ℕ) (known : Known) → Sound known → TypedMade (judge_member x name known).typed
unfolding judge_member
member_typed x name known s = part_made x (member_in known (own_type x) name) (member_made known (own_type x) name s)

member_behind : (target : Option CType) (name : List ℕ) (known : Known) → Sound known → WhenThere PlacedMade (option_and_then (λ t. member_in known t name) target)
member_behind None name known s = tt
member_behind (Some t) name known s = member_made known t name s

pub arrow_made : (x : Typed) (name : List ℕ) (known : Known) → Sound known → TypedMade (judge_arrow x name known).typed
unfolding judge_arrow
arrow_made x name known s =
    part_made (placed (e.Pointed (target_in x) (value_in x)) (constant_address x.constancy)) (option_and_then (λ t. member_in known t name) (target_of (own_type x)))
    (member_behind (target_of (own_type x)) name known s)

pub pointer_among_made : {x y : Typed} → TypedMade x → TypedMade y → TypedMade (pointer_among x y)
pointer_among_made {x} {y} h i = elim (is_pointer (own_type x)) as (λ v. TypedMade (if v then x else y)) [ true ↦ h | false ↦ i ]

pub index_made : {x y : Typed} (known : Known) → TypedMade x → TypedMade y → TypedMade (judge_index x y known).typed
unfolding judge_index
index_made {x} {y} known h i = let pointer : TypedMade (pointer_among x y) = pointer_among_made h i in record { type = target_type_made pointer }

-- ---- calls and casts

function_made : (known : Known) (name : List ℕ) (t : CType) (xs : List Typed) → Made t → TypedMade (judge_function known name t xs).typed
unfolding judge_function
function_made known name (Function result ts dots) xs h = record { type = unqualified_made result (record { so = h.so }) }
function_made known name _ xs h = nothing_made

-- a call of what is written so
abbrev call_of : List Typed → Known → Form → Judged
call_of xs known (a_value v) = judgement (bad_call ∷ []) nothing
call_of xs known (a_place place) = judgement (bad_call ∷ []) nothing
call_of xs known (a_designator name t) = judge_function known name t xs

form_called : (form : Form) (xs : List Typed) (known : Known) → Made (type_in form) → TypedMade (call_of xs known form).typed
form_called (a_value v) xs known h = nothing_made
form_called (a_place place) xs known h = nothing_made
form_called (a_designator name t) xs known h = function_made known name t xs h

pub call_made : {f : Typed} (xs : List Typed) (known : Known) → TypedMade f → TypedMade (judge_call f xs known).typed
unfolding judge_call
call_made {f} xs known h = form_called f.form xs known h.type

pub cast_made : (t : CType) (x : Typed) (known : Known) → Made t → TypedMade (judge_cast t x known).typed
unfolding judge_cast
cast_made t x known h = record { type = unqualified_made t h }
