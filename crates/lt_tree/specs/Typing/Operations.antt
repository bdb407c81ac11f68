-- What each operator makes of its operands, and which rules it breaks: C11 6.5.2 to 6.5.4.
use Rattle.std.specs.Prelude.{ℕ, suc, ◌+◌, pos, ◌-ℤ◌, ◌==◌, nat_le, Bool, true, false, not, ◌&&◌, ◌||◌, if◌then◌else◌, List, [], ◌∷◌, ◌++◌, length, slice_get, codes, Option, Some, None, unwrap_or, option_and_then}
use Rattle.std.specs.Str.{bytes_eq}
use Rattle.std.specs.List.{list_any}
use Rattle.lt_model.specs.declared.scalar.DataModel.{DataModel}
use Rattle.lt_model.specs.declared.scalar.Scalar.{Scalar}
use Rattle.lt_model.specs.declared.scalar.Scalar.TheVariants as S
use Rattle.lt_model.specs.declared.operator.Op.{Op}
use Rattle.lt_model.specs.declared.operator.Op.TheVariants as O
use Rattle.lt_model.specs.Conversions.{promoted}
use Rattle.lt_tree.specs.Typing.Types.{CType, CTypes, no_types, a_type, Void, Num, Pointer, Array, Function, target_of, struct_of, unqualified, qualified, qualifiers_of, own_qualifiers, value_type, is_void, is_integer, is_pointer, is_scalar}
use Rattle.lt_tree.specs.Typing.Extents.{Structs, is_complete, has_size, size_of, Placed, member_of}
use Rattle.lt_model.specs.Scalar.{size_type}
use Rattle.lt_tree.specs.Typing.Constants.{Constancy, varying, number, address, is_null_constant, converted, applied, negated, moved_by, TypedConstant}
use Rattle.lt_tree.specs.Typing.Rules.{Rule, broken_if, unless, undeclared_name, floating_type, function_as_value, volatile_access, operand_not_integer, bad_sum, not_scalar, bad_assignment, not_modifiable, bad_address, no_member, bad_call, bad_cast, no_size, constant_too_large, no_body}
use Rattle.lt_tree.specs.Typing.TypedTree as e
use Rattle.lt_tree.specs.Typing.TypedTree.{Value, Values, Place, Side, on_left, on_right, When, type_of}
use Rattle.lt_tree.specs.Typing.Entities.{Known, Entity, an_object, a_function, a_typedef, an_enumerator, is_static, type_of_object, declared_among}
use Rattle.lt_tree.specs.Typing.Operands.{holds, can_be_changed_by, can_be_subscripted, is_assignable, is_modifiable, can_be_cast, points_to}
use Rattle.lt_tree.specs.Typing.Expressions.{Typed, a_value, a_place, a_designator, Use, as_callee, valued, varies, placed, constant, nothing, own_type, is_lvalue, value_in, place_in, Judged, judgement, cast_to, converted_to, constancy_to, scalar_in, has_floating, has_pointer_to_function}

-- ---- names and constants, C11 6.5.1

abbrev pub lives_from_the_start : Known → ℕ → Bool
lives_from_the_start known n = holds (λ object. is_static object.life) (slice_get known.objects n)

abbrev pub constancy_of_object : Known → ℕ → Constancy
constancy_of_object known n = if lives_from_the_start known n then address n 0 else varying

abbrev pub object_named : Known → ℕ → Bool → Typed
object_named known n is_register =
    record (placed (e.Object (type_of_object known n) n) (constancy_of_object known n)) { is_register = is_register }

-- the name of a function may only be called
abbrev pub is_callee : Use → Bool
is_callee as_callee = true
is_callee _ = false

abbrev pub function_named : Known → List ℕ → Typed
function_named known name =
    record { form = a_designator name (unwrap_or (declared_among name known.declared) Void); is_register = false; is_after = false; constancy = varying; erased = varying }

unfoldable pub judge_name : Use → List ℕ → Option Entity → Known → Judged
judge_name role name None known = judgement (undeclared_name ∷ []) nothing
judge_name role name (Some (a_typedef t)) known = judgement (undeclared_name ∷ []) nothing
judge_name role name (Some (an_object n is_register)) known = judgement [] (object_named known n is_register)
judge_name role name (Some a_function) known = judgement (unless (is_callee role) function_as_value) (function_named known name)
judge_name role name (Some (an_enumerator z)) known = judgement [] (constant S.Int z)

unfoldable pub judge_constant : Option TypedConstant → Judged
judge_constant None = judgement (constant_too_large ∷ []) nothing
judge_constant (Some c) = judgement [] (constant c.type c.value)

-- the type of a string literal of these bytes, C11 6.4.5p6
abbrev pub text_type : List ℕ → CType
text_type bytes = Array (Num S.Char) (suc (length bytes))

-- ---- operators on one operand, C11 6.5.2.4 and 6.5.3

-- an integer is converted to its promoted type, C11 6.3.1.1
abbrev pub promoted_value : DataModel → Typed → Value
promoted_value m x = converted_to (Num (promoted m (scalar_in x))) (value_in x)

abbrev pub promoted_constancy : DataModel → Typed → Constancy → Constancy
promoted_constancy m x c = converted m (promoted m (scalar_in x)) c

-- `+x` is a conversion to the promoted type
unfoldable pub judge_plus : Typed → Known → Judged
judge_plus x known =
    judgement (unless (is_integer (own_type x)) operand_not_integer)
    (valued (cast_to (Num (promoted known.model (scalar_in x))) (value_in x)) (promoted_constancy known.model x x.constancy) (promoted_constancy known.model x x.erased))

-- `-x` is `0 - x` in the promoted type
unfoldable pub judge_minus : Typed → Known → Judged
judge_minus x known =
    judgement (unless (is_integer (own_type x)) operand_not_integer)
    (valued (e.Minus (Num s) (promoted_value known.model x)) (from_zero x.constancy) (from_zero x.erased))
  where
    s : Scalar
    s = promoted known.model (scalar_in x)

    from_zero : Constancy → Constancy
    from_zero c = applied known.model O.Sub s (number (pos 0)) (converted known.model s c)

-- `~x` is `-1 - x` in a signed type, and the greatest value less x in an unsigned one
unfoldable pub judge_complement : Typed → Known → Judged
judge_complement x known =
    judgement (unless (is_integer (own_type x)) operand_not_integer)
    (valued (e.Complement (Num s) (promoted_value known.model x)) (turned x.constancy) (turned x.erased))
  where
    s : Scalar
    s = promoted known.model (scalar_in x)

    turned : Constancy → Constancy
    turned c = applied known.model O.Xor s (converted known.model s (number (pos 0 -ℤ pos 1))) (converted known.model s c)

-- `!x`
unfoldable pub judge_not : Typed → Judged
judge_not x =
    judgement (unless (is_scalar (own_type x)) not_scalar) (valued (e.Not (Num S.Int) (value_in x)) (negated x.constancy) (negated x.erased))

-- `&x`
unfoldable pub judge_address_of : Typed → Judged
judge_address_of x =
    judgement (unless (is_lvalue x && not x.is_register) bad_address) (valued (e.AddressOf (Pointer (own_type x)) (place_in x)) x.constancy x.constancy)

abbrev pub target_in : Typed → CType
target_in x = unwrap_or (target_of (own_type x)) (Num S.Int)

abbrev pub constant_address : Constancy → Constancy
constant_address (address object offset) = address object offset
constant_address _ = varying

-- `*x`: what isn't complete is no object that could be read
unfoldable pub judge_dereference : Typed → Known → Judged
judge_dereference x known =
    if points_to (is_complete known.structs) (own_type x)
    then judgement [] (placed (e.Pointed (target_in x) (value_in x)) (constant_address x.constancy))
    else judgement (bad_address ∷ []) nothing

-- the place is an lvalue that may be changed
abbrev pub can_be_modified : Structs → Typed → Bool
can_be_modified structs x = is_lvalue x && is_modifiable structs (own_type x)

abbrev pub writes_volatile : Typed → Bool
writes_volatile x = is_lvalue x && (own_qualifiers (own_type x)).volatile

abbrev pub write_faults : Structs → Typed → List Rule
write_faults structs x = unless (can_be_modified structs x) not_modifiable ++ broken_if volatile_access (writes_volatile x)

abbrev pub stepped : Known → When → Op → Typed → Value
stepped known gives op x =
    if is_pointer (own_type x) then e.StepPointer (unqualified (own_type x)) gives op (size_of known.model known.structs (target_in x)) (place_in x)
    else e.Step (unqualified (own_type x)) gives op (promoted known.model (scalar_in x)) (place_in x)

-- `x++`, `x--`, `++x` and `--x`
unfoldable pub judge_step : When → Op → Typed → Known → Judged
judge_step gives op x known =
    judgement (unless (can_be_changed_by known.structs (value_type (own_type x)) (Num S.Int)) bad_sum ++ write_faults known.structs x)
    (varies (stepped known gives op x))

-- the size of a type, of the type that sizes have
unfoldable pub judge_size : CType → Known → Judged
judge_size t known =
    judgement (unless (has_size known.structs t) no_size) (constant (size_type known.model) (pos (size_of known.model known.structs t)))

-- ---- members and elements, C11 6.5.2.1 and 6.5.2.3

abbrev pub part_of : Typed → Placed → Typed
part_of x member =
    record x { form = a_place (e.Part (qualified (qualifiers_of (own_type x)) member.type) member.offset (place_in x)); constancy = behind x.constancy; erased = behind x.constancy }
  where
    behind : Constancy → Constancy
    behind (address object offset) = address object (offset + member.offset)
    behind _ = varying

abbrev pub judge_part : Typed → Option Placed → Judged
judge_part x None = judgement (no_member ∷ []) nothing
judge_part x (Some member) = judgement [] (part_of x member)

-- the member of a struct's type that has this name
abbrev pub member_in : Known → CType → List ℕ → Option Placed
member_in known t name = option_and_then (λ k. member_of known.model known.structs k name) (struct_of t)

-- `x.m`
unfoldable pub judge_member : Typed → List ℕ → Known → Judged
judge_member x name known = judge_part x (member_in known (own_type x) name)

-- `x->m` is `(*x).m`
unfoldable pub judge_arrow : Typed → List ℕ → Known → Judged
judge_arrow x name known =
    judge_part (placed (e.Pointed (target_in x) (value_in x)) (constant_address x.constancy)) (option_and_then (λ t. member_in known t name) (target_of (own_type x)))

abbrev pub object_size : Known → ℕ → ℕ
object_size known n = size_of known.model known.structs (type_of_object known n)

abbrev pub side_of : Typed → Side
side_of x = if is_pointer (own_type x) then on_left else on_right

-- the operand that is the pointer, and the other one
abbrev pub pointer_among : Typed → Typed → Typed
pointer_among x y = if is_pointer (own_type x) then x else y

abbrev pub other_among : Typed → Typed → Typed
other_among x y = if is_pointer (own_type x) then y else x

abbrev pub element_size : Known → Typed → Typed → ℕ
element_size known x y = size_of known.model known.structs (target_in (pointer_among x y))

-- `x[y]`
unfoldable pub judge_index : Typed → Typed → Known → Judged
judge_index x y known =
    judgement (unless (can_be_subscripted known.structs (own_type x) (own_type y)) bad_sum)
    (record (placed (e.Element (target_in (pointer_among x y)) (element_size known x y) (side_of x) (value_in x) (value_in y))
    (moved_by (object_size known) (element_size known x y) (pointer_among x y).constancy (other_among x y).constancy))
    { is_register = (pointer_among x y).is_register })

-- ---- calls, C11 6.5.2.2

-- A `pc_after` counts as the null pointer constant that it holds, where a value is assigned.
abbrev pub counts_as_null : Typed → Bool
counts_as_null x = is_null_constant x.constancy || (x.is_after && is_null_constant x.erased)

-- whether the value can be assigned to this type
abbrev pub fits : CType → Typed → Bool
fits t x = is_assignable t (own_type x) (counts_as_null x)

abbrev pub count_types : CTypes → ℕ
count_types no_types = 0
count_types (a_type t ts) = suc (count_types ts)

abbrev pub has_type : (CType → Bool) → CTypes → Bool
has_type test no_types = false
has_type test (a_type t ts) = test t || has_type test ts

-- each argument fits its parameter, and one behind them is a value
abbrev pub all_fit : List Typed → CTypes → Bool
all_fit [] ts = true
all_fit (x ∷ xs) no_types = not (is_void (own_type x)) && all_fit xs no_types
all_fit (x ∷ xs) (a_type t ts) = fits t x && all_fit xs ts

abbrev pub is_right_number : ℕ → CTypes → Bool → Bool
is_right_number n ts dots = (n == count_types ts) || (dots && nat_le (count_types ts) n)

-- an argument behind the parameters is promoted, C11 6.5.2.2p6
abbrev pub promoted_argument : DataModel → Typed → Value
promoted_argument m x = if is_integer (own_type x) then promoted_value m x else value_in x

abbrev pub passed : DataModel → List Typed → CTypes → Values
passed m [] ts = e.no_values
passed m (x ∷ xs) no_types = e.a_value (promoted_argument m x) (passed m xs no_types)
passed m (x ∷ xs) (a_type t ts) = e.a_value (converted_to t (value_in x)) (passed m xs ts)

abbrev pub is_among : List ℕ → List (List ℕ) → Bool
is_among name names = list_any (bytes_eq name) names

-- the functions that stop a run
abbrev pub stopping : List (List ℕ)
stopping = codes "abort" ∷ codes "exit" ∷ codes "_Exit" ∷ codes "__assert_fail" ∷ []

abbrev pub never_called : List (List ℕ)
never_called = codes "malloc" ∷ codes "calloc" ∷ codes "realloc" ∷ codes "free" ∷ codes "setjmp" ∷ codes "longjmp" ∷ []

-- a function that has a body, stops the run, or gives a value that an input can hold
abbrev pub can_be_run : Known → List ℕ → CType → Bool
can_be_run known name result =
    is_among name known.defined || ((is_void result || is_integer result || is_among name stopping) && not (is_among name never_called))

-- a floating type or a pointer to a function that is taken or given
abbrev pub takes_or_gives : (CType → Bool) → CType → CTypes → Bool
takes_or_gives test result ts = test result || has_type test ts

-- a call of a function of this type
unfoldable pub judge_function : Known → List ℕ → CType → List Typed → Judged
judge_function known name (Function result ts dots) xs =
    judgement
    (broken_if floating_type (takes_or_gives has_floating result ts)
    ++ broken_if function_as_value (takes_or_gives has_pointer_to_function result ts)
    ++ unless (all_fit xs ts) bad_assignment
    ++ unless (is_right_number (length xs) ts dots) bad_call
    ++ unless (can_be_run known name result) no_body)
    (varies (e.Call (unqualified result) name (passed known.model xs ts)))
judge_function known name _ xs = judgement (bad_call ∷ []) nothing

-- `f(..)`
unfoldable pub judge_call : Typed → List Typed → Known → Judged
judge_call f xs known =
    elim (f.form) [ a_value v ↦ judgement (bad_call ∷ []) nothing | a_place place ↦ judgement (bad_call ∷ []) nothing | a_designator name type ↦ judge_function known name type xs ]

-- ---- casts, C11 6.5.4

unfoldable pub judge_cast : CType → Typed → Known → Judged
judge_cast t x known =
    judgement (unless (can_be_cast t (own_type x) x.constancy) bad_cast)
    (valued (cast_to (unqualified t) (value_in x)) (constancy_to known.model (unqualified t) x.constancy) (constancy_to known.model (unqualified t) x.erased))
