-- A typed expression, and what is judged at the end of each expression, whatever its operator: C11 6.3.2.1.
use Rattle.std.specs.Prelude.{ℕ, ℤ, pos, Bool, true, false, ◌&&◌, ◌||◌, if◌then◌else◌, List, ◌++◌, Option, Some, None, unwrap_or}
use Rattle.lt_model.specs.declared.scalar.DataModel.{DataModel}
use Rattle.lt_model.specs.declared.scalar.Scalar.{Scalar}
use Rattle.lt_model.specs.declared.scalar.Scalar.TheVariants as S
use Rattle.lt_model.specs.Scalar.{convert_of}
use Rattle.lt_tree.specs.Typing.Types.{CType, Void, Num, Pointer, Array, scalar_of, unqualified, own_qualifiers, same, is_void, is_integer, is_struct, is_array, is_floating, is_pointer_to_function, element}
use Rattle.lt_tree.specs.Typing.Extents.{Structs, has_too_many_cells}
use Rattle.lt_tree.specs.Typing.Constants.{Constancy, varying, faulty, number, null_constant, null_address, address, is_zero}
use Rattle.lt_tree.specs.Typing.Rules.{Rule, broken_if, floating_type, bad_length, function_as_value, volatile_access}
use Rattle.lt_tree.specs.Typing.TypedTree as e
use Rattle.lt_tree.specs.Typing.TypedTree.{Value, Place, Conversion, type_of, type_at}
use Rattle.lt_tree.specs.Typing.Entities.{Fact}
use Rattle.lt_tree.specs.Typing.Steps.{Walk, ◌>>=◌, ◌>>◌, gives, here, settle, notes}

-- what an expression is: a value, a place, or the name of a function, which can only be called
pub data Form : Type 0 where
  a_value : (value : Value) → Form
  a_place : (place : Place) → Form
  a_designator : (name : List ℕ) (type : CType) → Form

-- An expression with what it is as a constant. The constancy of a place is that of its address; that of the erasure takes marks off.
pub record Typed : Type 0 where
  pub form : Form
  pub is_register : Bool
  -- whether it is a `pc_after` itself
  pub is_after : Bool
  pub constancy : Constancy
  pub erased : Constancy

-- how the text around an expression uses it
pub data Use : Type 0 where
  as_value : Use
  -- where a `pc_decide` may stand
  as_truth : Use
  -- as the place that it may be: nothing is read by itself
  as_place : Use
  as_callee : Use

-- a value as a typed expression
abbrev pub valued : Value → Constancy → Constancy → Typed
valued v constancy erased = record { form = a_value v; is_register = false; is_after = false; constancy = constancy; erased = erased }

-- a value that is no constant
abbrev pub varies : Value → Typed
varies v = valued v varying varying

abbrev pub placed : Place → Constancy → Typed
placed place constancy = record { form = a_place place; is_register = false; is_after = false; constancy = constancy; erased = constancy }

abbrev pub constant : Scalar → ℤ → Typed
constant s z = valued (e.Constant (Num s) z) (number z) (number z)

-- where a rule is broken there is no expression to go on with
abbrev pub nothing : Typed
nothing = constant S.Int (pos 0)

-- the type, with the qualifiers of a place
abbrev pub own_type : Typed → CType
own_type typed = elim (typed.form) [ a_value v ↦ type_of v | a_place place ↦ type_at place | a_designator name type ↦ type ]

-- ---- places and values, C11 6.3.2.1

-- whether a place is an lvalue: a part of a struct that is the value of an expression isn't
abbrev pub is_lvalue_place : Place → Bool
is_lvalue_place (e.Object t n) = true
is_lvalue_place (e.Pointed t p) = true
is_lvalue_place (e.Element t size side a b) = true
is_lvalue_place (e.Part t offset whole) = is_lvalue_place whole
is_lvalue_place (e.Held t v) = false

abbrev pub is_lvalue : Typed → Bool
is_lvalue typed = elim (typed.form) [ a_value v ↦ false | a_place place ↦ is_lvalue_place place | a_designator name type ↦ false ]

-- the value of a place: an array is the address of its first element
abbrev pub value_at : CType → Place → Value
value_at (Array t n) place = e.Decay (Pointer t) place
value_at t place = if is_struct t then e.Whole (unqualified t) place else e.Load (unqualified t) place

abbrev pub value_in : Typed → Value
value_in typed = elim (typed.form) [ a_value v ↦ v | a_place place ↦ value_at (type_at place) place | a_designator name type ↦ e.Constant Void (pos 0) ]

abbrev pub place_in : Typed → Place
place_in typed = elim (typed.form) [ a_value v ↦ e.Held (type_of v) v | a_place place ↦ place | a_designator name type ↦ e.Held Void (e.Constant Void (pos 0)) ]

-- a place that is read: of its constancy an array keeps the address
abbrev pub read : Place → Typed → Typed
read place typed =
    if is_array (type_at place) then record typed { form = a_value (value_at (type_at place) place) } else varies (value_at (type_at place) place)

abbrev pub as_it_is_read : Typed → Typed
as_it_is_read typed = elim (typed.form) [ a_value v ↦ typed | a_place place ↦ read place typed | a_designator name type ↦ typed ]

abbrev pub is_read : Use → Bool
is_read as_place = false
is_read _ = true

abbrev pub used : Use → Typed → Typed
used role typed = if is_read role then as_it_is_read typed else typed

-- ---- what is judged at each expression

-- an expression's type is a floating one, or an array of such
abbrev pub has_floating : CType → Bool
has_floating t = is_floating (element t)

abbrev pub has_pointer_to_function : CType → Bool
has_pointer_to_function t = is_pointer_to_function (element t)

-- a scalar or a struct is read through an lvalue that is volatile
abbrev pub reads_volatile : Use → Typed → Bool
reads_volatile role typed = is_read role && is_lvalue typed && (own_qualifiers (own_type typed)).volatile

abbrev pub faults_of_any : Structs → Use → Typed → List Rule
faults_of_any structs role typed =
    broken_if floating_type (has_floating (own_type typed))
    ++ broken_if bad_length (has_too_many_cells structs (own_type typed))
    ++ broken_if function_as_value (has_pointer_to_function (own_type typed))
    ++ broken_if volatile_access (reads_volatile role typed)

abbrev pub object_of_place : Place → Option ℕ
object_of_place (e.Object t n) = Some n
object_of_place _ = None

abbrev pub object_of : Typed → Option ℕ
object_of typed = elim (typed.form) [ a_value v ↦ None | a_place place ↦ object_of_place place | a_designator name type ↦ None ]

abbrev pub fact_of : ℕ → Typed → Fact
fact_of node typed = record {
  node = node;
  type = own_type typed;
  is_place = is_lvalue typed;
  constancy = typed.erased;
  object = object_of typed;
}

-- An expression, and the rules that its operator breaks.
pub record Judged : Type 0 where
  pub faults : List Rule
  pub typed : Typed

abbrev pub judgement : List Rule → Typed → Judged
judgement faults typed = record { faults = faults; typed = typed }

-- the end of an expression's node
unfoldable pub finish : ℕ → Use → Judged → Walk Typed
finish node role judged = do
  known ← here
  settle node (judged.faults ++ faults_of_any known.structs role judged.typed)
  notes (fact_of node judged.typed)
  gives (used role judged.typed)

-- ---- conversions, C11 6.3

abbrev pub how_to : CType → CType → Conversion
how_to t u =
    if is_void t then e.to_void
    else (if is_integer t then (if is_integer u then e.to_integer else e.to_truth)
    else (if is_integer u then e.to_null else e.to_pointer))

-- a value that the text casts to this type
abbrev pub cast_to : CType → Value → Value
cast_to t v = e.Convert (how_to t (type_of v)) t v

-- a value as one of this type, of which nothing is seen where it has it already
abbrev pub converted_to : CType → Value → Value
converted_to t v = if is_struct t || same t (type_of v) then v else cast_to t v

-- zero as a pointer
abbrev pub null_of : CType → Constancy
null_of t = if same t (Pointer Void) then null_constant else null_address

abbrev pub constancy_as_pointer : CType → Constancy → Constancy
constancy_as_pointer t (number z) = if is_zero (number z) then null_of t else varying
constancy_as_pointer t null_constant = null_address
constancy_as_pointer t null_address = null_address
constancy_as_pointer t (address object offset) = address object offset
constancy_as_pointer t varying = varying
constancy_as_pointer t faulty = varying

-- the truth of an address, C11 6.3.1.2: that of an object isn't null
abbrev pub truth_of_address : Constancy → Constancy
truth_of_address null_constant = number (pos 0)
truth_of_address null_address = number (pos 0)
truth_of_address (address object offset) = number (pos 1)
truth_of_address _ = varying

abbrev pub constancy_as_number : DataModel → Scalar → Constancy → Constancy
constancy_as_number m s (number z) = number (convert_of m s z)
constancy_as_number m s faulty = faulty
constancy_as_number m S.Bool c = truth_of_address c
constancy_as_number m s _ = varying

-- what a constant is once it is converted
abbrev pub constancy_to : DataModel → CType → Constancy → Constancy
constancy_to m (Num s) c = constancy_as_number m s c
constancy_to m (Pointer t) c = constancy_as_pointer (Pointer t) c
constancy_to m _ c = varying

-- the scalar type of an integer
abbrev pub scalar_in : Typed → Scalar
scalar_in typed = unwrap_or (scalar_of (own_type typed)) S.Int
