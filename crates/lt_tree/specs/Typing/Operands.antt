-- What the operators ask of their operands, C11 6.5, each condition by a name. Types are those of values: arrays are pointers here, and
-- nothing has qualifiers of its own.
use Rattle.std.specs.Prelude.{Bool, true, false, not, ◌&&◌, ◌||◌, Option, Some, None}
use Rattle.lt_model.specs.declared.scalar.Scalar.TheVariants as S
use Rattle.lt_model.specs.declared.operator.Op.{Op}
use Rattle.lt_model.specs.declared.operator.Op.TheVariants as O
use Rattle.lt_tree.specs.Typing.Types.{CType, scalar_of, target_of, own_qualifiers, include, alike, same_scalar, is_void, is_integer, is_pointer, is_struct, is_array, is_function}
use Rattle.lt_tree.specs.Typing.Extents.{Structs, is_complete, has_size, has_constant_part}
use Rattle.lt_tree.specs.Typing.Constants.{Constancy, is_null_constant, is_zero}

abbrev pub holds : {A : Type 0} → (A → Bool) → Option A → Bool
holds test None = false
holds test (Some a) = test a

abbrev pub are_integers : CType → CType → Bool
are_integers t u = is_integer t && is_integer u

-- a pointer to a type with this property
abbrev pub points_to : (CType → Bool) → CType → Bool
points_to test t = holds test (target_of t)

-- a pointer that can be moved by elements
abbrev pub is_movable : Structs → CType → Bool
is_movable structs t = points_to (has_size structs) t

-- two pointers of one type: what they point to is the same without its own qualifiers
abbrev pub point_alike : CType → CType → Bool
point_alike t u = points_to (λ a. points_to (alike a) u) t

abbrev pub is_pointer_to_void : CType → Bool
is_pointer_to_void t = points_to is_void t

-- a pointer to an object, of a complete type or not
abbrev pub is_pointer_to_object : CType → Bool
is_pointer_to_object t = points_to (λ a. not (is_function a)) t

-- ---- sums, C11 6.5.2.1, 6.5.2.4, 6.5.3.1 and 6.5.6

abbrev pub is_pointer_and_integer : Structs → CType → CType → Bool
is_pointer_and_integer structs t u = is_movable structs t && is_integer u

-- `a + b`
abbrev pub can_be_added : Structs → CType → CType → Bool
can_be_added structs t u = are_integers t u || is_pointer_and_integer structs t u || is_pointer_and_integer structs u t

-- `a - b`
abbrev pub can_be_subtracted : Structs → CType → CType → Bool
can_be_subtracted structs t u =
    are_integers t u || is_pointer_and_integer structs t u || (is_movable structs t && is_movable structs u && point_alike t u)

-- `a += b`, `a -= b`, and `++` and `--` with the integer 1
abbrev pub can_be_changed_by : Structs → CType → CType → Bool
can_be_changed_by structs t u = are_integers t u || is_pointer_and_integer structs t u

-- `a[b]`
abbrev pub can_be_subscripted : Structs → CType → CType → Bool
can_be_subscripted structs t u = is_pointer_and_integer structs t u || is_pointer_and_integer structs u t

-- ---- comparisons, C11 6.5.8 and 6.5.9

abbrev pub is_relation : Op → Bool
is_relation O.Lt = true
is_relation O.Le = true
is_relation O.Gt = true
is_relation O.Ge = true
is_relation _ = false

abbrev pub is_equality : Op → Bool
is_equality O.Eq = true
is_equality O.Ne = true
is_equality _ = false

abbrev pub is_shift : Op → Bool
is_shift O.Shl = true
is_shift O.Shr = true
is_shift _ = false

-- `a < b`
abbrev pub can_be_ordered : CType → CType → Bool
can_be_ordered t u = are_integers t u || point_alike t u

-- a pointer, beside a null pointer constant or a pointer to void
abbrev pub goes_with_any_pointer : CType → Constancy → CType → Bool
goes_with_any_pointer t c u = is_pointer u && (is_null_constant c || is_pointer_to_void t)

-- `a == b`
abbrev pub can_be_compared : CType → Constancy → CType → Constancy → Bool
can_be_compared t c u d = can_be_ordered t u || goes_with_any_pointer t c u || goes_with_any_pointer u d t

-- ---- choices, C11 6.5.15

abbrev pub are_structs_alike : CType → CType → Bool
are_structs_alike t u = is_struct t && alike t u

-- the second and third operand
abbrev pub can_be_chosen_from : CType → Constancy → CType → Constancy → Bool
can_be_chosen_from t c u d =
    can_be_ordered t u || (is_void t && is_void u) || are_structs_alike t u || goes_with_any_pointer t c u || goes_with_any_pointer u d t

-- ---- assignment, C11 6.5.16.1

-- what the first points to has all the qualifiers of what the second points to
abbrev pub keeps_qualifiers : CType → CType → Bool
keeps_qualifiers t u = points_to (λ a. points_to (λ b. include (own_qualifiers a) (own_qualifiers b)) u) t

abbrev pub are_pointers_assignable : CType → CType → Bool
are_pointers_assignable t u =
    keeps_qualifiers t u && (point_alike t u || (is_pointer_to_void t && is_pointer_to_object u) || (is_pointer_to_object t && is_pointer_to_void u))

abbrev pub is_truth_type : CType → Bool
is_truth_type t = holds (same_scalar S.Bool) (scalar_of t)

-- Whether a value of the second type can be assigned to the first; the third says whether it counts as a null pointer constant.
abbrev pub is_assignable : CType → CType → Bool → Bool
is_assignable t u null =
    are_integers t u || are_structs_alike t u || are_pointers_assignable t u || (is_pointer t && null) || (is_truth_type t && is_pointer u)

-- ---- places, C11 6.3.2.1

-- neither an array nor incomplete nor `const`, also in its parts
abbrev pub is_modifiable : Structs → CType → Bool
is_modifiable structs t = not (is_array t) && is_complete structs t && not (has_constant_part structs t)

-- ---- casts, C11 6.5.4

abbrev pub can_be_cast : CType → CType → Constancy → Bool
can_be_cast t u c = is_void t || are_integers t u || (is_pointer t && is_pointer u) || (is_pointer t && is_integer u && is_zero c)
