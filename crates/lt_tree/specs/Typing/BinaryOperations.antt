-- What operators on two and three operands make of them, and which rules they break: C11 6.5.5 to 6.5.17.
use Rattle.std.specs.Prelude.{ℤ, pos, ◌-ℤ◌, Bool, ◌&&◌, ◌||◌, if◌then◌else◌, List, [], ◌∷◌, ◌++◌, Option, Some, None}
use Rattle.lt_model.specs.declared.scalar.Scalar.{Scalar}
use Rattle.lt_model.specs.declared.scalar.Scalar.TheVariants as S
use Rattle.lt_model.specs.declared.operator.Op.{Op}
use Rattle.lt_model.specs.declared.operator.Op.TheVariants as O
use Rattle.lt_model.specs.Conversions.{promoted, usual_of}
use Rattle.lt_tree.specs.declared.expression.LogicalOp.{LogicalOp}
use Rattle.lt_tree.specs.declared.expression.LogicalOp.TheVariants as logical
use Rattle.lt_tree.specs.Typing.Types.{CType, Void, Num, Pointer, unqualified, qualified, own_qualifiers, both, value_type, is_integer, is_pointer, is_scalar}
use Rattle.lt_tree.specs.Typing.Extents.{Structs}
use Rattle.lt_model.specs.Scalar.{difference_type}
use Rattle.lt_tree.specs.Typing.Constants.{Constancy, number, is_null_constant, operated, moved_by, connected, chosen, is_false, is_true}
use Rattle.lt_tree.specs.Typing.Rules.{Rule, unless, operand_not_integer, bad_sum, bad_comparison, not_scalar, bad_choice, bad_assignment}
use Rattle.lt_tree.specs.Typing.TypedTree as e
use Rattle.lt_tree.specs.Typing.TypedTree.{Value, Values, type_of}
use Rattle.lt_tree.specs.Typing.Entities.{Known}
use Rattle.lt_tree.specs.Typing.Operands.{are_integers, point_alike, can_be_added, can_be_subtracted, can_be_changed_by, can_be_ordered, can_be_compared, can_be_chosen_from, is_relation, is_equality, is_shift}
use Rattle.lt_tree.specs.Typing.Expressions.{Typed, valued, varies, own_type, value_in, place_in, Judged, judgement, converted_to, constancy_to, scalar_in}
use Rattle.lt_tree.specs.Typing.Operations.{fits, target_in, object_size, side_of, pointer_among, other_among, element_size, write_faults}

-- ---- integers, C11 6.5.5 to 6.5.12

-- the type of an operation on integers: that of a shift is the promoted type of its left operand
abbrev pub operation_type : Known → Op → Typed → Typed → Scalar
operation_type known op x y =
    if is_shift op then promoted known.model (scalar_in x) else usual_of known.model (scalar_in x) (scalar_in y)

-- the type of its right operand
abbrev pub right_type : Known → Op → Typed → Typed → Scalar
right_type known op x y = if is_shift op then promoted known.model (scalar_in y) else operation_type known op x y

-- relations give an `int`
abbrev pub result_type : Op → Scalar → CType
result_type op s = if is_relation op || is_equality op then Num S.Int else Num s

abbrev pub on_integers : Known → Op → Typed → Typed → Typed
on_integers known op x y =
    valued (e.Arithmetic (result_type op s) op s (converted_to (Num s) (value_in x)) (converted_to (Num r) (value_in y)))
    (operated known.model op s r x.constancy y.constancy) (operated known.model op s r x.erased y.erased)
  where
    s : Scalar
    s = operation_type known op x y

    r : Scalar
    r = right_type known op x y

-- ---- pointers, C11 6.5.6, 6.5.8 and 6.5.9

-- a constant number of elements, in the direction of the operator
abbrev pub towards : Op → Constancy → Constancy
towards O.Sub (number z) = number (pos 0 -ℤ z)
towards _ c = c

-- a pointer and an integer
abbrev pub moved : Known → Op → Typed → Typed → Typed
moved known op x y = valued (e.Move (own_type (pointer_among x y)) op (element_size known x y) (side_of x) (value_in x) (value_in y)) at at
  where
    at : Constancy
    at = moved_by (object_size known) (element_size known x y) (pointer_among x y).constancy (towards op (other_among x y).constancy)

abbrev pub distance : Known → Typed → Typed → Typed
distance known x y = varies (e.Distance (Num (difference_type known.model)) (element_size known x y) (value_in x) (value_in y))

-- beside a pointer, a null pointer constant of integer type is a pointer
abbrev pub beside : Typed → Typed → Value
beside x other = if is_integer (own_type x) then converted_to (own_type other) (value_in x) else value_in x

abbrev pub compared : Op → Typed → Typed → Typed
compared op x y = varies (e.Compare (Num S.Int) op (beside x y) (beside y x))

-- operands of which one is a pointer
abbrev pub on_pointers : Known → Op → Typed → Typed → Typed
on_pointers known O.Sub x y = if is_pointer (own_type x) && is_pointer (own_type y) then distance known x y else moved known O.Sub x y
on_pointers known O.Add x y = moved known O.Add x y
on_pointers known op x y = compared op x y

-- ---- which operands an operator takes

abbrev pub operand_faults : Structs → Op → Typed → Typed → List Rule
operand_faults structs O.Add x y = unless (can_be_added structs (own_type x) (own_type y)) bad_sum
operand_faults structs O.Sub x y = unless (can_be_subtracted structs (own_type x) (own_type y)) bad_sum
operand_faults structs O.Lt x y = unless (can_be_ordered (own_type x) (own_type y)) bad_comparison
operand_faults structs O.Le x y = unless (can_be_ordered (own_type x) (own_type y)) bad_comparison
operand_faults structs O.Gt x y = unless (can_be_ordered (own_type x) (own_type y)) bad_comparison
operand_faults structs O.Ge x y = unless (can_be_ordered (own_type x) (own_type y)) bad_comparison
operand_faults structs O.Eq x y = unless (can_be_compared (own_type x) x.constancy (own_type y) y.constancy) bad_comparison
operand_faults structs O.Ne x y = unless (can_be_compared (own_type x) x.constancy (own_type y) y.constancy) bad_comparison
operand_faults structs op x y = unless (are_integers (own_type x) (own_type y)) operand_not_integer

-- `x op y`
unfoldable pub judge_binary : Op → Typed → Typed → Known → Judged
judge_binary op x y known =
    judgement (operand_faults known.structs op x y)
    (if are_integers (own_type x) (own_type y) then on_integers known op x y else on_pointers known op x y)

-- ---- `&&` and `||`, C11 6.5.13 and 6.5.14

-- the values of the left operand that leave the right one out
abbrev pub settles : LogicalOp → ℤ → Bool
settles logical.And z = is_false z
settles logical.Or z = is_true z

unfoldable pub judge_logical : LogicalOp → Typed → Typed → Judged
judge_logical op x y =
    judgement (unless (is_scalar (own_type x) && is_scalar (own_type y)) not_scalar)
    (valued (e.Logical (Num S.Int) op (value_in x) (value_in y)) (connected (settles op) x.constancy y.constancy) (connected (settles op) x.erased y.erased))

-- ---- `?:`, C11 6.5.15

-- a pointer to what either points to, with the qualifiers of both
abbrev pub common_pointer : CType → CType → CType → CType
common_pointer target t u = Pointer (qualified (both (own_qualifiers t) (own_qualifiers u)) target)

-- beside a pointer, a null pointer constant takes the type of the pointer
abbrev pub gives_way : Typed → Typed → Bool
gives_way x other = is_null_constant x.constancy && is_pointer (own_type other)

abbrev pub chosen_pointer : Typed → Typed → CType
chosen_pointer x y =
    if point_alike (own_type x) (own_type y) then common_pointer (unqualified (target_in x)) (target_in x) (target_in y)
    else (if gives_way x y then own_type y
    else (if gives_way y x then own_type x else common_pointer Void (target_in x) (target_in y)))

abbrev pub chosen_type : Known → Typed → Typed → CType
chosen_type known x y =
    if are_integers (own_type x) (own_type y) then Num (usual_of known.model (scalar_in x) (scalar_in y))
    else (if is_pointer (own_type x) || is_pointer (own_type y) then chosen_pointer x y else own_type x)

unfoldable pub judge_conditional : Typed → Typed → Typed → Known → Judged
judge_conditional test x y known =
    judgement
    (unless (is_scalar (own_type test)) not_scalar
    ++ unless (can_be_chosen_from (own_type x) x.constancy (own_type y) y.constancy) bad_choice)
    (valued (e.Conditional t (value_in test) (converted_to t (value_in x)) (converted_to t (value_in y)))
    (constancy_to known.model t (chosen test.constancy x.constancy y.constancy)) (constancy_to known.model t (chosen test.erased x.erased y.erased)))
  where
    t : CType
    t = chosen_type known x y

-- ---- assignment, C11 6.5.16

unfoldable pub judge_assign : Typed → Typed → Known → Judged
judge_assign x y known =
    judgement (unless (fits (value_type (own_type x)) y) bad_assignment ++ write_faults known.structs x)
    (varies (e.Assign (unqualified (own_type x)) (place_in x) (converted_to (unqualified (own_type x)) (value_in y))))

-- which operands `op=` takes
abbrev pub update_faults : Structs → Op → CType → CType → List Rule
update_faults structs O.Add t u = unless (can_be_changed_by structs t u) bad_sum
update_faults structs O.Sub t u = unless (can_be_changed_by structs t u) bad_sum
update_faults structs op t u = unless (are_integers t u) operand_not_integer

abbrev pub updated : Known → Op → Typed → Typed → Value
updated known op x y =
    if is_pointer (own_type x) then e.UpdatePointer (unqualified (own_type x)) op (element_size known x y) (place_in x) (value_in y)
    else e.Update (unqualified (own_type x)) op (operation_type known op x y) (place_in x) (converted_to (Num (right_type known op x y)) (value_in y))

-- `x op= y`
unfoldable pub judge_update : Op → Typed → Typed → Known → Judged
judge_update op x y known =
    judgement (update_faults known.structs op (value_type (own_type x)) (own_type y) ++ write_faults known.structs x) (varies (updated known op x y))

abbrev pub judge_assignment : Option Op → Typed → Typed → Known → Judged
judge_assignment None x y known = judge_assign x y known
judge_assignment (Some op) x y known = judge_update op x y known

-- ---- commas, C11 6.5.17

abbrev pub values_of : List Typed → Values
values_of [] = e.no_values
values_of (x ∷ xs) = e.a_value (value_in x) (values_of xs)

abbrev pub last_of : CType → List Typed → CType
last_of t [] = t
last_of t (x ∷ xs) = last_of (own_type x) xs

unfoldable pub judge_comma : List Typed → Judged
judge_comma xs = judgement [] (varies (e.Comma (last_of Void xs) (values_of xs)))
