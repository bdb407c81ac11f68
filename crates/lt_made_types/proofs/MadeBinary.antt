-- The types of what operators on two and three operands, and marks, make.
use Rattle.std.proofs.Common.{ℕ, List, [], ◌∷◌, Bool, true, false, Option, Some, None}
use Rattle.std.specs.Prelude.{if◌then◌else◌, ◌&&◌, ◌||◌}
use Rattle.std.specs.List.{AllByRecursion}
use Rattle.lt_model.specs.declared.scalar.Scalar.{Scalar}
use Rattle.lt_model.specs.declared.scalar.Scalar.TheVariants as S
use Rattle.lt_model.specs.declared.operator.Op.{Op}
use Rattle.lt_model.specs.declared.operator.Op.TheVariants as O
use Rattle.lt_model.specs.Conversions.{usual_of}
use Rattle.lt_tree.specs.declared.expression.LogicalOp.{LogicalOp}
use Rattle.lt_tree.specs.Typing.Types.{CType, Void, Num, unqualified, both, own_qualifiers, is_pointer}
use Rattle.lt_tree.specs.Typing.TypedTree as e
use Rattle.lt_tree.specs.Typing.TypedTree.{type_of}
use Rattle.lt_tree.specs.Typing.Entities.{Known}
use Rattle.lt_tree.specs.Typing.Expressions.{Typed, Use, own_type, value_in, place_in, converted_to, scalar_in}
use Rattle.lt_tree.specs.Typing.Operands.{are_integers, point_alike, is_relation, is_equality}
use Rattle.lt_tree.specs.Typing.Operations.{target_in, pointer_among, element_size}
use Rattle.lt_tree.specs.Typing.BinaryOperations.{operation_type, right_type, result_type, on_integers, moved, distance, on_pointers, judge_binary, judge_logical, common_pointer, gives_way, chosen_pointer, chosen_type, judge_conditional, judge_assign, updated, judge_update, judge_assignment, last_of, judge_comma}
use Rattle.lt_tree.specs.Typing.MarkRules.{judge_decide, judge_after, judge_marked}
use Rattle.lt_made_types.proofs.MadeTypes.{Made, unqualified_made, qualified_made, pointer_made}
use Rattle.lt_made_types.proofs.MadeOperations.{TypedMade, number_made, read_made, own_unqualified, target_type_made, pointer_among_made}

-- ---- two operands

result_made : (op : Op) (s : Scalar) → Made (result_type op s)
result_made op s = elim (is_relation op || is_equality op) as (λ v. Made (if v then Num S.Int else Num s)) [ true ↦ number_made | false ↦ number_made ]

on_integers_made : (known : Known) (op : Op) (x y : Typed) → TypedMade (on_integers known op x y)
on_integers_made known op x y = record { type = result_made op (operation_type known op x y) }

moved_made : {x y : Typed} (known : Known) (op : Op) → TypedMade x → TypedMade y → TypedMade (moved known op x y)
moved_made {x} {y} known op h i = let pointer : TypedMade (pointer_among x y) = pointer_among_made h i in record { type = pointer.type }

difference_made : {x y : Typed} (known : Known) (test : Bool) → TypedMade x → TypedMade y → TypedMade (if test then distance known x y else moved known O.Sub x y)
difference_made known true h i = record { type = number_made }
difference_made known false h i = moved_made known O.Sub h i

on_pointers_made : {x y : Typed} (known : Known) (op : Op) → TypedMade x → TypedMade y → TypedMade (on_pointers known op x y)
on_pointers_made {x} {y} known O.Sub h i = difference_made known (is_pointer (own_type x) && is_pointer (own_type y)) h i
on_pointers_made known O.Add h i = moved_made known O.Add h i
on_pointers_made known op h i = record { type = number_made }

pub binary_made : {x y : Typed} (op : Op) (known : Known) → TypedMade x → TypedMade y → TypedMade (judge_binary op x y known).typed
unfolding judge_binary
binary_made {x} {y} op known h i =
    elim (are_integers (own_type x) (own_type y)) as (λ v. TypedMade (if v then on_integers known op x y else on_pointers known op x y))
    [ true ↦ on_integers_made known op x y | false ↦ on_pointers_made known op h i ]

pub logical_made : (op : LogicalOp) (x y : Typed) → TypedMade (judge_logical op x y).typed
unfolding judge_logical
logical_made op x y = record { type = number_made }

-- ---- three operands

common_made : (target t u : CType) → Made target → Made (common_pointer target t u)
common_made target t u h = pointer_made (qualified_made (both (own_qualifiers t) (own_qualifiers u)) target h)

pointer_or_null : {x y : Typed} (left right : Bool) → TypedMade x → TypedMade y
    → Made (if left then own_type y else (if right then own_type x else common_pointer Void (target_in x) (target_in y)))
pointer_or_null true right h i = i.type
pointer_or_null false true h i = h.type
pointer_or_null {x} {y} false false h i = common_made Void (target_in x) (target_in y) (record { so = tt })

chosen_pointer_made : {x y : Typed} → TypedMade x → TypedMade y → Made (chosen_pointer x y)
chosen_pointer_made {x} {y} h i =
    elim (point_alike (own_type x) (own_type y)) as (λ v. Made (if v then common_pointer (unqualified (target_in x)) (target_in x) (target_in y)
    else (if gives_way x y then own_type y else (if gives_way y x then own_type x else common_pointer Void (target_in x) (target_in y))))) [
      | true ↦ common_made (unqualified (target_in x)) (target_in x) (target_in y) (unqualified_made (target_in x) (target_type_made h))
      | false ↦ pointer_or_null (gives_way x y) (gives_way y x) h i
    ]

chosen_other_made : {x y : Typed} (test : Bool) → TypedMade x → TypedMade y → Made (if test then chosen_pointer x y else own_type x)
chosen_other_made true h i = chosen_pointer_made h i
chosen_other_made false h i = h.type

chosen_type_made : {x y : Typed} (known : Known) → TypedMade x → TypedMade y → Made (chosen_type known x y)
chosen_type_made {x} {y} known h i =
    elim (are_integers (own_type x) (own_type y)) as (λ v. Made (if v then Num (usual_of known.model (scalar_in x) (scalar_in y))
    else (if is_pointer (own_type x) || is_pointer (own_type y) then chosen_pointer x y else own_type x)))
    [ true ↦ number_made | false ↦ chosen_other_made (is_pointer (own_type x) || is_pointer (own_type y)) h i ]

pub conditional_made : (test : Typed) {x y : Typed} (known : Known) → TypedMade x → TypedMade y → TypedMade (judge_conditional test x y known).typed
unfolding judge_conditional
conditional_made test known h i = record { type = chosen_type_made known h i }

-- ---- assignment and commas

assign_made : {x : Typed} (y : Typed) (known : Known) → TypedMade x → TypedMade (judge_assign x y known).typed
unfolding judge_assign
assign_made y known h = record { type = own_unqualified h }

updated_made : {x : Typed} (y : Typed) (known : Known) (op : Op) → TypedMade x → Made (type_of (updated known op x y))
updated_made {x} y known op h =
    elim (is_pointer (own_type x)) as (λ v. Made (type_of (if v then e.UpdatePointer (unqualified (own_type x)) op (element_size known x y) (place_in x) (value_in y)
    else e.Update (unqualified (own_type x)) op (operation_type known op x y) (place_in x) (converted_to (Num (right_type known op x y)) (value_in y)))))
    [ true ↦ own_unqualified h | false ↦ own_unqualified h ]

update_made : {x : Typed} (op : Op) (y : Typed) (known : Known) → TypedMade x → TypedMade (judge_update op x y known).typed
unfolding judge_update
update_made op y known h = record { type = updated_made y known op h }

pub assignment_made : {x : Typed} (op : Option Op) (y : Typed) (known : Known) → TypedMade x → TypedMade (judge_assignment op x y known).typed
assignment_made None y known h = assign_made y known h
assignment_made (Some op) y known h = update_made op y known h

last_made : (t : CType) (xs : List Typed) → Made t → AllByRecursion TypedMade xs → Made (last_of t xs)
last_made t [] h i = h
last_made t (x ∷ xs) h i = last_made (own_type x) xs i.0.type i.1

pub comma_made : (xs : List Typed) → AllByRecursion TypedMade xs → TypedMade (judge_comma xs).typed
unfolding judge_comma
comma_made xs h = record { type = last_made Void xs (record { so = tt }) h }

-- ---- marks

pub marked_made : {x : Typed} (ms : e.Marks) → TypedMade x → TypedMade (judge_marked ms x).typed
unfolding judge_marked
marked_made ms h = record { type = h.type }

pub decide_made : (role : Use) (x : Typed) (when_true when_false tag : List ℕ) (known : Known) → TypedMade (judge_decide role x when_true when_false tag known).typed
unfolding judge_decide
decide_made role x when_true when_false tag known = record { type = number_made }

pub after_made : {x : Typed} (role : Use) (id tag : List ℕ) (known : Known) → TypedMade x → TypedMade (judge_after role x id tag known).typed
unfolding judge_after
after_made {x} role id tag known h = record { type = (read_made h).type }
