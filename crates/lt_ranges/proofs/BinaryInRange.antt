-- What operators on two and three operands, and marks, make of operands in range.
use Rattle.std.proofs.Common.{◌≡◌, refl, ap, ℕ, List, [], ◌∷◌, Bool, true, false, Option, Some, None}
use Rattle.std.specs.Prelude.{if◌then◌else◌, ◌&&◌, ◌||◌}
use Rattle.lt_model.specs.declared.scalar.Scalar.{Scalar}
use Rattle.lt_model.specs.declared.scalar.Scalar.TheVariants as S
use Rattle.lt_model.specs.declared.operator.Op.{Op}
use Rattle.lt_model.specs.declared.operator.Op.TheVariants as O
use Rattle.lt_model.specs.Conversions.{usual_of}
use Rattle.lt_tree.specs.declared.expression.LogicalOp.{LogicalOp}
use Rattle.lt_tree.specs.Typing.Types.{CType, Void, Num, unqualified, both as both_of, own_qualifiers, is_integer, is_pointer}
use Rattle.lt_tree.specs.Typing.Constants.{moved_by, chosen}
use Rattle.lt_tree.specs.Typing.TypedTree as e
use Rattle.lt_tree.specs.Typing.TypedTree.{Value, Values, Place, Marks, Bindings, names_bound}
use Rattle.lt_tree.specs.Typing.Entities.{Known}
use Rattle.lt_tree.specs.Typing.Expressions.{Typed, Use, own_type, value_in, place_in, converted_to, scalar_in}
use Rattle.lt_tree.specs.Typing.Operands.{are_integers, point_alike, is_relation, is_equality}
use Rattle.lt_tree.specs.Typing.Operations.{target_in, pointer_among, other_among, element_size, object_size}
use Rattle.lt_tree.specs.Typing.BinaryOperations.{operation_type, right_type, result_type, on_integers, towards, moved, distance, beside, compared, on_pointers, judge_binary, settles, judge_logical, common_pointer, gives_way, chosen_pointer, chosen_type, judge_conditional, judge_assign, updated, judge_update, judge_assignment, values_of, last_of, judge_comma}
use Rattle.lt_tree.specs.Typing.MarkRules.{TypedBinding, names_of, bindings_of, number_of_id, judge_decide, judge_after, judge_marked}
use Rattle.lt_tree.specs.Typing.Ranges.{Lists, to_label, IsThere, in_values, in_marks, in_bindings}
use Rattle.lt_ranges.proofs.References.{Has, none, cons, both}
use Rattle.lt_ranges.proofs.TypesInRange.{T, C, unqualified_in, qualified_in, operated_in, moved_by_in, connected_in, chosen_in, constancy_to_in}
use Rattle.lt_ranges.proofs.TypedInRange.{V, TypedIn, own_type_in, value_in_range, place_in_range, valued_in, varies_in, read_typed, converted_value_in}
use Rattle.lt_ranges.proofs.OperationsInRange.{AllTyped, target_type_in, pointer_among_in}

-- ---- two operands

result_in : {b : Lists} (op : Op) (s : Scalar) → T b (result_type op s)
result_in {b} op s = elim (is_relation op || is_equality op) as (λ v. T b (if v then Num S.Int else Num s)) [ true ↦ none | false ↦ none ]

on_integers_in : {b : Lists} {x y : Typed} (known : Known) (op : Op) → TypedIn b x → TypedIn b y → TypedIn b (on_integers known op x y)
on_integers_in {b} {x} {y} known op h i =
    let s = operation_type known op x y in
    let r = right_type known op x y in
    valued_in (both (result_in op s) (both (converted_value_in (Num s) (value_in x) none (value_in_range h)) (converted_value_in (Num r) (value_in y) none (value_in_range i))))
    (operated_in known.model op s r x.constancy y.constancy) (operated_in known.model op s r x.erased y.erased)

moved_in : {b : Lists} {x y : Typed} (known : Known) (op : Op) → TypedIn b x → TypedIn b y → TypedIn b (moved known op x y)
moved_in {b} {x} {y} known op h i =
    let pointer : TypedIn b (pointer_among x y) = pointer_among_in h i in
    let c : C b (moved_by (object_size known) (element_size known x y) (pointer_among x y).constancy (towards op (other_among x y).constancy)) =
    moved_by_in (object_size known) (element_size known x y) (pointer_among x y).constancy (towards op (other_among x y).constancy) pointer.constancy in
    valued_in (both (own_type_in pointer) (both (value_in_range h) (value_in_range i))) c c

distance_in : {b : Lists} {x y : Typed} (known : Known) → TypedIn b x → TypedIn b y → TypedIn b (distance known x y)
distance_in known h i = varies_in (both (value_in_range h) (value_in_range i))

beside_in : {b : Lists} {x y : Typed} → TypedIn b x → TypedIn b y → V b (beside x y)
beside_in {b} {x} {y} h i =
    elim (is_integer (own_type x)) as (λ v. V b (if v then converted_to (own_type y) (value_in x) else value_in x))
    [ true ↦ converted_value_in (own_type y) (value_in x) (own_type_in i) (value_in_range h) | false ↦ value_in_range h ]

compared_in : {b : Lists} {x y : Typed} (op : Op) → TypedIn b x → TypedIn b y → TypedIn b (compared op x y)
compared_in op h i = varies_in (both (beside_in h i) (beside_in i h))

difference_in : {b : Lists} {x y : Typed} (known : Known) (test : Bool) → TypedIn b x → TypedIn b y → TypedIn b (if test then distance known x y else moved known O.Sub x y)
difference_in known true h i = distance_in known h i
difference_in known false h i = moved_in known O.Sub h i

on_pointers_in : {b : Lists} {x y : Typed} (known : Known) (op : Op) → TypedIn b x → TypedIn b y → TypedIn b (on_pointers known op x y)
on_pointers_in {b} {x} {y} known O.Sub h i = difference_in known (is_pointer (own_type x) && is_pointer (own_type y)) h i
on_pointers_in known O.Add h i = moved_in known O.Add h i
on_pointers_in known op h i = compared_in op h i

pub binary_in : {b : Lists} {x y : Typed} (op : Op) (known : Known) → TypedIn b x → TypedIn b y → TypedIn b (judge_binary op x y known).typed
unfolding judge_binary
binary_in {b} {x} {y} op known h i =
    elim (are_integers (own_type x) (own_type y)) as (λ v. TypedIn b (if v then on_integers known op x y else on_pointers known op x y))
    [ true ↦ on_integers_in known op h i | false ↦ on_pointers_in known op h i ]

pub logical_in : {b : Lists} {x y : Typed} (op : LogicalOp) → TypedIn b x → TypedIn b y → TypedIn b (judge_logical op x y).typed
unfolding judge_logical
logical_in {b} {x} {y} op h i = valued_in (both (value_in_range h) (value_in_range i)) (connected_in (settles op) x.constancy y.constancy) (connected_in (settles op) x.erased y.erased)

-- ---- three operands

common_in : {b : Lists} (target t u : CType) → T b target → T b (common_pointer target t u)
common_in target t u h = qualified_in (both_of (own_qualifiers t) (own_qualifiers u)) target h

pointer_or_null : {b : Lists} {x y : Typed} (left right : Bool) → TypedIn b x → TypedIn b y
    → T b (if left then own_type y else (if right then own_type x else common_pointer Void (target_in x) (target_in y)))
pointer_or_null true right h i = own_type_in i
pointer_or_null false true h i = own_type_in h
pointer_or_null {b} {x} {y} false false h i = common_in Void (target_in x) (target_in y) none

chosen_pointer_in : {b : Lists} {x y : Typed} → TypedIn b x → TypedIn b y → T b (chosen_pointer x y)
chosen_pointer_in {b} {x} {y} h i =
    elim (point_alike (own_type x) (own_type y)) as (λ v. T b (if v then common_pointer (unqualified (target_in x)) (target_in x) (target_in y)
    else (if gives_way x y then own_type y else (if gives_way y x then own_type x else common_pointer Void (target_in x) (target_in y))))) [
      | true ↦ common_in (unqualified (target_in x)) (target_in x) (target_in y) (unqualified_in (target_in x) (target_type_in h))
      | false ↦ pointer_or_null (gives_way x y) (gives_way y x) h i
    ]

chosen_other_in : {b : Lists} {x y : Typed} (test : Bool) → TypedIn b x → TypedIn b y → T b (if test then chosen_pointer x y else own_type x)
chosen_other_in true h i = chosen_pointer_in h i
chosen_other_in false h i = own_type_in h

chosen_type_in : {b : Lists} {x y : Typed} (known : Known) → TypedIn b x → TypedIn b y → T b (chosen_type known x y)
chosen_type_in {b} {x} {y} known h i =
    elim (are_integers (own_type x) (own_type y)) as (λ v. T b (if v then Num (usual_of known.model (scalar_in x) (scalar_in y))
    else (if is_pointer (own_type x) || is_pointer (own_type y) then chosen_pointer x y else own_type x)))
    [ true ↦ none | false ↦ chosen_other_in (is_pointer (own_type x) || is_pointer (own_type y)) h i ]

pub conditional_in : {b : Lists} {p x y : Typed} (known : Known) → TypedIn b p → TypedIn b x → TypedIn b y → TypedIn b (judge_conditional p x y known).typed
unfolding judge_conditional
conditional_in {b} {p} {x} {y} known g h i =
    let t = chosen_type known x y in
    let t_in : T b (chosen_type known x y) = chosen_type_in known h i in
    valued_in (both t_in (both (value_in_range g) (both (converted_value_in t (value_in x) t_in (value_in_range h)) (converted_value_in t (value_in y) t_in (value_in_range i)))))
    (constancy_to_in known.model t (chosen p.constancy x.constancy y.constancy) (chosen_in p.constancy x.constancy y.constancy h.constancy i.constancy))
    (constancy_to_in known.model t (chosen p.erased x.erased y.erased) (chosen_in p.erased x.erased y.erased h.erased i.erased))

-- ---- assignment and commas

own_unqualified_in : {b : Lists} {x : Typed} → TypedIn b x → T b (unqualified (own_type x))
own_unqualified_in {b} {x} h = unqualified_in (own_type x) (own_type_in h)

assign_in : {b : Lists} {x y : Typed} (known : Known) → TypedIn b x → TypedIn b y → TypedIn b (judge_assign x y known).typed
unfolding judge_assign
assign_in {b} {x} {y} known h i =
    varies_in (both (own_unqualified_in h) (both (place_in_range h) (converted_value_in (unqualified (own_type x)) (value_in y) (own_unqualified_in h) (value_in_range i))))

updated_in : {b : Lists} {x y : Typed} (known : Known) (op : Op) → TypedIn b x → TypedIn b y → V b (updated known op x y)
updated_in {b} {x} {y} known op h i =
    elim (is_pointer (own_type x)) as (λ v. V b (if v then e.UpdatePointer (unqualified (own_type x)) op (element_size known x y) (place_in x) (value_in y)
    else e.Update (unqualified (own_type x)) op (operation_type known op x y) (place_in x) (converted_to (Num (right_type known op x y)) (value_in y)))) [
      | true ↦ both (own_unqualified_in h) (both (place_in_range h) (value_in_range i))
      | false ↦ both (own_unqualified_in h) (both (place_in_range h) (converted_value_in (Num (right_type known op x y)) (value_in y) none (value_in_range i)))
    ]

update_in : {b : Lists} {x y : Typed} (op : Op) (known : Known) → TypedIn b x → TypedIn b y → TypedIn b (judge_update op x y known).typed
unfolding judge_update
update_in op known h i = varies_in (updated_in known op h i)

pub assignment_in : {b : Lists} {x y : Typed} (op : Option Op) (known : Known) → TypedIn b x → TypedIn b y → TypedIn b (judge_assignment op x y known).typed
assignment_in None known h i = assign_in known h i
assignment_in (Some op) known h i = update_in op known h i

pub values_in_range : {b : Lists} (xs : List Typed) → AllTyped b xs → Has b (in_values (values_of xs))
values_in_range [] h = none
values_in_range (x ∷ xs) h = both (value_in_range h.0) (values_in_range xs h.1)

last_in : {b : Lists} (t : CType) (xs : List Typed) → T b t → AllTyped b xs → T b (last_of t xs)
last_in t [] h i = h
last_in t (x ∷ xs) h i = last_in (own_type x) xs (own_type_in i.0) i.1

pub comma_in : {b : Lists} (xs : List Typed) → AllTyped b xs → TypedIn b (judge_comma xs).typed
unfolding judge_comma
comma_in xs h = varies_in (both (last_in Void xs none h) (values_in_range xs h))

-- ---- marks

pub marked_in : {b : Lists} {x : Typed} (ms : Marks) → Has b (in_marks ms) → TypedIn b x → TypedIn b (judge_marked ms x).typed
unfolding judge_marked
marked_in ms h i = record { form = both (own_type_in i) (both h (value_in_range i)); constancy = none; erased = i.erased }

pub decide_in : {b : Lists} {x : Typed} (role : Use) (when_true when_false tag : List ℕ) (known : Known) → TypedIn b x
    → IsThere b (to_label (number_of_id when_true) []) → IsThere b (to_label (number_of_id when_false) []) → TypedIn b (judge_decide role x when_true when_false tag known).typed
unfolding judge_decide
decide_in role when_true when_false tag known h i j =
    valued_in (cons {r = to_label (number_of_id when_true) []} i (cons {r = to_label (number_of_id when_false) []} j (value_in_range h))) none h.erased

pub after_in : {b : Lists} {x : Typed} (role : Use) (id tag : List ℕ) (known : Known) → TypedIn b x → IsThere b (to_label (number_of_id id) []) → TypedIn b (judge_after role x id tag known).typed
unfolding judge_after
after_in role id tag known h i =
    let it = read_typed h in
    record { form = both (own_type_in it) (cons {r = to_label (number_of_id id) []} i (value_in_range it)); constancy = none; erased = it.erased }

-- names that a mark binds
abbrev pub AllBound : Lists → List TypedBinding → Type 0
AllBound b [] = Unit {0}
AllBound b (it ∷ bs) = TypedIn b it.typed × AllBound b bs

pub bindings_in : {b : Lists} (bs : List TypedBinding) → AllBound b bs → Has b (in_bindings (bindings_of bs))
bindings_in [] h = none
bindings_in (it ∷ bs) h = both (value_in_range h.0) (bindings_in bs h.1)

pub names_are_bound : (bs : List TypedBinding) → names_bound (bindings_of bs) ≡ names_of bs
names_are_bound [] = refl
names_are_bound (it ∷ bs) = ap (λ names. it.name ∷ names) (names_are_bound bs)
