-- What operators on two and three operands make of expressions whose objects have other numbers: C11 6.5.2.1 and 6.5.5 to 6.5.17.
use Rattle.std.proofs.Common.{◌≡◌, ℕ, List, map, Option, Some, None, Bool, true, false, refl, ap, ◌∙◌}
use Rattle.std.specs.Prelude.{◌&&◌, if◌then◌else◌}
use Rattle.lt_model.specs.declared.scalar.DataModel.{DataModel}
use Rattle.lt_model.specs.declared.scalar.Scalar.{Scalar}
use Rattle.lt_model.specs.declared.operator.Op.{Op}
use Rattle.lt_model.specs.declared.operator.Op.TheVariants as O
use Rattle.lt_tree.specs.declared.expression.LogicalOp.{LogicalOp}
use Rattle.lt_tree.specs.Typing.Types.{Void, Num, is_integer, is_pointer, unqualified, value_type}
use Rattle.lt_tree.specs.Typing.Extents.{Structs}
use Rattle.lt_tree.specs.Typing.Constants.{operated, chosen}
use Rattle.lt_tree.specs.Typing.Rules.{Rule}
use Rattle.lt_tree.specs.Typing.TypedTree as e
use Rattle.lt_tree.specs.Typing.TypedTree.{Value}
use Rattle.lt_tree.specs.Typing.Entities.{Known, Object, Function, Label, Fact}
use Rattle.lt_tree.specs.Typing.Operands.{are_integers}
use Rattle.lt_tree.specs.Typing.Expressions.{Typed, valued, own_type, value_in, place_in, judgement, converted_to}
use Rattle.lt_tree.specs.Typing.Operations.{object_size, element_size, pointer_among, other_among, judge_index}
use Rattle.lt_tree.specs.Typing.BinaryOperations.{judge_binary, operand_faults, operation_type, right_type, result_type, on_integers, on_pointers, towards, moved, distance, beside, compared, judge_logical, settles, judge_conditional, chosen_type, judge_assignment, judge_assign, judge_update, updated, judge_comma}
use Rattle.lt_object_laws.specs.Renamed.{value_with, constancy_with}
use Rattle.lt_mark_typing.specs.Renumbered.{typed_with}
use Rattle.lt_mark_typing.proofs.Going.{with_others}
use Rattle.lt_mark_typing.proofs.Renumbering.{judged_with, null_constant_with, operated_with, connected_with, chosen_with, moved_by_with, towards_with, constancy_to_with, converted_to_with, own_type_with, is_lvalue_with, value_in_with, place_in_with, values_of_with, last_of_with, fits_with}

module _ (r : ℕ → ℕ) where
  if_typed : (b : Bool) (v w : Typed) → (if b then typed_with r v else typed_with r w) ≡ typed_with r (if b then v else w)
  if_typed true v w = refl
  if_typed false v w = refl

  beside_with : (x other : Typed) → beside (typed_with r x) (typed_with r other) ≡ value_with r (beside x other)
  beside_with x other = rw (own_type_with r x) (rw (own_type_with r other) (rw (value_in_with r x) (rw (converted_to_with r (own_type other) (value_in x)) (by (is_integer (own_type x))))))
    where
      by : (b : Bool) → (if b then value_with r (converted_to (own_type other) (value_in x)) else value_with r (value_in x)) ≡ value_with r (if b then converted_to (own_type other) (value_in x) else value_in x)
      by true = refl
      by false = refl

module _ (r : ℕ → ℕ) (x y : Typed) where
  pointer_among_with : pointer_among (typed_with r x) (typed_with r y) ≡ typed_with r (pointer_among x y)
  pointer_among_with = rw (own_type_with r x) (if_typed r (is_pointer (own_type x)) x y)

  other_among_with : other_among (typed_with r x) (typed_with r y) ≡ typed_with r (other_among x y)
  other_among_with = rw (own_type_with r x) (if_typed r (is_pointer (own_type x)) y x)

  element_size_with : (known : Known) → element_size known (typed_with r x) (typed_with r y) ≡ element_size known x y
  element_size_with known = rw pointer_among_with (rw (own_type_with r (pointer_among x y)) refl)

  integers_by : (m : DataModel) (op : Op) (s t : Scalar)
      → valued (e.Arithmetic (result_type op s) op s (converted_to (Num s) (value_in (typed_with r x))) (converted_to (Num t) (value_in (typed_with r y))))
      (operated m op s t (constancy_with r x.constancy) (constancy_with r y.constancy)) (operated m op s t (constancy_with r x.erased) (constancy_with r y.erased))
      ≡ typed_with r (valued (e.Arithmetic (result_type op s) op s (converted_to (Num s) (value_in x)) (converted_to (Num t) (value_in y))) (operated m op s t x.constancy y.constancy) (operated m op s t x.erased y.erased))
  integers_by m op s t =
      rw (value_in_with r x) (rw (value_in_with r y) (rw (converted_to_with r (Num s) (value_in x)) (rw (converted_to_with r (Num t) (value_in y))
      (rw (operated_with r m op s t x.constancy y.constancy) (rw (operated_with r m op s t x.erased y.erased) refl)))))

  integers_with : (known : Known) (op : Op) → on_integers known op (typed_with r x) (typed_with r y) ≡ typed_with r (on_integers known op x y)
  integers_with known op =
      ap (λ s. integers_of s (right_type known op (typed_with r x) (typed_with r y))) operation_same ∙ ap (integers_of (operation_type known op x y)) right_same
      ∙ integers_by known.model op (operation_type known op x y) (right_type known op x y)
    where
      integers_of : Scalar → Scalar → Typed
      integers_of s t = valued (e.Arithmetic (result_type op s) op s (converted_to (Num s) (value_in (typed_with r x))) (converted_to (Num t) (value_in (typed_with r y))))
          (operated known.model op s t (constancy_with r x.constancy) (constancy_with r y.constancy)) (operated known.model op s t (constancy_with r x.erased) (constancy_with r y.erased))

      operation_same : operation_type known op (typed_with r x) (typed_with r y) ≡ operation_type known op x y
      operation_same = rw (own_type_with r x) (rw (own_type_with r y) refl)

      right_same : right_type known op (typed_with r x) (typed_with r y) ≡ right_type known op x y
      right_same = rw (own_type_with r x) (rw (own_type_with r y) refl)

  operands_with : (structs : Structs) (op : Op) → operand_faults structs op (typed_with r x) (typed_with r y) ≡ operand_faults structs op x y
  operands_with structs O.Eq = rw (own_type_with r x) (rw (own_type_with r y) (rw (null_constant_with r x.constancy) (rw (null_constant_with r y.constancy) refl)))
  operands_with structs O.Ne = rw (own_type_with r x) (rw (own_type_with r y) (rw (null_constant_with r x.constancy) (rw (null_constant_with r y.constancy) refl)))
  operands_with structs O.Add = rw (own_type_with r x) (rw (own_type_with r y) refl)
  operands_with structs O.Sub = rw (own_type_with r x) (rw (own_type_with r y) refl)
  operands_with structs O.Lt = rw (own_type_with r x) (rw (own_type_with r y) refl)
  operands_with structs O.Le = rw (own_type_with r x) (rw (own_type_with r y) refl)
  operands_with structs O.Gt = rw (own_type_with r x) (rw (own_type_with r y) refl)
  operands_with structs O.Ge = rw (own_type_with r x) (rw (own_type_with r y) refl)
  operands_with structs _ = rw (own_type_with r x) (rw (own_type_with r y) refl)

  -- ---- elements, where objects have the same sizes

  module _ (known : Known) (n : ℕ) (os : List Object) (fs : List Function) (ls : List Label) (facts : List Fact) (h : (i : ℕ) → object_size (with_others r known n os fs ls facts) (r i) ≡ object_size known i) where
    abbrev Other : Known
    Other = with_others r known n os fs ls facts

    pub index_with : judge_index (typed_with r x) (typed_with r y) Other ≡ judged_with r (judge_index x y known)
    unfolding judge_index
    index_with = rw pointer_among_with (rw other_among_with (rw (own_type_with r x) (rw (own_type_with r y) (rw (own_type_with r (pointer_among x y)) (rw (value_in_with r x) (rw (value_in_with r y)
        (rw (moved_by_with r (object_size known) (object_size Other) (element_size known x y) (pointer_among x y).constancy (other_among x y).constancy h) refl)))))))

    -- ---- pointers

    moved_with : (op : Op) → moved Other op (typed_with r x) (typed_with r y) ≡ typed_with r (moved known op x y)
    moved_with op = rw pointer_among_with (rw other_among_with (rw (own_type_with r x) (rw (own_type_with r (pointer_among x y)) (rw (value_in_with r x) (rw (value_in_with r y)
        (rw (towards_with r op (other_among x y).constancy)
        (rw (moved_by_with r (object_size known) (object_size Other) (element_size known x y) (pointer_among x y).constancy (towards op (other_among x y).constancy) h) refl)))))))

    distance_with : distance Other (typed_with r x) (typed_with r y) ≡ typed_with r (distance known x y)
    distance_with = rw pointer_among_with (rw (own_type_with r (pointer_among x y)) (rw (value_in_with r x) (rw (value_in_with r y) refl)))

    compared_with : (op : Op) → compared op (typed_with r x) (typed_with r y) ≡ typed_with r (compared op x y)
    compared_with op = rw (beside_with r x y) (rw (beside_with r y x) refl)

    subtracted_with : on_pointers Other O.Sub (typed_with r x) (typed_with r y) ≡ typed_with r (on_pointers known O.Sub x y)
    subtracted_with =
        ap (λ t. if is_pointer t && is_pointer (own_type (typed_with r y)) then distance Other (typed_with r x) (typed_with r y) else moved Other O.Sub (typed_with r x) (typed_with r y)) (own_type_with r x)
        ∙ ap (λ t. if is_pointer (own_type x) && is_pointer t then distance Other (typed_with r x) (typed_with r y) else moved Other O.Sub (typed_with r x) (typed_with r y)) (own_type_with r y)
        ∙ ap (λ it. if is_pointer (own_type x) && is_pointer (own_type y) then it else moved Other O.Sub (typed_with r x) (typed_with r y)) distance_with
        ∙ ap (λ it. if is_pointer (own_type x) && is_pointer (own_type y) then typed_with r (distance known x y) else it) (moved_with O.Sub)
        ∙ if_typed r (is_pointer (own_type x) && is_pointer (own_type y)) (distance known x y) (moved known O.Sub x y)

    pointers_with : (op : Op) → on_pointers Other op (typed_with r x) (typed_with r y) ≡ typed_with r (on_pointers known op x y)
    pointers_with O.Sub = subtracted_with
    pointers_with O.Add = moved_with O.Add
    pointers_with op = compared_with op

    -- ---- binary operators

    pub binary_with : (op : Op) → judge_binary op (typed_with r x) (typed_with r y) Other ≡ judged_with r (judge_binary op x y known)
    unfolding judge_binary
    binary_with op =
        let v : Typed = typed_with r x in let w : Typed = typed_with r y in let faults : List Rule = operand_faults known.structs op x y in
        ap (λ l. judgement l (if are_integers (own_type v) (own_type w) then on_integers Other op v w else on_pointers Other op v w)) (operands_with known.structs op)
        ∙ ap (λ t. judgement faults (if are_integers t (own_type w) then on_integers Other op v w else on_pointers Other op v w)) (own_type_with r x)
        ∙ ap (λ t. judgement faults (if are_integers (own_type x) t then on_integers Other op v w else on_pointers Other op v w)) (own_type_with r y)
        ∙ ap (λ it. judgement faults (if are_integers (own_type x) (own_type y) then it else on_pointers Other op v w)) (integers_with known op)
        ∙ ap (λ it. judgement faults (if are_integers (own_type x) (own_type y) then typed_with r (on_integers known op x y) else it)) (pointers_with op)
        ∙ ap (judgement faults) (if_typed r (are_integers (own_type x) (own_type y)) (on_integers known op x y) (on_pointers known op x y))

-- ---- `&&`, `||` and `?:`

pub logical_with : (r : ℕ → ℕ) (op : LogicalOp) (x y : Typed) → judge_logical op (typed_with r x) (typed_with r y) ≡ judged_with r (judge_logical op x y)
unfolding judge_logical
logical_with r op x y = rw (own_type_with r x) (rw (own_type_with r y) (rw (value_in_with r x) (rw (value_in_with r y)
    (rw (connected_with r (settles op) x.constancy y.constancy) (rw (connected_with r (settles op) x.erased y.erased) refl)))))

chosen_type_with : (r : ℕ → ℕ) (known : Known) (x y : Typed) → chosen_type known (typed_with r x) (typed_with r y) ≡ chosen_type known x y
chosen_type_with r known x y = rw (own_type_with r x) (rw (own_type_with r y) (rw (null_constant_with r x.constancy) (rw (null_constant_with r y.constancy) refl)))

pub conditional_with : (r : ℕ → ℕ) (test x y : Typed) (known : Known) → judge_conditional (typed_with r test) (typed_with r x) (typed_with r y) known ≡ judged_with r (judge_conditional test x y known)
unfolding judge_conditional
conditional_with r test x y known = let t = chosen_type known x y in
    rw (chosen_type_with r known x y) (rw (own_type_with r test) (rw (own_type_with r x) (rw (own_type_with r y) (rw (null_constant_with r x.constancy) (rw (null_constant_with r y.constancy)
    (rw (value_in_with r test) (rw (value_in_with r x) (rw (value_in_with r y) (rw (converted_to_with r t (value_in x)) (rw (converted_to_with r t (value_in y))
    (rw (chosen_with r test.constancy x.constancy y.constancy) (rw (chosen_with r test.erased x.erased y.erased)
    (rw (constancy_to_with r known.model t (chosen test.constancy x.constancy y.constancy)) (rw (constancy_to_with r known.model t (chosen test.erased x.erased y.erased)) refl))))))))))))))

-- ---- assignment

module _ (r : ℕ → ℕ) (x y : Typed) (known : Known) where
  assign_with : judge_assign (typed_with r x) (typed_with r y) known ≡ judged_with r (judge_assign x y known)
  unfolding judge_assign
  assign_with = rw (own_type_with r x) (rw (fits_with r (value_type (own_type x)) y) (rw (is_lvalue_with r x) (rw (place_in_with r x) (rw (value_in_with r y) (rw (converted_to_with r (unqualified (own_type x)) (value_in y)) refl)))))

  updated_with : (op : Op) → updated known op (typed_with r x) (typed_with r y) ≡ value_with r (updated known op x y)
  updated_with op = let t = right_type known op x y in
      rw (element_size_with r x y known) (rw (own_type_with r x) (rw (own_type_with r y) (rw (place_in_with r x) (rw (value_in_with r y) (rw (converted_to_with r (Num t) (value_in y)) (by (is_pointer (own_type x))))))))
    where
      pointer : Value
      pointer = e.UpdatePointer (unqualified (own_type x)) op (element_size known x y) (place_in x) (value_in y)

      whole : Value
      whole = e.Update (unqualified (own_type x)) op (operation_type known op x y) (place_in x) (converted_to (Num (right_type known op x y)) (value_in y))

      by : (b : Bool) → (if b then value_with r pointer else value_with r whole) ≡ value_with r (if b then pointer else whole)
      by true = refl
      by false = refl

  update_with : (op : Op) → judge_update op (typed_with r x) (typed_with r y) known ≡ judged_with r (judge_update op x y known)
  unfolding judge_update
  update_with op = rw (updated_with op) (rw (own_type_with r x) (rw (own_type_with r y) (rw (is_lvalue_with r x) refl)))

  pub assignment_with : (op : Option Op) → judge_assignment op (typed_with r x) (typed_with r y) known ≡ judged_with r (judge_assignment op x y known)
  assignment_with None = assign_with
  assignment_with (Some op) = update_with op

-- ---- commas

pub comma_with : (r : ℕ → ℕ) (xs : List Typed) → judge_comma (map (typed_with r) xs) ≡ judged_with r (judge_comma xs)
unfolding judge_comma
comma_with r xs = rw (values_of_with r xs) (rw (last_of_with r Void xs) refl)
