-- What is asked of typed expressions doesn't depend on the numbers of objects, and what is made of them has other numbers alone.
use Rattle.std.proofs.Common.{◌≡◌, ℕ, suc, List, [], ◌∷◌, map, length, Bool, true, false, refl, ap, ◌∙◌}
use Rattle.std.specs.Prelude.{ℤ, pos, negsuc, ◌+ℤ◌, ◌*ℤ◌, nat_le, ◌||◌, ◌&&◌, if◌then◌else◌, Result, Ok, Err}
use Rattle.lt_model.specs.declared.scalar.DataModel.{DataModel}
use Rattle.lt_model.specs.declared.scalar.Scalar.{Scalar}
use Rattle.lt_model.specs.declared.scalar.Scalar.TheVariants as S
use Rattle.lt_model.specs.declared.operator.Op.{Op}
use Rattle.lt_model.specs.declared.operator.Op.TheVariants as O
use Rattle.lt_model.specs.declared.operator.Ub.{Ub}
use Rattle.lt_tree.specs.Typing.Types.{CType, Void, Num, Pointer, Array, Struct, Function, Floating, Qualified, same, is_struct, is_array}
use Rattle.lt_tree.specs.Typing.Extents.{Structs}
use Rattle.lt_tree.specs.Typing.Constants.{Constancy, varying, faulty, number, null_constant, null_address, address, is_form, is_zero, is_null_constant, is_true, value_or_fault, converted, applied, operated, negated, truth_of, connected, chosen, moved_to, moved_by}
use Rattle.lt_tree.specs.Typing.TypedTree as e
use Rattle.lt_tree.specs.Typing.TypedTree.{Value, Place, type_of, type_at}
use Rattle.lt_tree.specs.Typing.Expressions.{Form, a_value, a_place, a_designator, Typed, Use, as_value, as_truth, as_place, as_callee, valued, own_type, value_in, place_in, is_lvalue, is_lvalue_place, value_at, read, as_it_is_read, used, cast_to, how_to, converted_to, constancy_as_number, constancy_as_pointer, null_of, constancy_to, faults_of_any, Judged, judgement}
use Rattle.lt_tree.specs.Typing.Operations.{constant_address, counts_as_null, fits}
use Rattle.lt_tree.specs.Typing.BinaryOperations.{towards, values_of, last_of}
use Rattle.lt_object_laws.specs.Renamed.{value_with, values_with, place_with, constancy_with}
use Rattle.lt_object_laws.proofs.Trees.{type_with}
use Rattle.lt_mark_typing.specs.Renumbered.{form_with, typed_with}

-- what is judged, where objects have the numbers that r gives
abbrev pub judged_with : (ℕ → ℕ) → Judged → Judged
judged_with r j = judgement j.faults (typed_with r j.typed)

module _ (r : ℕ → ℕ) where
  -- ---- constants

  pub null_constant_with : (c : Constancy) → is_null_constant (constancy_with r c) ≡ is_null_constant c
  null_constant_with (address n offset) = refl
  null_constant_with c = refl

  pub zero_with : (c : Constancy) → is_zero (constancy_with r c) ≡ is_zero c
  zero_with (address n offset) = refl
  zero_with c = refl

  pub form_of_with : (c : Constancy) → is_form (constancy_with r c) ≡ is_form c
  form_of_with (address n offset) = refl
  form_of_with c = refl

  pub if_with : (b : Bool) (c d : Constancy) → (if b then constancy_with r c else constancy_with r d) ≡ constancy_with r (if b then c else d)
  if_with true c d = refl
  if_with false c d = refl

  pub converted_with : (m : DataModel) (s : Scalar) (c : Constancy) → converted m s (constancy_with r c) ≡ constancy_with r (converted m s c)
  converted_with m s (address n offset) = refl
  converted_with m s varying = refl
  converted_with m s faulty = refl
  converted_with m s (number z) = refl
  converted_with m s null_constant = refl
  converted_with m s null_address = refl

  result_with : (found : Result ℤ Ub) → value_or_fault found ≡ constancy_with r (value_or_fault found)
  result_with (Ok z) = refl
  result_with (Err kind) = refl

  pub applied_with : (m : DataModel) (op : Op) (s : Scalar) (c d : Constancy) → applied m op s (constancy_with r c) (constancy_with r d) ≡ constancy_with r (applied m op s c d)
  applied_with m op s (number z) (number y) = result_with _
  applied_with m op s (number z) varying = refl
  applied_with m op s (number z) faulty = refl
  applied_with m op s (number z) null_constant = refl
  applied_with m op s (number z) null_address = refl
  applied_with m op s (number z) (address n offset) = refl
  applied_with m op s faulty d = ap (λ b. if b then faulty else varying) (form_of_with d) ∙ if_with (is_form d) faulty varying
  applied_with m op s varying d = refl
  applied_with m op s null_constant d = refl
  applied_with m op s null_address d = refl
  applied_with m op s (address n offset) d = refl

  pub operated_with : (m : DataModel) (op : Op) (s t : Scalar) (c d : Constancy) → operated m op s t (constancy_with r c) (constancy_with r d) ≡ constancy_with r (operated m op s t c d)
  operated_with m op s t c d =
      ap (λ a. applied m op s a (converted m t (constancy_with r d))) (converted_with m s c) ∙ ap (applied m op s (constancy_with r (converted m s c))) (converted_with m t d)
      ∙ applied_with m op s (converted m s c) (converted m t d)

  pub negated_with : (c : Constancy) → negated (constancy_with r c) ≡ constancy_with r (negated c)
  negated_with (address n offset) = refl
  negated_with varying = refl
  negated_with faulty = refl
  negated_with (number z) = refl
  negated_with null_constant = refl
  negated_with null_address = refl

  truth_with : (c : Constancy) → truth_of (constancy_with r c) ≡ constancy_with r (truth_of c)
  truth_with c = ap negated (negated_with c) ∙ negated_with (negated c)

  pub connected_with : (settles : ℤ → Bool) (c d : Constancy) → connected settles (constancy_with r c) (constancy_with r d) ≡ constancy_with r (connected settles c d)
  connected_with settles (number z) d =
      ap (λ b. if b then (if settles z then truth_of (number z) else truth_of (constancy_with r d)) else varying) (form_of_with d)
      ∙ ap (λ c. if is_form d then (if settles z then truth_of (number z) else c) else varying) (truth_with d)
      ∙ ap (λ c. if is_form d then c else varying) (if_with (settles z) (truth_of (number z)) (truth_of d))
      ∙ if_with (is_form d) (if settles z then truth_of (number z) else truth_of d) varying
  connected_with settles faulty d = ap (λ b. if b then faulty else varying) (form_of_with d) ∙ if_with (is_form d) faulty varying
  connected_with settles varying d = refl
  connected_with settles null_constant d = refl
  connected_with settles null_address d = refl
  connected_with settles (address n offset) d = refl

  pub chosen_with : (b c d : Constancy) → chosen (constancy_with r b) (constancy_with r c) (constancy_with r d) ≡ constancy_with r (chosen b c d)
  chosen_with (number z) c d =
      ap (λ b. if b && is_form (constancy_with r d) then (if is_true z then constancy_with r c else constancy_with r d) else varying) (form_of_with c)
      ∙ ap (λ b. if is_form c && b then (if is_true z then constancy_with r c else constancy_with r d) else varying) (form_of_with d)
      ∙ ap (λ it. if is_form c && is_form d then it else varying) (if_with (is_true z) c d)
      ∙ if_with (is_form c && is_form d) (if is_true z then c else d) varying
  chosen_with faulty c d =
      ap (λ b. if b && is_form (constancy_with r d) then faulty else varying) (form_of_with c) ∙ ap (λ b. if is_form c && b then faulty else varying) (form_of_with d)
      ∙ if_with (is_form c && is_form d) faulty varying
  chosen_with varying c d = refl
  chosen_with null_constant c d = refl
  chosen_with null_address c d = refl
  chosen_with (address n offset) c d = refl

  pub constant_address_with : (c : Constancy) → constant_address (constancy_with r c) ≡ constancy_with r (constant_address c)
  constant_address_with (address n offset) = refl
  constant_address_with varying = refl
  constant_address_with faulty = refl
  constant_address_with (number z) = refl
  constant_address_with null_constant = refl
  constant_address_with null_address = refl

  moved_to_with : (n size : ℕ) (z : ℤ) → moved_to (r n) size z ≡ constancy_with r (moved_to n size z)
  moved_to_with n size (negsuc k) = refl
  moved_to_with n size (pos k) = if_with (nat_le k size) (address n k) varying

  -- where an object has the same size
  pub moved_by_with : (sizes others : ℕ → ℕ) (size : ℕ) (c d : Constancy) → ((n : ℕ) → others (r n) ≡ sizes n)
      → moved_by others size (constancy_with r c) (constancy_with r d) ≡ constancy_with r (moved_by sizes size c d)
  moved_by_with sizes others size (address n offset) (number z) h = ap (λ k. moved_to (r n) k (pos offset +ℤ (z *ℤ pos size))) (h n) ∙ moved_to_with n (sizes n) (pos offset +ℤ (z *ℤ pos size))
  moved_by_with sizes others size (address n offset) varying h = refl
  moved_by_with sizes others size (address n offset) faulty h = refl
  moved_by_with sizes others size (address n offset) null_constant h = refl
  moved_by_with sizes others size (address n offset) null_address h = refl
  moved_by_with sizes others size (address n offset) (address m o) h = refl
  moved_by_with sizes others size varying d h = refl
  moved_by_with sizes others size faulty d h = refl
  moved_by_with sizes others size (number z) d h = refl
  moved_by_with sizes others size null_constant d h = refl
  moved_by_with sizes others size null_address d h = refl

  pub towards_with : (op : Op) (c : Constancy) → towards op (constancy_with r c) ≡ constancy_with r (towards op c)
  towards_with O.Sub (address n offset) = refl
  towards_with O.Sub varying = refl
  towards_with O.Sub faulty = refl
  towards_with O.Sub (number z) = refl
  towards_with O.Sub null_constant = refl
  towards_with O.Sub null_address = refl
  towards_with _ c = refl

  null_with : (t : CType) → null_of t ≡ constancy_with r (null_of t)
  null_with t = if_with (same t (Pointer Void)) null_constant null_address

  pointer_with : (t : CType) (c : Constancy) → constancy_as_pointer t (constancy_with r c) ≡ constancy_with r (constancy_as_pointer t c)
  pointer_with t (number z) = ap (λ c. if is_zero (number z) then c else varying) (null_with t) ∙ if_with (is_zero (number z)) (null_of t) varying
  pointer_with t null_constant = refl
  pointer_with t null_address = refl
  pointer_with t (address n offset) = refl
  pointer_with t varying = refl
  pointer_with t faulty = refl

  number_with : (m : DataModel) (s : Scalar) (c : Constancy) → constancy_as_number m s (constancy_with r c) ≡ constancy_with r (constancy_as_number m s c)
  number_with m s (number z) = refl
  number_with m s faulty = refl
  number_with m S.Bool varying = refl
  number_with m S.Bool null_constant = refl
  number_with m S.Bool null_address = refl
  number_with m S.Bool (address n offset) = refl
  number_with m _ varying = refl
  number_with m _ null_constant = refl
  number_with m _ null_address = refl
  number_with m _ (address n offset) = refl

  pub constancy_to_with : (m : DataModel) (t : CType) (c : Constancy) → constancy_to m t (constancy_with r c) ≡ constancy_with r (constancy_to m t c)
  constancy_to_with m (Num s) c = number_with m s c
  constancy_to_with m (Pointer t) c = pointer_with (Pointer t) c
  constancy_to_with m _ c = refl

  -- ---- values and places

  place_type_with : (p : Place) → type_at (place_with r p) ≡ type_at p
  place_type_with (e.Object t n) = refl
  place_type_with p = refl

  lvalue_place_with : (p : Place) → is_lvalue_place (place_with r p) ≡ is_lvalue_place p
  lvalue_place_with (e.Part t offset p) = lvalue_place_with p
  lvalue_place_with p = refl

  value_at_with : (t : CType) (p : Place) → value_at t (place_with r p) ≡ value_with r (value_at t p)
  value_at_with (Array t n) p = refl
  value_at_with (Struct k) p = refl
  value_at_with (Qualified q t) p = by (is_struct t)
    where
      by : (b : Bool) → (if b then e.Whole t (place_with r p) else e.Load t (place_with r p)) ≡ value_with r (if b then e.Whole t p else e.Load t p)
      by true = refl
      by false = refl
  value_at_with Void p = refl
  value_at_with (Num s) p = refl
  value_at_with (Pointer t) p = refl
  value_at_with (Function t ts dots) p = refl
  value_at_with Floating p = refl

  pub cast_to_with : (t : CType) (v : Value) → cast_to t (value_with r v) ≡ value_with r (cast_to t v)
  cast_to_with t v = ap (λ u. e.Convert (how_to t u) t (value_with r v)) (type_with r v)

  pub converted_to_with : (t : CType) (v : Value) → converted_to t (value_with r v) ≡ value_with r (converted_to t v)
  converted_to_with t v =
      ap (λ u. if is_struct t || same t u then value_with r v else e.Convert (how_to t u) t (value_with r v)) (type_with r v) ∙ by (is_struct t || same t (type_of v))
    where
      by : (b : Bool) → (if b then value_with r v else e.Convert (how_to t (type_of v)) t (value_with r v)) ≡ value_with r (if b then v else cast_to t v)
      by true = refl
      by false = refl

  -- ---- typed expressions

  form_type : (f : Form) → elim (form_with r f) as (λ _. CType) [ a_value v ↦ type_of v | a_place place ↦ type_at place | a_designator name type ↦ type ]
      ≡ elim (f) as (λ _. CType) [ a_value v ↦ type_of v | a_place place ↦ type_at place | a_designator name type ↦ type ]
  form_type (a_value v) = type_with r v
  form_type (a_place p) = place_type_with p
  form_type (a_designator name t) = refl

  pub own_type_with : (x : Typed) → own_type (typed_with r x) ≡ own_type x
  own_type_with x = form_type x.form

  form_lvalue : (f : Form) → elim (form_with r f) as (λ _. Bool) [ a_value v ↦ false | a_place place ↦ is_lvalue_place place | a_designator name type ↦ false ]
      ≡ elim (f) as (λ _. Bool) [ a_value v ↦ false | a_place place ↦ is_lvalue_place place | a_designator name type ↦ false ]
  form_lvalue (a_value v) = refl
  form_lvalue (a_place p) = lvalue_place_with p
  form_lvalue (a_designator name t) = refl

  pub is_lvalue_with : (x : Typed) → is_lvalue (typed_with r x) ≡ is_lvalue x
  is_lvalue_with x = form_lvalue x.form

  form_value : (x : Typed) (f : Form) → value_in (record x { form = form_with r f }) ≡ value_with r (value_in (record x { form = f }))
  form_value x (a_value v) = refl
  form_value x (a_place p) = ap (λ t. value_at t (place_with r p)) (place_type_with p) ∙ value_at_with (type_at p) p
  form_value x (a_designator name t) = refl

  pub value_in_with : (x : Typed) → value_in (typed_with r x) ≡ value_with r (value_in x)
  value_in_with x = form_value x x.form

  form_place : (x : Typed) (f : Form) → place_in (record x { form = form_with r f }) ≡ place_with r (place_in (record x { form = f }))
  form_place x (a_value v) = ap (λ t. e.Held t (value_with r v)) (type_with r v)
  form_place x (a_place p) = refl
  form_place x (a_designator name t) = refl

  pub place_in_with : (x : Typed) → place_in (typed_with r x) ≡ place_with r (place_in x)
  place_in_with x = form_place x x.form

  pub counts_as_null_with : (x : Typed) → counts_as_null (typed_with r x) ≡ counts_as_null x
  counts_as_null_with x = ap (λ b. b || (x.is_after && is_null_constant (constancy_with r x.erased))) (null_constant_with x.constancy)
      ∙ ap (λ b. is_null_constant x.constancy || (x.is_after && b)) (null_constant_with x.erased)

  pub fits_with : (t : CType) (x : Typed) → fits t (typed_with r x) ≡ fits t x
  fits_with t x = rw (own_type_with x, counts_as_null_with x) refl

  -- ---- what is read

  read_with : (x : Typed) (p : Place) → read (place_with r p) (typed_with r x) ≡ typed_with r (read p x)
  read_with x p =
      ap (λ t. if is_array t then record (typed_with r x) { form = a_value (value_at t (place_with r p)) } else valued (value_at t (place_with r p)) varying varying) (place_type_with p)
      ∙ ap (λ v. if is_array (type_at p) then record (typed_with r x) { form = a_value v } else valued v varying varying) (value_at_with (type_at p) p)
      ∙ by (is_array (type_at p))
    where
      by : (b : Bool) → (if b then record (typed_with r x) { form = a_value (value_with r (value_at (type_at p) p)) } else valued (value_with r (value_at (type_at p) p)) varying varying)
          ≡ typed_with r (if b then record x { form = a_value (value_at (type_at p) p) } else valued (value_at (type_at p) p) varying varying)
      by true = refl
      by false = refl

  form_read : (x : Typed) (f : Form) → as_it_is_read (typed_with r (record x { form = f })) ≡ typed_with r (as_it_is_read (record x { form = f }))
  form_read x (a_value v) = refl
  form_read x (a_place p) = read_with (record x { form = a_place p }) p
  form_read x (a_designator name t) = refl

  pub as_read_with : (x : Typed) → as_it_is_read (typed_with r x) ≡ typed_with r (as_it_is_read x)
  as_read_with x = form_read x x.form

  pub used_with : (role : Use) (x : Typed) → used role (typed_with r x) ≡ typed_with r (used role x)
  used_with as_value x = as_read_with x
  used_with as_truth x = as_read_with x
  used_with as_callee x = as_read_with x
  used_with as_place x = refl

  -- ---- what is judged at each expression

  pub any_with : (structs : Structs) (role : Use) (x : Typed) → faults_of_any structs role (typed_with r x) ≡ faults_of_any structs role x
  any_with structs role x = rw (own_type_with x) (rw (is_lvalue_with x) refl)

  -- ---- lists

  pub values_of_with : (xs : List Typed) → values_of (map (typed_with r) xs) ≡ values_with r (values_of xs)
  values_of_with [] = refl
  values_of_with (x ∷ xs) = ap (λ v. e.a_value v (values_of (map (typed_with r) xs))) (value_in_with x) ∙ ap (e.a_value (value_with r (value_in x))) (values_of_with xs)

  pub last_of_with : (t : CType) (xs : List Typed) → last_of t (map (typed_with r) xs) ≡ last_of t xs
  last_of_with t [] = refl
  last_of_with t (x ∷ xs) = ap (λ u. last_of u (map (typed_with r) xs)) (own_type_with x) ∙ last_of_with (own_type x) xs

  pub length_with : (xs : List Typed) → length (map (typed_with r) xs) ≡ length xs
  length_with [] = refl
  length_with (x ∷ xs) = ap (λ n. suc n) (length_with xs)
