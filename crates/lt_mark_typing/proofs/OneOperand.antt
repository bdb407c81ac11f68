-- What names, operators on one operand, members, calls, casts and marks make of expressions whose objects have other numbers: C11 6.5.1 to 6.5.4.
use Rattle.std.proofs.Common.{◌≡◌, ℕ, List, [], ◌∷◌, map, Option, Some, None, Bool, true, false, refl, ap, ◌∙◌}
use Rattle.std.specs.Prelude.{pos, ◌-ℤ◌, ◌&&◌, not, if◌then◌else◌, option_and_then}
use Rattle.lt_model.specs.declared.scalar.DataModel.{DataModel}
use Rattle.lt_model.specs.declared.operator.Op.{Op}
use Rattle.lt_model.specs.declared.operator.Op.TheVariants as O
use Rattle.lt_model.specs.Conversions.{promoted}
use Rattle.lt_tree.specs.declared.expression.UnaryOp.{UnaryOp}
use Rattle.lt_tree.specs.declared.expression.UnaryOp.TheVariants as unary
use Rattle.lt_tree.specs.Typing.Types.{CType, CTypes, no_types, a_type, Num, Function as FunctionType, target_of, is_integer, is_pointer, is_void, unqualified}
use Rattle.lt_tree.specs.Typing.Extents.{Placed, is_complete, size_of}
use Rattle.lt_tree.specs.Typing.Constants.{Constancy, varying, faulty, number, null_constant, null_address, address, converted}
use Rattle.lt_tree.specs.Typing.Rules.{bad_address}
use Rattle.lt_tree.specs.Typing.TypedTree as e
use Rattle.lt_tree.specs.Typing.TypedTree.{Value, Values, Marks, When, type_of}
use Rattle.lt_tree.specs.Typing.Entities.{Known}
use Rattle.lt_tree.specs.Typing.Operands.{points_to}
use Rattle.lt_tree.specs.Typing.Expressions.{Form, a_value, a_place, a_designator, Typed, Use, as_value, as_truth, as_place, as_callee, placed, nothing, own_type, value_in, place_in, as_it_is_read, Judged, judgement, converted_to, scalar_in}
use Rattle.lt_tree.specs.Typing.Operations.{judge_plus, judge_minus, judge_complement, judge_not, judge_address_of, judge_dereference, judge_step, judge_part, judge_member, judge_arrow, judge_call, judge_function, judge_cast, constant_address, target_in, member_in, fits, all_fit, passed, promoted_argument, promoted_value}
use Rattle.lt_tree.specs.Typing.MarkRules.{TypedBinding, bindings_of, is_lvalue_in_use, judge_marked, judge_decide, judge_after}
use Rattle.lt_tree.specs.Typing.NodeEnds.{judge_unary}
use Rattle.lt_object_laws.specs.Renamed.{value_with, values_with, marks_with, bindings_with, constancy_with}
use Rattle.lt_mark_typing.specs.Renumbered.{form_with, typed_with}
use Rattle.lt_mark_typing.proofs.Operators.{call_of, behind}
use Rattle.lt_mark_typing.proofs.Renumbering.{judged_with, zero_with, converted_with, applied_with, negated_with, constant_address_with, constancy_to_with, cast_to_with, converted_to_with, own_type_with, is_lvalue_with, value_in_with, place_in_with, fits_with, as_read_with, length_with}

-- a name that a mark binds, with what is typed there
abbrev pub typed_binding_with : (ℕ → ℕ) → TypedBinding → TypedBinding
typed_binding_with r it = record it { typed = typed_with r it.typed }

module _ (r : ℕ → ℕ) where
  if_judged : (b : Bool) (i j : Judged) → (if b then judged_with r i else judged_with r j) ≡ judged_with r (if b then i else j)
  if_judged true i j = refl
  if_judged false i j = refl

  if_value : (b : Bool) (v w : Value) → (if b then value_with r v else value_with r w) ≡ value_with r (if b then v else w)
  if_value true v w = refl
  if_value false v w = refl

  -- ---- operators on one operand

  plus_with : (x : Typed) (known : Known) → judge_plus (typed_with r x) known ≡ judged_with r (judge_plus x known)
  unfolding judge_plus
  plus_with x known = rw (own_type_with r x) (rw (value_in_with r x) (rw (cast_to_with r (Num (promoted known.model (scalar_in x))) (value_in x))
      (rw (converted_with r known.model (promoted known.model (scalar_in x)) x.constancy) (rw (converted_with r known.model (promoted known.model (scalar_in x)) x.erased) refl))))

  minus_with : (x : Typed) (known : Known) → judge_minus (typed_with r x) known ≡ judged_with r (judge_minus x known)
  unfolding judge_minus
  minus_with x known = let s = promoted known.model (scalar_in x) in
      rw (own_type_with r x) (rw (value_in_with r x) (rw (converted_to_with r (Num s) (value_in x)) (rw (converted_with r known.model s x.constancy) (rw (converted_with r known.model s x.erased)
      (rw (applied_with r known.model O.Sub s (number (pos 0)) (converted known.model s x.constancy)) (rw (applied_with r known.model O.Sub s (number (pos 0)) (converted known.model s x.erased)) refl))))))

  complement_with : (x : Typed) (known : Known) → judge_complement (typed_with r x) known ≡ judged_with r (judge_complement x known)
  unfolding judge_complement
  complement_with x known = let s = promoted known.model (scalar_in x) in let ones = converted known.model s (number (pos 0 -ℤ pos 1)) in
      rw (own_type_with r x) (rw (value_in_with r x) (rw (converted_to_with r (Num s) (value_in x)) (rw (converted_with r known.model s x.constancy) (rw (converted_with r known.model s x.erased)
      (rw (applied_with r known.model O.Xor s ones (converted known.model s x.constancy)) (rw (applied_with r known.model O.Xor s ones (converted known.model s x.erased)) refl))))))

  not_with : (x : Typed) → judge_not (typed_with r x) ≡ judged_with r (judge_not x)
  unfolding judge_not
  not_with x = rw (own_type_with r x) (rw (value_in_with r x) (rw (negated_with r x.constancy) (rw (negated_with r x.erased) refl)))

  address_of_with : (x : Typed) → judge_address_of (typed_with r x) ≡ judged_with r (judge_address_of x)
  unfolding judge_address_of
  address_of_with x = rw (own_type_with r x) (rw (is_lvalue_with r x) (rw (place_in_with r x) refl))

  dereference_with : (x : Typed) (known : Known) → judge_dereference (typed_with r x) known ≡ judged_with r (judge_dereference x known)
  unfolding judge_dereference
  dereference_with x known = rw (own_type_with r x) (rw (value_in_with r x) (rw (constant_address_with r x.constancy)
      (if_judged (points_to (is_complete known.structs) (own_type x)) (judgement [] (placed (e.Pointed (target_in x) (value_in x)) (constant_address x.constancy))) (judgement (bad_address ∷ []) nothing))))

  pub unary_with : (op : UnaryOp) (x : Typed) (known : Known) → judge_unary op (typed_with r x) known ≡ judged_with r (judge_unary op x known)
  unary_with unary.AddressOf x known = address_of_with x
  unary_with unary.Dereference x known = dereference_with x known
  unary_with unary.Plus x known = plus_with x known
  unary_with unary.Minus x known = minus_with x known
  unary_with unary.Complement x known = complement_with x known
  unary_with unary.Not x known = not_with x

  pub step_with : (when : When) (op : Op) (x : Typed) (known : Known) → judge_step when op (typed_with r x) known ≡ judged_with r (judge_step when op x known)
  unfolding judge_step
  step_with when op x known = rw (own_type_with r x) (rw (is_lvalue_with r x) (rw (place_in_with r x) (rw (if_value (is_pointer (own_type x))
      (e.StepPointer (unqualified (own_type x)) when op (size_of known.model known.structs (target_in x)) (place_in x)) (e.Step (unqualified (own_type x)) when op (promoted known.model (scalar_in x)) (place_in x))) refl)))

  -- ---- members

  behind_with : (member : Placed) (c : Constancy) → behind member (constancy_with r c) ≡ constancy_with r (behind member c)
  behind_with member (address n offset) = refl
  behind_with member varying = refl
  behind_with member faulty = refl
  behind_with member (number z) = refl
  behind_with member null_constant = refl
  behind_with member null_address = refl

  part_with : (x : Typed) (found : Option Placed) → judge_part (typed_with r x) found ≡ judged_with r (judge_part x found)
  part_with x None = refl
  part_with x (Some member) = rw (own_type_with r x) (rw (place_in_with r x) (rw (behind_with member x.constancy) refl))

  pub member_with : (x : Typed) (name : List ℕ) (known : Known) → judge_member (typed_with r x) name known ≡ judged_with r (judge_member x name known)
  unfolding judge_member
  member_with x name known = rw (own_type_with r x) (part_with x (member_in known (own_type x) name))

  pub arrow_with : (x : Typed) (name : List ℕ) (known : Known) → judge_arrow (typed_with r x) name known ≡ judged_with r (judge_arrow x name known)
  unfolding judge_arrow
  arrow_with x name known = rw (own_type_with r x) (rw (value_in_with r x) (rw (constant_address_with r x.constancy)
      (part_with (placed (e.Pointed (target_in x) (value_in x)) (constant_address x.constancy)) (option_and_then (λ t. member_in known t name) (target_of (own_type x))))))

  -- ---- casts

  pub cast_with : (t : CType) (x : Typed) (known : Known) → judge_cast t (typed_with r x) known ≡ judged_with r (judge_cast t x known)
  unfolding judge_cast
  cast_with t x known = rw (own_type_with r x) (rw (value_in_with r x) (rw (zero_with r x.constancy) (rw (cast_to_with r (unqualified t) (value_in x))
      (rw (constancy_to_with r known.model (unqualified t) x.constancy) (rw (constancy_to_with r known.model (unqualified t) x.erased) refl)))))

  -- ---- calls

  promoted_value_with : (m : DataModel) (x : Typed) → promoted_value m (typed_with r x) ≡ value_with r (promoted_value m x)
  promoted_value_with m x = rw (own_type_with r x) (rw (value_in_with r x) (converted_to_with r (Num (promoted m (scalar_in x))) (value_in x)))

  -- an argument, and what a `switch` goes by
  pub argument_with : (m : DataModel) (x : Typed) → promoted_argument m (typed_with r x) ≡ value_with r (promoted_argument m x)
  argument_with m x =
      ap (λ t. if is_integer t then promoted_value m (typed_with r x) else value_in (typed_with r x)) (own_type_with r x)
      ∙ ap (λ v. if is_integer (own_type x) then v else value_in (typed_with r x)) (promoted_value_with m x)
      ∙ ap (λ v. if is_integer (own_type x) then value_with r (promoted_value m x) else v) (value_in_with r x)
      ∙ if_value (is_integer (own_type x)) (promoted_value m x) (value_in x)

  all_fit_with : (xs : List Typed) (ts : CTypes) → all_fit (map (typed_with r) xs) ts ≡ all_fit xs ts
  all_fit_with [] ts = refl
  all_fit_with (x ∷ xs) no_types = ap (λ t. not (is_void t) && all_fit (map (typed_with r) xs) no_types) (own_type_with r x) ∙ ap (λ b. not (is_void (own_type x)) && b) (all_fit_with xs no_types)
  all_fit_with (x ∷ xs) (a_type t ts) = ap (λ b. b && all_fit (map (typed_with r) xs) ts) (fits_with r t x) ∙ ap (λ b. fits t x && b) (all_fit_with xs ts)

  passed_with : (m : DataModel) (xs : List Typed) (ts : CTypes) → passed m (map (typed_with r) xs) ts ≡ values_with r (passed m xs ts)
  passed_with m [] ts = refl
  passed_with m (x ∷ xs) no_types = ap (λ v. e.a_value v (passed m (map (typed_with r) xs) no_types)) (argument_with m x) ∙ ap (e.a_value (value_with r (promoted_argument m x))) (passed_with m xs no_types)
  passed_with m (x ∷ xs) (a_type t ts) =
      ap (λ v. e.a_value (converted_to t v) (passed m (map (typed_with r) xs) ts)) (value_in_with r x) ∙ ap (λ v. e.a_value v (passed m (map (typed_with r) xs) ts)) (converted_to_with r t (value_in x))
      ∙ ap (e.a_value (value_with r (converted_to t (value_in x)))) (passed_with m xs ts)

  function_with : (known : Known) (name : List ℕ) (t : CType) (xs : List Typed) → judge_function known name t (map (typed_with r) xs) ≡ judged_with r (judge_function known name t xs)
  unfolding judge_function
  function_with known name (FunctionType result ts dots) xs = rw (length_with r xs) (rw (all_fit_with xs ts) (rw (passed_with known.model xs ts) refl))
  function_with known name _ xs = refl

  call_by : (known : Known) (xs : List Typed) (form : Form) → call_of (map (typed_with r) xs) known (form_with r form) ≡ judged_with r (call_of xs known form)
  call_by known xs (a_value v) = refl
  call_by known xs (a_place p) = refl
  call_by known xs (a_designator name t) = function_with known name t xs

  pub call_with : (f : Typed) (xs : List Typed) (known : Known) → judge_call (typed_with r f) (map (typed_with r) xs) known ≡ judged_with r (judge_call f xs known)
  unfolding judge_call
  call_with f xs known = call_by known xs f.form

  -- ---- marks

  pub bindings_of_with : (them : List TypedBinding) → bindings_of (map (typed_binding_with r) them) ≡ bindings_with r (bindings_of them)
  bindings_of_with [] = refl
  bindings_of_with (it ∷ them) =
      ap (λ v. e.a_binding it.name v (bindings_of (map (typed_binding_with r) them))) (value_in_with r it.typed) ∙ ap (e.a_binding it.name (value_with r (value_in it.typed))) (bindings_of_with them)

  pub marked_with : (ms : Marks) (x : Typed) → judge_marked (marks_with r ms) (typed_with r x) ≡ judged_with r (judge_marked ms x)
  unfolding judge_marked
  marked_with ms x = rw (own_type_with r x) (rw (value_in_with r x) refl)

  pub decide_with : (role : Use) (x : Typed) (when_true when_false tag : List ℕ) (known : Known)
      → judge_decide role (typed_with r x) when_true when_false tag known ≡ judged_with r (judge_decide role x when_true when_false tag known)
  unfolding judge_decide
  decide_with role x when_true when_false tag known = rw (own_type_with r x) (rw (value_in_with r x) refl)

  in_use_with : (role : Use) (x : Typed) → is_lvalue_in_use role (typed_with r x) ≡ is_lvalue_in_use role x
  in_use_with as_place x = is_lvalue_with r x
  in_use_with as_value x = refl
  in_use_with as_truth x = refl
  in_use_with as_callee x = refl

  pub after_with : (role : Use) (x : Typed) (id tag : List ℕ) (known : Known) → judge_after role (typed_with r x) id tag known ≡ judged_with r (judge_after role x id tag known)
  unfolding judge_after
  after_with role x id tag known = rw (in_use_with role x) (rw (as_read_with r x) (rw (own_type_with r (as_it_is_read x)) (rw (value_in_with r (as_it_is_read x)) refl)))
