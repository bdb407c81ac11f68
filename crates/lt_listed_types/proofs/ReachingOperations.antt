-- What operators on one operand, members, elements and calls make of operands that get at memory by types which are named in a list.
use Rattle.std.proofs.Common.{◌≡◌, refl, ℕ, List, [], ◌∷◌, Bool, true, false, Option, Some, None}
use Rattle.std.specs.Prelude.{if◌then◌else◌, option_and_then}
use Rattle.std.specs.List.{AllByRecursion}
use Rattle.lt_model.specs.declared.operator.Op.{Op}
use Rattle.lt_model.specs.declared.scalar.DataModel.{DataModel}
use Rattle.lt_model.specs.Conversions.{promoted}
use Rattle.lt_tree.specs.declared.expression.UnaryOp.{UnaryOp}
use Rattle.lt_tree.specs.declared.expression.UnaryOp.TheVariants as unary
use Rattle.lt_tree.specs.Typing.Types.{CType, CTypes, no_types, a_type, Num, Function, target_of, unqualified, is_integer, is_pointer}
use Rattle.lt_tree.specs.Typing.Extents.{Placed, is_complete, size_of}
use Rattle.lt_tree.specs.Typing.Constants.{TypedConstant}
use Rattle.lt_tree.specs.Typing.Rules.{bad_address, bad_call}
use Rattle.lt_tree.specs.Typing.TypedTree as e
use Rattle.lt_tree.specs.Typing.TypedTree.{Value, When}
use Rattle.lt_tree.specs.Typing.Entities.{Known, Entity, an_object, a_function, a_typedef, an_enumerator}
use Rattle.lt_tree.specs.Typing.Expressions.{Form, a_value, a_place, a_designator, Typed, Use, as_value, as_truth, as_place, as_callee, placed, nothing, own_type, value_in, place_in, Judged, judgement, finish, scalar_in}
use Rattle.lt_tree.specs.Typing.Operands.{points_to}
use Rattle.lt_tree.specs.Typing.Operations.{judge_name, judge_constant, promoted_value, judge_plus, judge_minus, judge_complement, judge_not, judge_address_of, target_in, constant_address, judge_dereference, judge_step, judge_size, judge_part, member_in, judge_member, judge_arrow, judge_index, promoted_argument, passed, judge_function, judge_call, judge_cast}
use Rattle.lt_tree.specs.Typing.NodeEnds.{judge_unary, operand_of, text_at}
use Rattle.lt_type_laws.specs.Accesses.{is_named_in, Accesses, AccessesAll, AccessesPlace}
use Rattle.lt_listed_types.proofs.Named.{unqualified_named}
use Rattle.lt_listed_types.proofs.Keeping.{lists_of, Good, broke}
use Rattle.lt_listed_types.proofs.Reaching.{Makes, Reaches, TypedIn, converted_accesses, finished}

-- a call of what is written so
abbrev call_of : List Typed → Known → Form → Judged
call_of xs known (a_value v) = judgement (bad_call ∷ []) nothing
call_of xs known (a_place place) = judgement (bad_call ∷ []) nothing
call_of xs known (a_designator name t) = judge_function known name t xs

module _ {types : List CType} where
  -- ---- names and constants

  pub nothing_made : {role : Use} → Makes types role nothing
  nothing_made = record { place = tt; plain = tt }

  -- the name of a function breaks a rule where it is used as a value
  function_name : (node : ℕ) (role : Use) (name : List ℕ) (known : Known) → Good types (TypedIn types role) (lists_of known) (finish node role (judge_name role name (Some a_function) known) known)
  unfolding judge_name finish
  function_name node as_value name known = broke
  function_name node as_truth name known = broke
  function_name node as_place name known = broke
  function_name node as_callee name known = finished node as_callee (judge_name as_callee name (Some a_function) known) known (λ h. record { place = tt; plain = tt })

  pub of_name : (node : ℕ) (role : Use) (name : List ℕ) (found : Option Entity) (known : Known) → Good types (TypedIn types role) (lists_of known) (finish node role (judge_name role name found known) known)
  unfolding judge_name
  of_name node role name None known = finished node role (judge_name role name None known) known (λ h. nothing_made)
  of_name node role name (Some (a_typedef t)) known = finished node role (judge_name role name (Some (a_typedef t)) known) known (λ h. nothing_made)
  of_name node role name (Some (an_object n is_register)) known = finished node role (judge_name role name (Some (an_object n is_register)) known) known (λ h. record { place = tt; plain = tt })
  of_name node role name (Some a_function) known = function_name node role name known
  of_name node role name (Some (an_enumerator z)) known = finished node role (judge_name role name (Some (an_enumerator z)) known) known (λ h. record { place = tt; plain = tt })

  pub constant_made : {role : Use} (c : Option TypedConstant) → Makes types role (judge_constant c).typed
  unfolding judge_constant
  constant_made None = nothing_made
  constant_made (Some c) = record { place = tt; plain = tt }

  pub text_made : {role : Use} (known : Known) (bytes : List ℕ) (n : ℕ) → Makes types role (text_at known bytes n).typed
  unfolding text_at
  text_made known bytes n = record { place = tt; plain = tt }

  -- ---- operators on one operand

  promoted_accesses : {role : Use} {x : Typed} (m : DataModel) → Reaches types role x → Accesses (is_named_in types) (promoted_value m x)
  promoted_accesses {x = x} m h = converted_accesses (is_named_in types) (Num (promoted m (scalar_in x))) (value_in x) h.value

  address_of_made : {role : Use} {x : Typed} → Reaches types as_place x → Makes types role (judge_address_of x).typed
  unfolding judge_address_of
  address_of_made h = record { place = h.place; plain = tt }

  dereference_made : {role : Use} {x : Typed} (known : Known) → Reaches types as_value x → Makes types role (judge_dereference x known).typed
  unfolding judge_dereference
  dereference_made {role} {x} known h =
      elim (points_to (is_complete known.structs) (own_type x)) as
      (λ v. Makes types role (if v then judgement [] (placed (e.Pointed (target_in x) (value_in x)) (constant_address x.constancy)) else judgement (bad_address ∷ []) nothing).typed)
      [ true ↦ record { place = h.value; plain = tt } | false ↦ nothing_made ]

  plus_made : {role : Use} {x : Typed} (known : Known) → Reaches types as_value x → Makes types role (judge_plus x known).typed
  unfolding judge_plus
  plus_made known h = record { place = h.value; plain = tt }

  minus_made : {role : Use} {x : Typed} (known : Known) → Reaches types as_value x → Makes types role (judge_minus x known).typed
  unfolding judge_minus
  minus_made known h = record { place = promoted_accesses known.model h; plain = tt }

  complement_made : {role : Use} {x : Typed} (known : Known) → Reaches types as_value x → Makes types role (judge_complement x known).typed
  unfolding judge_complement
  complement_made known h = record { place = promoted_accesses known.model h; plain = tt }

  not_made : {role : Use} {x : Typed} → Reaches types as_truth x → Makes types role (judge_not x).typed
  unfolding judge_not
  not_made h = record { place = h.value; plain = tt }

  pub unary_made : {role : Use} {x : Typed} (op : UnaryOp) (known : Known) → Reaches types (operand_of op) x → Makes types role (judge_unary op x known).typed
  unary_made unary.AddressOf known h = address_of_made h
  unary_made unary.Dereference known h = dereference_made known h
  unary_made unary.Plus known h = plus_made known h
  unary_made unary.Minus known h = minus_made known h
  unary_made unary.Complement known h = complement_made known h
  unary_made unary.Not known h = not_made h

  pub step_made : {role : Use} {x : Typed} (gives : When) (op : Op) (known : Known) → Reaches types as_place x → Makes types role (judge_step gives op x known).typed
  unfolding judge_step
  step_made {role} {x} gives op known h = record { place = by (is_pointer (own_type x)); plain = tt }
    where
      named : is_named_in types (unqualified (own_type x)) ≡ true
      named = unqualified_named types (own_type x) (h.named refl)

      by : (b : Bool) → Accesses (is_named_in types)
          (if b then e.StepPointer (unqualified (own_type x)) gives op (size_of known.model known.structs (target_in x)) (place_in x) else e.Step (unqualified (own_type x)) gives op (promoted known.model (scalar_in x)) (place_in x))
      by true = (named, h.place)
      by false = (named, h.place)

  pub size_made : {role : Use} (t : CType) (known : Known) → Makes types role (judge_size t known).typed
  unfolding judge_size
  size_made t known = record { place = tt; plain = tt }

  -- ---- members and elements

  part_made : {role : Use} (x : Typed) (found : Option Placed) → AccessesPlace (is_named_in types) (place_in x) → Makes types role (judge_part x found).typed
  part_made x None h = nothing_made
  part_made x (Some member) h = record { place = h; plain = tt }

  pub member_made : {role : Use} {x : Typed} (name : List ℕ) (known : Known) → Reaches types as_place x → Makes types role (judge_member x name known).typed
  unfolding judge_member
  member_made {x = x} name known h = part_made x (member_in known (own_type x) name) h.place

  pub arrow_made : {role : Use} {x : Typed} (name : List ℕ) (known : Known) → Reaches types as_value x → Makes types role (judge_arrow x name known).typed
  unfolding judge_arrow
  arrow_made {x = x} name known h =
      part_made (placed (e.Pointed (target_in x) (value_in x)) (constant_address x.constancy)) (option_and_then (λ t. member_in known t name) (target_of (own_type x))) h.value

  pub index_made : {role : Use} {x y : Typed} (known : Known) → Reaches types as_value x → Reaches types as_value y → Makes types role (judge_index x y known).typed
  unfolding judge_index
  index_made known h i = record { place = (h.value, i.value); plain = tt }

  -- ---- calls and casts

  argument_accesses : {x : Typed} (m : DataModel) → Reaches types as_value x → Accesses (is_named_in types) (promoted_argument m x)
  argument_accesses {x} m h = elim (is_integer (own_type x)) as (λ b. Accesses (is_named_in types) (if b then promoted_value m x else value_in x)) [ true ↦ promoted_accesses m h | false ↦ h.value ]

passed_accesses : (types : List CType) (m : DataModel) (xs : List Typed) (ts : CTypes) → AllByRecursion (Reaches types as_value) xs → AccessesAll (is_named_in types) (passed m xs ts)
passed_accesses types m [] ts h = tt
passed_accesses types m (x ∷ xs) no_types h = (argument_accesses m h.0, passed_accesses types m xs no_types h.1)
passed_accesses types m (x ∷ xs) (a_type t ts) h = (converted_accesses (is_named_in types) t (value_in x) h.0.value, passed_accesses types m xs ts h.1)

module _ {types : List CType} where
  function_made : {role : Use} (known : Known) (name : List ℕ) (t : CType) (xs : List Typed) → AllByRecursion (Reaches types as_value) xs → Makes types role (judge_function known name t xs).typed
  unfolding judge_function
  function_made known name (Function result ts dots) xs h = record { place = passed_accesses types known.model xs ts h; plain = tt }
  function_made known name _ xs h = nothing_made

  form_called : {role : Use} (form : Form) (xs : List Typed) (known : Known) → AllByRecursion (Reaches types as_value) xs → Makes types role (call_of xs known form).typed
  form_called (a_value v) xs known h = nothing_made
  form_called (a_place place) xs known h = nothing_made
  form_called (a_designator name t) xs known h = function_made known name t xs h

  pub call_made : {role : Use} (f : Typed) (xs : List Typed) (known : Known) → AllByRecursion (Reaches types as_value) xs → Makes types role (judge_call f xs known).typed
  unfolding judge_call
  call_made f xs known h = form_called f.form xs known h

  pub cast_made : {role : Use} (t : CType) {x : Typed} (known : Known) → Reaches types as_value x → Makes types role (judge_cast t x known).typed
  unfolding judge_cast
  cast_made t known h = record { place = h.value; plain = tt }
