-- What operators make of operands that rest on objects which are there from the start, and how the node of an expression ends.
use Rattle.std.proofs.Common.{◌≡◌, refl, ℕ, ◌+◌, pos, List, [], ◌∷◌, ◌++◌, Bool, true, false, Option, Some, None}
use Rattle.std.specs.Prelude.{◌-ℤ◌, if◌then◌else◌, option_and_then}
use Rattle.lt_model.specs.declared.scalar.Scalar.{Scalar}
use Rattle.lt_model.specs.declared.operator.Op.{Op}
use Rattle.lt_model.specs.declared.operator.Op.TheVariants as O
use Rattle.lt_model.specs.Conversions.{promoted}
use Rattle.lt_tree.specs.declared.expression.UnaryOp.{UnaryOp}
use Rattle.lt_tree.specs.declared.expression.UnaryOp.TheVariants as unary
use Rattle.lt_tree.specs.Typing.Types.{CType, Function, target_of, unqualified, is_array, is_pointer}
use Rattle.lt_tree.specs.Typing.Extents.{Placed, is_complete}
use Rattle.lt_tree.specs.Typing.Constants.{Constancy, varying, number, address, TypedConstant, converted}
use Rattle.lt_tree.specs.Typing.Rules.{bad_address, bad_call}
use Rattle.lt_tree.specs.Typing.TypedTree as e
use Rattle.lt_tree.specs.Typing.TypedTree.{Value, Place, When, type_at}
use Rattle.lt_tree.specs.Typing.Entities.{Known, Entity, an_object, a_function, a_typedef, an_enumerator, Object}
use Rattle.lt_tree.specs.Typing.Steps.{Goes}
use Rattle.lt_tree.specs.Typing.Expressions.{Form, a_value, a_place, a_designator, Typed, Use, placed, varies, nothing, own_type, value_at, value_in, read, as_it_is_read, is_read, used, faults_of_any, Judged, judgement, fact_of, finish, scalar_in}
use Rattle.lt_tree.specs.Typing.Operands.{points_to}
use Rattle.lt_tree.specs.Typing.Operations.{lives_from_the_start, constancy_of_object, judge_name, judge_constant, judge_plus, judge_minus, judge_complement, judge_not, judge_address_of, target_in, constant_address, judge_dereference, judge_step, judge_size, judge_part, member_in, judge_member, judge_arrow, object_size, pointer_among, other_among, element_size, judge_index, judge_function, judge_call, judge_cast}
use Rattle.lt_tree.specs.Typing.NodeEnds.{judge_unary, text_at}
use Rattle.lt_typed_addresses.proofs.Resting.{LivesFirst, Rests, TypedRests, varying_rests, number_rests, converted_rests, applied_rests, negated_rests, moved_by_rests, constancy_to_rests}
use Rattle.lt_typed_addresses.proofs.Keeping.{same, TypedAt, KeptTyped, went, judges}

-- ---- expressions as they are used

pub varies_rests : {objects : List Object} {v : Value} → TypedRests objects (varies v)
varies_rests = record { constancy = varying_rests; erased = varying_rests }

pub nothing_rests : {objects : List Object} → TypedRests objects nothing
nothing_rests = record { constancy = number_rests; erased = number_rests }

placed_read : {objects : List Object} (place : Place) (x : Typed) → TypedRests objects x → TypedRests objects (read place x)
placed_read {objects} place x h =
    elim (is_array (type_at place)) as (λ v. TypedRests objects (if v then record x { form = a_value (value_at (type_at place) place) } else varies (value_at (type_at place) place)))
    [ true ↦ record { constancy = h.constancy; erased = h.erased } | false ↦ varies_rests ]

form_read : {objects : List Object} (form : Form) (x : Typed) → TypedRests objects x → TypedRests objects (elim form [ a_value v ↦ x | a_place place ↦ read place x | a_designator name t ↦ x ])
form_read (a_value v) x h = h
form_read (a_place place) x h = placed_read place x h
form_read (a_designator name t) x h = h

pub read_rests : {objects : List Object} {x : Typed} → TypedRests objects x → TypedRests objects (as_it_is_read x)
read_rests {x = x} h = form_read x.form x h

used_rests : {objects : List Object} (role : Use) {x : Typed} → TypedRests objects x → TypedRests objects (used role x)
used_rests {objects} role {x} h = elim (is_read role) as (λ v. TypedRests objects (if v then as_it_is_read x else x)) [ true ↦ read_rests h | false ↦ h ]

-- ---- the end of an expression's node

pub finished : (node : ℕ) (role : Use) (it : Judged) (known : Known) → TypedAt known.is_unmarked known.objects it.typed → KeptTyped known (finish node role it known)
unfolding finish
finished node role it known h =
    judges node (it.faults ++ faults_of_any known.structs role it.typed) known (λ u k. Goes (used role it.typed) (record k { facts = k.facts ++ fact_of node it.typed ∷ [] }))
    (went same (λ clean. used_rests role (h clean)))

-- ---- names and constants

address_or_varying : {objects : List Object} (lives : Bool) (n : ℕ) → (lives ≡ true → LivesFirst objects n) → Rests objects (if lives then address n 0 else varying)
address_or_varying true n h = record { so = h refl }
address_or_varying false n h = varying_rests

object_rests : (known : Known) (n : ℕ) → Rests known.objects (constancy_of_object known n)
object_rests known n = address_or_varying (lives_from_the_start known n) n (λ lives. lives)

pub name_rests : (role : Use) (name : List ℕ) (found : Option Entity) (known : Known) → TypedRests known.objects (judge_name role name found known).typed
unfolding judge_name
name_rests role name None known = nothing_rests
name_rests role name (Some (a_typedef t)) known = nothing_rests
name_rests role name (Some (an_object n is_register)) known = record { constancy = object_rests known n; erased = object_rests known n }
name_rests role name (Some a_function) known = record { constancy = varying_rests; erased = varying_rests }
name_rests role name (Some (an_enumerator z)) known = record { constancy = number_rests; erased = number_rests }

pub constant_typed : {objects : List Object} (c : Option TypedConstant) → TypedRests objects (judge_constant c).typed
unfolding judge_constant
constant_typed None = nothing_rests
constant_typed (Some c) = record { constancy = number_rests; erased = number_rests }

pub text_rests : {objects : List Object} (known : Known) (bytes : List ℕ) (n : ℕ) → LivesFirst objects n → TypedRests objects (text_at known bytes n).typed
unfolding text_at
text_rests known bytes n h = record { constancy = record { so = h }; erased = record { so = h } }

-- ---- operators on one operand

-- an address so many bytes further on
abbrev further : ℕ → Constancy → Constancy
further n (address object offset) = address object (offset + n)
further n _ = varying

-- a call of what is written so
abbrev call_of : List Typed → Known → Form → Judged
call_of xs known (a_value v) = judgement (bad_call ∷ []) nothing
call_of xs known (a_place place) = judgement (bad_call ∷ []) nothing
call_of xs known (a_designator name t) = judge_function known name t xs

module _ {objects : List Object} where
  plus_rests : (x : Typed) (known : Known) → TypedRests objects (judge_plus x known).typed
  unfolding judge_plus
  plus_rests x known = let s : Scalar = promoted known.model (scalar_in x) in record { constancy = converted_rests known.model s x.constancy; erased = converted_rests known.model s x.erased }

  minus_rests : (x : Typed) (known : Known) → TypedRests objects (judge_minus x known).typed
  unfolding judge_minus
  minus_rests x known =
      let s : Scalar = promoted known.model (scalar_in x) in
      record { constancy = applied_rests known.model O.Sub s (number (pos 0)) (converted known.model s x.constancy); erased = applied_rests known.model O.Sub s (number (pos 0)) (converted known.model s x.erased) }

  complement_rests : (x : Typed) (known : Known) → TypedRests objects (judge_complement x known).typed
  unfolding judge_complement
  complement_rests x known =
      let s : Scalar = promoted known.model (scalar_in x) in
      let ones : Constancy = converted known.model s (number (pos 0 -ℤ pos 1)) in
      record { constancy = applied_rests known.model O.Xor s ones (converted known.model s x.constancy); erased = applied_rests known.model O.Xor s ones (converted known.model s x.erased) }

  not_rests : (x : Typed) → TypedRests objects (judge_not x).typed
  unfolding judge_not
  not_rests x = record { constancy = negated_rests x.constancy; erased = negated_rests x.erased }

  address_of_rests : {x : Typed} → TypedRests objects x → TypedRests objects (judge_address_of x).typed
  unfolding judge_address_of
  address_of_rests h = record { constancy = h.constancy; erased = h.constancy }

  constant_address_rests : (c : Constancy) → Rests objects c → Rests objects (constant_address c)
  constant_address_rests (address n offset) h = h
  constant_address_rests _ h = record { so = tt }

  pointed_rests : (x : Typed) → TypedRests objects x → TypedRests objects (placed (e.Pointed (target_in x) (value_in x)) (constant_address x.constancy))
  pointed_rests x h = record { constancy = constant_address_rests x.constancy h.constancy; erased = constant_address_rests x.constancy h.constancy }

  dereference_rests : {x : Typed} (known : Known) → TypedRests objects x → TypedRests objects (judge_dereference x known).typed
  unfolding judge_dereference
  dereference_rests {x} known h =
      elim (points_to (is_complete known.structs) (own_type x)) as (λ v. TypedRests objects (if v then judgement [] (placed (e.Pointed (target_in x) (value_in x)) (constant_address x.constancy)) else judgement (bad_address ∷ []) nothing).typed)
      [ true ↦ pointed_rests x h | false ↦ nothing_rests ]

  pub unary_rests : {x : Typed} (op : UnaryOp) (known : Known) → TypedRests objects x → TypedRests objects (judge_unary op x known).typed
  unary_rests unary.AddressOf known h = address_of_rests h
  unary_rests unary.Dereference known h = dereference_rests known h
  unary_rests {x} unary.Plus known h = plus_rests x known
  unary_rests {x} unary.Minus known h = minus_rests x known
  unary_rests {x} unary.Complement known h = complement_rests x known
  unary_rests {x} unary.Not known h = not_rests x

  pub step_rests : (gives : When) (op : Op) (x : Typed) (known : Known) → TypedRests objects (judge_step gives op x known).typed
  unfolding judge_step
  step_rests gives op x known = varies_rests

  pub size_rests : (t : CType) (known : Known) → TypedRests objects (judge_size t known).typed
  unfolding judge_size
  size_rests t known = record { constancy = number_rests; erased = number_rests }

  -- ---- members and elements

  further_rests : (n : ℕ) (c : Constancy) → Rests objects c → Rests objects (further n c)
  further_rests n (address object offset) h = record { so = h.so }
  further_rests n _ h = record { so = tt }

  pub part_rests : (x : Typed) (found : Option Placed) → TypedRests objects x → TypedRests objects (judge_part x found).typed
  part_rests x None h = nothing_rests
  part_rests x (Some member) h = record { constancy = further_rests member.offset x.constancy h.constancy; erased = further_rests member.offset x.constancy h.constancy }

  pub member_rests : {x : Typed} (name : List ℕ) (known : Known) → TypedRests objects x → TypedRests objects (judge_member x name known).typed
  unfolding judge_member
  member_rests {x} name known h = part_rests x (member_in known (own_type x) name) h

  pub arrow_rests : {x : Typed} (name : List ℕ) (known : Known) → TypedRests objects x → TypedRests objects (judge_arrow x name known).typed
  unfolding judge_arrow
  arrow_rests {x} name known h =
      part_rests (placed (e.Pointed (target_in x) (value_in x)) (constant_address x.constancy)) (option_and_then (λ t. member_in known t name) (target_of (own_type x))) (pointed_rests x h)

  pub pointer_rests : {x y : Typed} → TypedRests objects x → TypedRests objects y → TypedRests objects (pointer_among x y)
  pointer_rests {x} {y} h i = elim (is_pointer (own_type x)) as (λ v. TypedRests objects (if v then x else y)) [ true ↦ h | false ↦ i ]

  pub index_rests : {x y : Typed} (known : Known) → TypedRests objects x → TypedRests objects y → TypedRests objects (judge_index x y known).typed
  unfolding judge_index
  index_rests {x} {y} known h i =
      let pointer : TypedRests objects (pointer_among x y) = pointer_rests h i in
      let at = moved_by_rests (object_size known) (element_size known x y) (pointer_among x y).constancy (other_among x y).constancy pointer.constancy in
      record { constancy = at; erased = at }

  -- ---- calls and casts

  function_rests : (known : Known) (name : List ℕ) (t : CType) (xs : List Typed) → TypedRests objects (judge_function known name t xs).typed
  unfolding judge_function
  function_rests known name (Function result ts dots) xs = varies_rests
  function_rests known name _ xs = nothing_rests

  form_called : (form : Form) (xs : List Typed) (known : Known) → TypedRests objects (call_of xs known form).typed
  form_called (a_value v) xs known = nothing_rests
  form_called (a_place place) xs known = nothing_rests
  form_called (a_designator name t) xs known = function_rests known name t xs

  pub call_rests : (f : Typed) (xs : List Typed) (known : Known) → TypedRests objects (judge_call f xs known).typed
  unfolding judge_call
  call_rests f xs known = form_called f.form xs known

  pub cast_rests : (t : CType) {x : Typed} (known : Known) → TypedRests objects x → TypedRests objects (judge_cast t x known).typed
  unfolding judge_cast
  cast_rests t {x} known h = record { constancy = constancy_to_rests known.model (unqualified t) x.constancy h.constancy; erased = constancy_to_rests known.model (unqualified t) x.erased h.erased }
