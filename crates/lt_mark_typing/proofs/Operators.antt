-- No operator tells an expression with marks added from the expression: C11 6.5.2 to 6.5.4.
use Rattle.std.proofs.Common.{◌≡◌, ℕ, suc, List, [], ◌∷◌, Option, Some, None, Bool, true, false, refl, ap, ◌∙◌, inl, inr}
use Rattle.std.specs.Prelude.{◌++◌, ◌+◌, ◌⊎◌, ◌||◌, ◌&&◌, not, if◌then◌else◌, pos, ◌-ℤ◌, length, option_and_then}
use Rattle.lt_model.specs.declared.scalar.DataModel.{DataModel}
use Rattle.lt_model.specs.declared.scalar.Scalar.{Scalar}
use Rattle.lt_model.specs.declared.scalar.Scalar.TheVariants as S
use Rattle.lt_model.specs.declared.operator.Op.{Op}
use Rattle.lt_model.specs.declared.operator.Op.TheVariants as O
use Rattle.lt_model.specs.Conversions.{promoted}
use Rattle.lt_tree.specs.declared.expression.UnaryOp.{UnaryOp}
use Rattle.lt_tree.specs.declared.expression.UnaryOp.TheVariants as unary
use Rattle.lt_tree.specs.Typing.Types.{CType, CTypes, no_types, a_type, Num, Pointer, Function as FunctionType, target_of, is_void, is_integer, is_pointer, is_scalar, unqualified}
use Rattle.lt_tree.specs.Typing.Extents.{size_of, is_complete, Placed}
use Rattle.lt_tree.specs.Typing.Constants.{Constancy, varying, faulty, number, null_constant, null_address, address, is_null_constant, converted, applied, negated, moved_by, is_zero}
use Rattle.lt_tree.specs.Typing.Rules.{Rule, unless, broken_if, floating_type, function_as_value, not_scalar, bad_call, bad_address, bad_assignment, bad_cast, no_body}
use Rattle.lt_tree.specs.Typing.TypedTree as e
use Rattle.lt_tree.specs.Typing.TypedTree.{Value, Values, Place, When, type_of}
use Rattle.lt_tree.specs.Typing.Entities.{Known}
use Rattle.lt_tree.specs.Typing.Operands.{points_to, are_integers, are_structs_alike, are_pointers_assignable, is_truth_type, is_assignable, can_be_cast}
use Rattle.lt_tree.specs.Typing.Expressions.{Form, a_value, a_place, a_designator, Typed, varies, placed, nothing, own_type, value_in, place_in, is_lvalue, Judged, judgement, converted_to, constancy_to, constancy_as_number, scalar_in, has_floating, has_pointer_to_function}
use Rattle.lt_tree.specs.Typing.Operations.{judge_plus, judge_minus, judge_complement, judge_not, judge_address_of, judge_dereference, judge_step, judge_member, judge_arrow, judge_part, judge_index, judge_call, judge_function, judge_cast, constant_address, target_in, member_in, pointer_among, other_among, element_size, object_size, fits, counts_as_null, all_fit, is_right_number, can_be_run, takes_or_gives, passed, promoted_argument, promoted_value}
use Rattle.lt_tree.specs.Typing.NodeEnds.{judge_unary}
use Rattle.lt_mark_laws.specs.Added as a
use Rattle.lt_mark_laws.specs.Added.{Adds, AddsAll, AddsPlace, AddsTruth}
use Rattle.lt_mark_typing.specs.Beside.{AddsForm, values, places, designators, IsAtMost, AddsMade, AddsTyped, AddsTest, AddsEach, none_added, one_added, AddsAt}
use Rattle.lt_mark_typing.specs.Placed.{position_of}
use Rattle.lt_mark_typing.proofs.Operands.{cast_adds, converted_adds, type_same, value_adds, place_adds, lvalue_same, AddsJudged, made, made_itself, valued_adds, varies_adds}

-- ---- constants

pub strict : (f : Constancy → Constancy) → f varying ≡ varying → {c d : Constancy} → IsAtMost c d → IsAtMost (f c) (f d)
strict f h (inl q) = inl (ap f q)
strict f h (inr q) = inr (ap f q ∙ h)

pub strict_both : (f : Constancy → Constancy → Constancy) → ((c : Constancy) → f varying c ≡ varying) → ((c : Constancy) → f c varying ≡ varying)
    → {c d k m : Constancy} → IsAtMost c k → IsAtMost d m → IsAtMost (f c d) (f k m)
strict_both f h g {c} {d} {k} {m} (inr q) r = inr (ap (λ it. f it m) q ∙ h m)
strict_both f h g {c} {d} {k} {m} (inl q) (inl r) = inl (ap (λ it. f it m) q ∙ ap (f c) r)
strict_both f h g {c} {d} {k} {m} (inl q) (inr r) = inr (ap (f k) r ∙ g k)

number_varies : (m : DataModel) (s : Scalar) → constancy_as_number m s varying ≡ varying
number_varies m S.Bool = refl
number_varies m _ = refl

pub conversion_varies : (m : DataModel) (t : CType) → constancy_to m t varying ≡ varying
conversion_varies m (Num s) = number_varies m s
conversion_varies m (Pointer t) = refl
conversion_varies m _ = refl

turned_varies : (m : DataModel) (s : Scalar) → applied m O.Xor s (converted m s (number (pos 0 -ℤ pos 1))) (converted m s varying) ≡ varying
turned_varies m s = refl

-- a call of what a form is
abbrev pub call_of : List Typed → Known → Form → Judged
call_of xs known (a_value v) = judgement (bad_call ∷ []) nothing
call_of xs known (a_place place) = judgement (bad_call ∷ []) nothing
call_of xs known (a_designator w t) = judge_function known w t xs

-- of a member, where the constancy of its struct is known
abbrev pub behind : Placed → Constancy → Constancy
behind member (address object offset) = address object (offset + member.offset)
behind member _ = varying

-- ---- rules that aren't broken

pub left_empty : (xs ys : List Rule) → xs ++ ys ≡ [] → xs ≡ []
left_empty [] ys h = refl
left_empty (x ∷ xs) ys h = absurd cc

pub right_empty : (xs ys : List Rule) → xs ++ ys ≡ [] → ys ≡ []
right_empty [] ys h = h
right_empty (x ∷ xs) ys h = absurd cc

pub empty_both : (xs ys : List Rule) → xs ≡ [] → ys ≡ [] → xs ++ ys ≡ []
empty_both xs ys h k = ap (λ it. it ++ ys) h ∙ k

pub unless_more : (rule : Rule) (b c : Bool) → (b ≡ true → c ≡ true) → unless b rule ≡ [] → unless c rule ≡ []
unless_more rule true c h q = ap (λ it. unless it rule) (h refl)
unless_more rule false c h q = absurd cc

pub and_more : (a b c d : Bool) → (a ≡ true → c ≡ true) → (b ≡ true → d ≡ true) → a && b ≡ true → c && d ≡ true
and_more true true c d h k q = ap (λ it. it && d) (h refl) ∙ k refl
and_more true false c d h k q = absurd cc
and_more false b c d h k q = absurd cc

lvalue_more : (l r s : Bool) → (r ≡ false → s ≡ false) → l && not r ≡ true → l && not s ≡ true
lvalue_more true false s h q = ap not (h refl)
lvalue_more true true s h q = absurd cc
lvalue_more false r s h q = absurd cc

-- ---- operators on one operand

pub scalar_more : {new : ℕ → Bool} {x y : Typed} → AddsTest new x y → is_scalar (own_type x) ≡ true → is_scalar (own_type y) ≡ true
scalar_more {new} {x} {y} p h = by p.type
  where
    by : (own_type y ≡ own_type x) ⊎ (own_type y ≡ Num S.Int) → is_scalar (own_type y) ≡ true
    by (inl t) = ap is_scalar t ∙ h
    by (inr t) = ap is_scalar t

module _ {new : ℕ → Bool} {x y : Typed} where
  plus_adds : (known : Known) → AddsTyped new x y → AddsJudged new (judge_plus x known) (judge_plus y known)
  unfolding judge_plus
  plus_adds known p = rw (type_same (made p)) (record { faults = λ h. h; typed = valued_adds (cast_adds (Num (promoted known.model (scalar_in x))) (value_adds (made p))) (strict (converted known.model (promoted known.model (scalar_in x))) refl p.constancy) })

  minus_adds : (known : Known) → AddsTyped new x y → AddsJudged new (judge_minus x known) (judge_minus y known)
  unfolding judge_minus
  minus_adds known p = rw (type_same (made p)) (record {
    faults = λ h. h;
    typed = valued_adds (a.Minus (converted_adds (Num (promoted known.model (scalar_in x))) (value_adds (made p))))
        (strict (λ c. applied known.model O.Sub (promoted known.model (scalar_in x)) (number (pos 0)) (converted known.model (promoted known.model (scalar_in x)) c)) refl p.constancy);
  })

  complement_adds : (known : Known) → AddsTyped new x y → AddsJudged new (judge_complement x known) (judge_complement y known)
  unfolding judge_complement
  complement_adds known p = rw (type_same (made p)) (record {
    faults = λ h. h;
    typed = valued_adds (a.Complement (converted_adds (Num (promoted known.model (scalar_in x))) (value_adds (made p))))
        (strict (λ c. applied known.model O.Xor (promoted known.model (scalar_in x)) (converted known.model (promoted known.model (scalar_in x)) (number (pos 0 -ℤ pos 1))) (converted known.model (promoted known.model (scalar_in x)) c))
        (turned_varies known.model (promoted known.model (scalar_in x))) p.constancy);
  })

  address_of_adds : AddsTyped new x y → AddsJudged new (judge_address_of x) (judge_address_of y)
  unfolding judge_address_of
  address_of_adds p = rw (type_same (made p)) (rw (lvalue_same (made p)) (record {
    faults = unless_more bad_address (is_lvalue x && not x.is_register) (is_lvalue x && not y.is_register) (lvalue_more (is_lvalue x) x.is_register y.is_register p.register);
    typed = valued_adds (a.AddressOf (place_adds (made p))) p.constancy;
  }))

  pointed_adds : AddsTyped new x y → AddsMade new (placed (e.Pointed (target_in x) (value_in x)) (constant_address x.constancy)) (placed (e.Pointed (target_in x) (value_in y)) (constant_address y.constancy))
  pointed_adds p = record { form = places (a.Pointed (value_adds (made p))); register = λ h. h; constancy = strict constant_address refl p.constancy }

  dereference_adds : (known : Known) → AddsTyped new x y → AddsJudged new (judge_dereference x known) (judge_dereference y known)
  unfolding judge_dereference
  dereference_adds known p = rw (type_same (made p)) (by (points_to (is_complete known.structs) (own_type x)))
    where
      by : (b : Bool) → AddsJudged new (if b then judgement [] (placed (e.Pointed (target_in x) (value_in x)) (constant_address x.constancy)) else judgement (bad_address ∷ []) nothing)
          (if b then judgement [] (placed (e.Pointed (target_in x) (value_in y)) (constant_address y.constancy)) else judgement (bad_address ∷ []) nothing)
      by true = record { faults = λ h. h; typed = pointed_adds p }
      by false = record { faults = λ h. h; typed = made_itself nothing }

  -- `!x`, of whose operand the truth is used
  not_adds : AddsTest new x y → AddsJudged new (judge_not x) (judge_not y)
  unfolding judge_not
  not_adds p = record {
    faults = unless_more not_scalar (is_scalar (own_type x)) (is_scalar (own_type y)) (scalar_more p);
    typed = valued_adds (a.Not p.value) (strict negated refl p.constancy);
  }

  pub step_adds : (when : When) (op : Op) (known : Known) → AddsTyped new x y → AddsJudged new (judge_step when op x known) (judge_step when op y known)
  unfolding judge_step
  step_adds when op known p = rw (type_same (made p)) (rw (lvalue_same (made p)) (record { faults = λ h. h; typed = by (is_pointer (own_type x)) }))
    where
      by : (b : Bool) → AddsMade new (varies (if b then e.StepPointer (unqualified (own_type x)) when op (size_of known.model known.structs (target_in x)) (place_in x) else e.Step (unqualified (own_type x)) when op (promoted known.model (scalar_in x)) (place_in x)))
          (varies (if b then e.StepPointer (unqualified (own_type x)) when op (size_of known.model known.structs (target_in x)) (place_in y) else e.Step (unqualified (own_type x)) when op (promoted known.model (scalar_in x)) (place_in y)))
      by true = varies_adds (a.StepPointer (place_adds (made p)))
      by false = varies_adds (a.Step (place_adds (made p)))

pub unary_adds : {new : ℕ → Bool} (x y : Typed) (op : UnaryOp) (known : Known) → AddsAt new (position_of op) x y → AddsJudged new (judge_unary op x known) (judge_unary op y known)
unary_adds x y unary.AddressOf known p = address_of_adds p
unary_adds x y unary.Dereference known p = dereference_adds known p
unary_adds x y unary.Plus known p = plus_adds known p
unary_adds x y unary.Minus known p = minus_adds known p
unary_adds x y unary.Complement known p = complement_adds known p
unary_adds x y unary.Not known p = not_adds p

-- ---- members and elements

part_adds : {new : ℕ → Bool} {x y : Typed} (found : Option Placed) → AddsMade new x y → AddsJudged new (judge_part x found) (judge_part y found)
part_adds None m = record { faults = λ h. h; typed = made_itself nothing }
part_adds (Some member) m = rw (type_same m) (record { faults = λ h. h; typed = record { form = places (a.Part (place_adds m)); register = m.register; constancy = strict (behind member) refl m.constancy } })

module _ {new : ℕ → Bool} {x y : Typed} where
  pub member_adds : (name : List ℕ) (known : Known) → AddsTyped new x y → AddsJudged new (judge_member x name known) (judge_member y name known)
  unfolding judge_member
  member_adds name known p = rw (type_same (made p)) (part_adds (member_in known (own_type x) name) (made p))

  pub arrow_adds : (name : List ℕ) (known : Known) → AddsTyped new x y → AddsJudged new (judge_arrow x name known) (judge_arrow y name known)
  unfolding judge_arrow
  arrow_adds name known p = rw (type_same (made p)) (part_adds (option_and_then (λ t. member_in known t name) (target_of (own_type x))) (pointed_adds p))

-- one of two operands
pick : {new : ℕ → Bool} {x y v w : Typed} (b : Bool) → AddsTyped new x y → AddsTyped new v w → AddsTyped new (if b then x else v) (if b then y else w)
pick true p q = p
pick false p q = q

pub place_varies : (sizes : ℕ → ℕ) (size : ℕ) (c : Constancy) → moved_by sizes size c varying ≡ varying
place_varies sizes size varying = refl
place_varies sizes size faulty = refl
place_varies sizes size (number z) = refl
place_varies sizes size null_constant = refl
place_varies sizes size null_address = refl
place_varies sizes size (address object offset) = refl

module _ {new : ℕ → Bool} {x y v w : Typed} where
  -- the operand that is the pointer
  pub pointers : AddsTyped new x y → AddsTyped new v w → AddsTyped new (pointer_among x v) (if is_pointer (own_type x) then y else w)
  pointers p q = pick (is_pointer (own_type x)) p q

  pub others : AddsTyped new x y → AddsTyped new v w → AddsTyped new (other_among x v) (if is_pointer (own_type x) then w else y)
  others p q = pick (is_pointer (own_type x)) q p

  pub index_adds : (known : Known) → AddsTyped new x y → AddsTyped new v w → AddsJudged new (judge_index x v known) (judge_index y w known)
  unfolding judge_index
  index_adds known p q = rw (type_same (made p)) (rw (type_same (made q)) (rw (type_same (made (pointers p q))) (record {
    faults = λ h. h;
    typed = record {
      form = places (a.Element (value_adds (made p)) (value_adds (made q)));
      register = (pointers p q).register;
      constancy = strict_both (moved_by (object_size known) (element_size known x v)) (λ c. refl) (place_varies (object_size known) (element_size known x v)) (pointers p q).constancy (others p q).constancy;
    };
  })))

-- ---- values that are assigned

zero_null : (c : Constancy) → is_zero c ≡ true → is_null_constant c ≡ true
zero_null null_constant h = refl
zero_null varying h = h
zero_null faulty h = h
zero_null (number z) h = h
zero_null null_address h = h
zero_null (address object offset) h = h

last_more : (a q m : Bool) → a || (q && false) ≡ true → a || (q && m) ≡ true
last_more true q m h = refl
last_more false true m h = absurd cc
last_more false false m h = h

or_more : (a p b : Bool) (m : Bool) → (a || (p && false)) || b ≡ true → (a || (p && m)) || b ≡ true
or_more a p b false h = h
or_more true p b true h = refl
or_more false true b true h = refl
or_more false false b true h = h

module _ {new : ℕ → Bool} {x y : Typed} where
  pub fits_more : (t : CType) → AddsTyped new x y → fits t x ≡ true → fits t y ≡ true
  fits_more t p h = rw (type_same (made p)) (by (counts_as_null x) refl h)
    where
      by : (b : Bool) → counts_as_null x ≡ b → is_assignable t (own_type x) b ≡ true → is_assignable t (own_type x) (counts_as_null y) ≡ true
      by true n h = ap (is_assignable t (own_type x)) (p.null n).1 ∙ h
      by false n h = or_more (are_integers t (own_type x) || are_structs_alike t (own_type x) || are_pointers_assignable t (own_type x)) (is_pointer t) (is_truth_type t && is_pointer (own_type x)) (counts_as_null y) h

  cast_more : (t : CType) → AddsTyped new x y → can_be_cast t (own_type x) x.constancy ≡ true → can_be_cast t (own_type x) y.constancy ≡ true
  cast_more t p h = by (is_zero x.constancy) refl h
    where
      by : (b : Bool) → is_zero x.constancy ≡ b
          → is_void t || are_integers t (own_type x) || (is_pointer t && is_pointer (own_type x)) || (is_pointer t && is_integer (own_type x) && b) ≡ true
          → can_be_cast t (own_type x) y.constancy ≡ true
      by true z h = ap (can_be_cast t (own_type x)) (p.null (ap (λ b. b || (x.is_after && is_null_constant x.erased)) (zero_null x.constancy z))).0
          ∙ ap (λ b. is_void t || are_integers t (own_type x) || (is_pointer t && is_pointer (own_type x)) || (is_pointer t && is_integer (own_type x) && b)) z ∙ h
      by false z h = last_more (is_void t || are_integers t (own_type x) || (is_pointer t && is_pointer (own_type x))) (is_pointer t && is_integer (own_type x)) (is_zero y.constancy) h

  pub cast_judged : (t : CType) (known : Known) → AddsTyped new x y → AddsJudged new (judge_cast t x known) (judge_cast t y known)
  unfolding judge_cast
  cast_judged t known p = rw (type_same (made p)) (record {
    faults = unless_more bad_cast (can_be_cast t (own_type x) x.constancy) (can_be_cast t (own_type x) y.constancy) (cast_more t p);
    typed = valued_adds (cast_adds (unqualified t) (value_adds (made p))) (strict (constancy_to known.model (unqualified t)) (conversion_varies known.model (unqualified t)) p.constancy);
  })

-- ---- calls

module _ {new : ℕ → Bool} where
  pub argument_adds : {x y : Typed} (m : DataModel) → AddsMade new x y → Adds new (promoted_argument m x) (promoted_argument m y)
  argument_adds {x} {y} m p = rw (type_same p) (by (is_integer (own_type x)))
    where
      by : (b : Bool) → Adds new (if b then promoted_value m x else value_in x) (if b then converted_to (Num (promoted m (scalar_in x))) (value_in y) else value_in y)
      by true = converted_adds (Num (promoted m (scalar_in x))) (value_adds p)
      by false = value_adds p

  passed_adds : {xs ys : List Typed} (m : DataModel) (ts : CTypes) → AddsEach new xs ys → AddsAll new (passed m xs ts) (passed m ys ts)
  passed_adds m ts none_added = a.no_values
  passed_adds m no_types (one_added p ps) = a.a_value (argument_adds m (made p)) (passed_adds m no_types ps)
  passed_adds m (a_type t ts) (one_added p ps) = a.a_value (converted_adds t (value_adds (made p))) (passed_adds m ts ps)

  all_fit_more : {xs ys : List Typed} (ts : CTypes) → AddsEach new xs ys → all_fit xs ts ≡ true → all_fit ys ts ≡ true
  all_fit_more ts none_added h = refl
  all_fit_more no_types (one_added {x} {y} {xs} {ys} p ps) h =
      and_more (not (is_void (own_type x))) (all_fit xs no_types) (not (is_void (own_type y))) (all_fit ys no_types) (λ g. ap (λ t. not (is_void t)) (type_same (made p)) ∙ g) (all_fit_more no_types ps) h
  all_fit_more (a_type t ts) (one_added {x} {y} {xs} {ys} p ps) h =
      and_more (fits t x) (all_fit xs ts) (fits t y) (all_fit ys ts) (fits_more t p) (all_fit_more ts ps) h

  each_length : {xs ys : List Typed} → AddsEach new xs ys → length ys ≡ length xs
  each_length none_added = refl
  each_length (one_added p ps) = ap suc (each_length ps)

  function_adds : {xs ys : List Typed} (known : Known) (name : List ℕ) (t : CType) → AddsEach new xs ys → AddsJudged new (judge_function known name t xs) (judge_function known name t ys)
  unfolding judge_function
  function_adds {xs} {ys} known name (FunctionType result ts dots) ps = rw (each_length ps) (record {
    faults = more (broken_if floating_type (takes_or_gives has_floating result ts) ++ broken_if function_as_value (takes_or_gives has_pointer_to_function result ts))
        (unless (is_right_number (length xs) ts dots) bad_call) (unless (can_be_run known name result) no_body);
    typed = varies_adds (a.Call (passed_adds known.model ts ps));
  })
    where
      more : (u v w : List Rule) → u ++ unless (all_fit xs ts) bad_assignment ++ v ++ w ≡ [] → u ++ unless (all_fit ys ts) bad_assignment ++ v ++ w ≡ []
      more u v w h =
          let front = left_empty (u ++ unless (all_fit xs ts) bad_assignment ++ v) w h in
          let first = left_empty (u ++ unless (all_fit xs ts) bad_assignment) v front in
          empty_both (u ++ unless (all_fit ys ts) bad_assignment ++ v) w
          (empty_both (u ++ unless (all_fit ys ts) bad_assignment) v
          (empty_both u (unless (all_fit ys ts) bad_assignment) (left_empty u (unless (all_fit xs ts) bad_assignment) first)
          (unless_more bad_assignment (all_fit xs ts) (all_fit ys ts) (all_fit_more ts ps) (right_empty u (unless (all_fit xs ts) bad_assignment) first)))
          (right_empty (u ++ unless (all_fit xs ts) bad_assignment) v front))
          (right_empty (u ++ unless (all_fit xs ts) bad_assignment ++ v) w h)
  function_adds known name _ ps = record { faults = λ h. h; typed = made_itself nothing }

  call_adds_by : {xs ys : List Typed} {f g : Form} (known : Known) → AddsForm new f g → AddsEach new xs ys → AddsJudged new (call_of xs known f) (call_of ys known g)
  call_adds_by known (values d) ps = record { faults = λ h. h; typed = made_itself nothing }
  call_adds_by known (places d) ps = record { faults = λ h. h; typed = made_itself nothing }
  call_adds_by known (designators {name} {t}) ps = function_adds known name t ps

  pub call_adds : {f g : Typed} {xs ys : List Typed} (known : Known) → AddsTyped new f g → AddsEach new xs ys → AddsJudged new (judge_call f xs known) (judge_call g ys known)
  unfolding judge_call
  call_adds known p ps = call_adds_by known p.form ps
