-- What the values of expressions are made of: a call's and a conversion aside, labels may stand in front of each.
use Rattle.std.proofs.Common.{◌≡◌, refl, sym, ap, ◌∙◌, subst, ℕ, List, [], ◌∷◌, Bool, true, false, ◌&&◌, if◌then◌else◌, Option, Some, None}
use Rattle.std.proofs.lemmas.Bool.{false≢true}
use Rattle.std.specs.Prelude.{pos}
use Rattle.lt_model.specs.Conversions.{promoted}
use Rattle.lt_model.specs.declared.scalar.Scalar.TheVariants as S
use Rattle.lt_model.specs.declared.operator.Op.{Op}
use Rattle.lt_model.specs.declared.operator.Op.TheVariants as O
use Rattle.lt_tree.specs.declared.expression.UnaryOp.TheVariants as unary
use Rattle.lt_tree.specs.Tree as c
use Rattle.lt_tree.specs.Typing.Types.{CType, is_array, Void, Num, Pointer, Array, Struct, Function, Floating, Qualified, is_struct, is_pointer, unqualified}
use Rattle.lt_tree.specs.Typing.Extents.{is_complete, size_of, Placed}
use Rattle.lt_tree.specs.Typing.Constants.{TypedConstant}
use Rattle.lt_tree.specs.Typing.Rules.{Rule, unless, function_as_value, bad_address, bad_call}
use Rattle.lt_tree.specs.Typing.TypedTree as e
use Rattle.lt_tree.specs.Typing.TypedTree.{Value, Place, When, before, after, type_at}
use Rattle.lt_tree.specs.Typing.Entities.{Known, Entity, an_object, a_function, a_typedef, an_enumerator, type_of_object}
use Rattle.lt_tree.specs.Typing.Steps.{Outcome, Goes, Breaks, goes_on}
use Rattle.lt_tree.specs.Typing.Operands.{points_to, are_integers}
use Rattle.lt_tree.specs.Typing.Expressions.{Form, a_value, a_place, a_designator, Typed, Use, as_value, as_truth, as_place, as_callee, valued, varies, placed, constant, own_type, value_in, place_in, scalar_in, converted_to, value_at, read, as_it_is_read, is_read, used, Judged, judgement, nothing, finish}
use Rattle.lt_tree.specs.Typing.Operations.{judge_name, judge_constant, judge_dereference, judge_step, judge_part, judge_function, is_callee, object_named, part_of, target_in, constant_address, element_size}
use Rattle.lt_tree.specs.Typing.BinaryOperations.{on_integers, on_pointers, judge_binary, judge_assignment, judge_assign, judge_update, distance, moved, compared, operation_type, right_type}
use Rattle.lt_mark_laws.specs.Added.{can_be_marked}
use Rattle.lt_objective_marks.proofs.Ends.{ended}

-- ---- walks that go on

-- what is found, if anything is, has a property
pub data EachIs (P : Typed → Type 0) : Outcome Typed → Type 0 where
  found : {x : Typed} {k : Known} → P x → EachIs P (Goes x k)
  broke : {rule : Rule} {node : ℕ} → EachIs P (Breaks rule node)

pub bound : {A : Type 0} {P : Typed → Type 0} (o : Outcome A) {rest : A → Known → Outcome Typed} → ((a : A) (k : Known) → EachIs P (rest a k)) → EachIs P (goes_on o rest)
bound (Goes a k) f = f a k
bound (Breaks rule node) f = broke

pub ends : {P : Typed → Type 0} (node : ℕ) (role : Use) (it : Judged) (k : Known) → (it.faults ≡ [] → P (used role it.typed)) → EachIs P (finish node role it k)
ends {P} node role it k f = by (finish node role it k) refl
  where
    by : (o : Outcome Typed) → finish node role it k ≡ o → EachIs P o
    by (Goes x behind) is = let there = ended k node role it x behind is in found (subst P (sym there.found) (f there.rules))
    by (Breaks rule at) is = broke

-- the same, behind what a node adds
pub ends_so : {P : Typed → Type 0} {o : Outcome Typed} (f : Known → Known) → EachIs P o → EachIs P (goes_on o (λ x k. Goes x (f k)))
ends_so f (found h) = found h
ends_so f broke = broke

pub one_found : {P : Typed → Type 0} {o : Outcome Typed} (x : Typed) (k : Known) → o ≡ Goes x k → EachIs P o → P x
one_found {P} x k is h = by (subst (EachIs P) is h)
  where
    by : EachIs P (Goes x k) → P x
    by (found h) = h

-- ---- values

-- whether the value is neither a call's nor a conversion
abbrev pub is_made_plainly : c.Expression → Bool
is_made_plainly (c.Call callee arguments) = false
is_made_plainly (c.Cast s d operand) = false
is_made_plainly (c.Unary unary.Plus operand) = false
is_made_plainly it = true

-- a value, in front of which labels may stand if the expression is made plainly
abbrev pub IsValue : Bool → Typed → Type 0
IsValue plainly x = (v : Value) × (x.form ≡ a_value v) × (plainly ≡ true → can_be_marked v ≡ true)

-- what is read, or called
abbrev pub is_valued : Use → Bool
is_valued as_value = true
is_valued as_truth = true
is_valued as_place = false
is_valued as_callee = false

pub read_value : (x : Typed) (v : Value) → x.form ≡ a_value v → as_it_is_read x ≡ x
read_value x v is = rw is refl

-- what is a value already
pub value_of : (plainly : Bool) (role : Use) (x : Typed) (v : Value) → x.form ≡ a_value v → (plainly ≡ true → can_be_marked v ≡ true) → IsValue plainly (used role x)
value_of plainly as_place x v is may = (v, is, may)
value_of plainly as_value x v is may = (v, ap (λ (y : Typed). y.form) (read_value x v is) ∙ is, may)
value_of plainly as_truth x v is may = (v, ap (λ (y : Typed). y.form) (read_value x v is) ∙ is, may)
value_of plainly as_callee x v is may = (v, ap (λ (y : Typed). y.form) (read_value x v is) ∙ is, may)

value_is_plain : (t : CType) (place : Place) → can_be_marked (value_at t place) ≡ true
value_is_plain (Array t n) place = refl
value_is_plain Void place = refl
value_is_plain (Num s) place = refl
value_is_plain (Pointer t) place = refl
value_is_plain (Struct n) place = refl
value_is_plain (Function t ts dots) place = refl
value_is_plain Floating place = refl
value_is_plain (Qualified q t) place = by (is_struct t)
  where
    by : (b : Bool) → can_be_marked (if b then e.Whole (unqualified (Qualified q t)) place else e.Load (unqualified (Qualified q t)) place) ≡ true
    by true = refl
    by false = refl

-- what is a place
read_place : (plainly : Bool) (x : Typed) (place : Place) → x.form ≡ a_place place → IsValue plainly (as_it_is_read x)
read_place plainly x place is = subst (IsValue plainly) (sym as_read) (by (is_array (type_at place)))
  where
    as_read : as_it_is_read x ≡ read place x
    as_read = rw is refl

    by : (b : Bool) → IsValue plainly (if b then record x { form = a_value (value_at (type_at place) place) } else varies (value_at (type_at place) place))
    by true = (value_at (type_at place) place, refl, λ p. value_is_plain (type_at place) place)
    by false = (value_at (type_at place) place, refl, λ p. value_is_plain (type_at place) place)

pub place_of : (plainly : Bool) (role : Use) (x : Typed) (place : Place) → is_read role ≡ true → x.form ≡ a_place place → IsValue plainly (used role x)
place_of plainly as_value x place valued is = read_place plainly x place is
place_of plainly as_truth x place valued is = read_place plainly x place is
place_of plainly as_place x place valued is = absurd cc
place_of plainly as_callee x place valued is = read_place plainly x place is

-- ---- expressions

no_callee : (role : Use) → (role ≡ as_callee → ⊥) → unless (is_callee role) function_as_value ≡ [] → ⊥
no_callee as_value other is = cc
no_callee as_truth other is = cc
no_callee as_place other is = cc
no_callee as_callee other is = other refl

module _ (plainly : Bool) (role : Use) (valued : is_read role ≡ true) where
  pub of_name : (role ≡ as_callee → ⊥) → (name : List ℕ) (found : Option Entity) (k : Known) → (judge_name role name found k).faults ≡ [] → IsValue plainly (used role (judge_name role name found k).typed)
  unfolding judge_name
  of_name other name None k none = absurd cc
  of_name other name (Some (a_typedef t)) k none = absurd cc
  of_name other name (Some (an_object n is_register)) k none = place_of plainly role (object_named k n is_register) (e.Object (type_of_object k n) n) valued refl
  of_name other name (Some a_function) k none = absurd (no_callee role other none)
  of_name other name (Some (an_enumerator z)) k none = value_of plainly role (constant S.Int z) (e.Constant (Num S.Int) z) refl (λ p. refl)

  pub of_constant : (found : Option TypedConstant) → IsValue plainly (used role (judge_constant found).typed)
  unfolding judge_constant
  of_constant None = value_of plainly role nothing (e.Constant (Num S.Int) (pos 0)) refl (λ p. refl)
  of_constant (Some it) = value_of plainly role (constant it.type it.value) (e.Constant (Num it.type) it.value) refl (λ p. refl)

  pub of_part : (x : Typed) (found : Option Placed) → IsValue plainly (used role (judge_part x found).typed)
  of_part x None = value_of plainly role nothing (e.Constant (Num S.Int) (pos 0)) refl (λ p. refl)
  of_part x (Some member) = place_of plainly role (part_of x member) _ valued refl

  pub of_dereference : (x : Typed) (k : Known) → IsValue plainly (used role (judge_dereference x k).typed)
  unfolding judge_dereference
  of_dereference x k = by (points_to (is_complete k.structs) (own_type x))
    where
      by : (b : Bool) → IsValue plainly (used role (if b then judgement [] (placed (e.Pointed (target_in x) (value_in x)) (constant_address x.constancy)) else judgement (bad_address ∷ []) nothing).typed)
      by true = place_of plainly role _ (e.Pointed (target_in x) (value_in x)) valued refl
      by false = value_of plainly role nothing (e.Constant (Num S.Int) (pos 0)) refl (λ p. refl)

  pub of_stepped : (gives : When) (op : Op) (x : Typed) (k : Known) → IsValue plainly (used role (judge_step gives op x k).typed)
  unfolding judge_step
  of_stepped gives op x k = by (is_pointer (own_type x))
    where
      by : (b : Bool) → IsValue plainly (used role (varies (if b then e.StepPointer (unqualified (own_type x)) gives op (size_of k.model k.structs (target_in x)) (place_in x)
          else e.Step (unqualified (own_type x)) gives op (promoted k.model (scalar_in x)) (place_in x))))
      by true = value_of plainly role (varies _) _ refl (λ p. refl)
      by false = value_of plainly role (varies _) _ refl (λ p. refl)

  of_pointers : (op : Op) (x y : Typed) (k : Known) → IsValue plainly (used role (on_pointers k op x y))
  of_pointers O.Sub x y k = by (is_pointer (own_type x) && is_pointer (own_type y))
    where
      by : (b : Bool) → IsValue plainly (used role (if b then distance k x y else moved k O.Sub x y))
      by true = value_of plainly role (distance k x y) _ refl (λ p. refl)
      by false = value_of plainly role (moved k O.Sub x y) _ refl (λ p. refl)
  of_pointers O.Add x y k = value_of plainly role (moved k O.Add x y) _ refl (λ p. refl)
  of_pointers _ x y k = value_of plainly role (compared _ x y) _ refl (λ p. refl)

  pub of_binary : (op : Op) (x y : Typed) (k : Known) → IsValue plainly (used role (judge_binary op x y k).typed)
  unfolding judge_binary
  of_binary op x y k = by (are_integers (own_type x) (own_type y))
    where
      by : (b : Bool) → IsValue plainly (used role (if b then on_integers k op x y else on_pointers k op x y))
      by true = value_of plainly role (on_integers k op x y) _ refl (λ p. refl)
      by false = of_pointers op x y k

  pub of_assignment : (op : Option Op) (x y : Typed) (k : Known) → IsValue plainly (used role (judge_assignment op x y k).typed)
  unfolding judge_assign judge_update
  of_assignment None x y k = value_of plainly role (judge_assign x y k).typed _ refl (λ p. refl)
  of_assignment (Some op) x y k = by (is_pointer (own_type x))
    where
      by : (b : Bool) → IsValue plainly (used role (varies (if b then e.UpdatePointer (unqualified (own_type x)) op (element_size k x y) (place_in x) (value_in y)
          else e.Update (unqualified (own_type x)) op (operation_type k op x y) (place_in x) (converted_to (Num (right_type k op x y)) (value_in y)))))
      by true = value_of plainly role (varies _) _ refl (λ p. refl)
      by false = value_of plainly role (varies _) _ refl (λ p. refl)

  of_function : (name : List ℕ) (t : CType) (xs : List Typed) (k : Known) → plainly ≡ false → IsValue plainly (used role (judge_function k name t xs).typed)
  unfolding judge_function
  of_function name (Function result ts dots) xs k call = value_of plainly role (varies _) _ refl (λ p. absurd (false≢true (sym call ∙ p)))
  of_function name _ xs k call = value_of plainly role nothing (e.Constant (Num S.Int) (pos 0)) refl (λ p. refl)

  pub of_call : (f : Form) (xs : List Typed) (k : Known) → plainly ≡ false
      → IsValue plainly (used role (elim (f) as (λ _. Judged) [ a_value v ↦ judgement (bad_call ∷ []) nothing | a_place place ↦ judgement (bad_call ∷ []) nothing | a_designator name type ↦ judge_function k name type xs ]).typed)
  of_call (a_value v) xs k call = value_of plainly role nothing (e.Constant (Num S.Int) (pos 0)) refl (λ p. refl)
  of_call (a_place place) xs k call = value_of plainly role nothing (e.Constant (Num S.Int) (pos 0)) refl (λ p. refl)
  of_call (a_designator name type) xs k call = of_function name type xs k call
