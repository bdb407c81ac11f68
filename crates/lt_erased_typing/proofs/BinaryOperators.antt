-- Operators on two and three operands make the same of them without their marks: C11 6.5.5 to 6.5.17.
use Rattle.std.proofs.Common.{◌≡◌, List, [], ◌∷◌, Bool, true, false, refl, sym, ap, ◌∙◌, subst, inl, inr}
use Rattle.std.proofs.lemmas.Bool.{false≢true, and_parts, and_from}
use Rattle.std.specs.Prelude.{◌⊎◌, ◌||◌, ◌&&◌, if◌then◌else◌}
use Rattle.lt_model.specs.declared.scalar.Scalar.{Scalar}
use Rattle.lt_model.specs.declared.scalar.Scalar.TheVariants as S
use Rattle.lt_model.specs.declared.operator.Op.{Op}
use Rattle.lt_model.specs.declared.operator.Op.TheVariants as O
use Rattle.lt_model.specs.Conversions.{usual_of}
use Rattle.lt_tree.specs.declared.expression.LogicalOp.{LogicalOp}
use Rattle.lt_tree.specs.Typing.Types.{CType, Void, Num, unqualified, is_integer, is_pointer, is_scalar}
use Rattle.lt_tree.specs.Typing.Extents.{Structs}
use Rattle.lt_tree.specs.Typing.Constants.{Constancy, is_null_constant, converted, operated, chosen, moved_by}
use Rattle.lt_tree.specs.Typing.Rules.{unless, bad_sum, bad_comparison, not_scalar, bad_choice}
use Rattle.lt_tree.specs.Typing.TypedTree as e
use Rattle.lt_tree.specs.Typing.Entities.{Known, Object}
use Rattle.lt_tree.specs.Typing.Operands.{are_integers, point_alike, can_be_added, can_be_subtracted, can_be_compared, can_be_chosen_from, is_relation, is_equality}
use Rattle.lt_tree.specs.Typing.Expressions.{Typed, valued, own_type, value_in, converted_to, constancy_to, scalar_in}
use Rattle.lt_tree.specs.Typing.Operations.{pointer_among, other_among, element_size, object_size, target_in}
use Rattle.lt_tree.specs.Typing.BinaryOperations.{judge_binary, judge_logical, judge_conditional, judge_comma, operand_faults, on_integers, on_pointers, moved, distance, operation_type, right_type, result_type, towards, settles, chosen_type, common_pointer, last_of}
use Rattle.lt_erased_typing.specs.Erasable.{ShowsNull}
use Rattle.lt_erased_typing.proofs.Scopes.{Own}
use Rattle.lt_erased_typing.proofs.Going.{IsBeside, beside}
use Rattle.lt_erased_typing.proofs.Constants.{IsOf, operated_sees, applied_is, connected_sees, connected_is, chosen_sees, conversion_is, moved_seen, null_more, null_same}
use Rattle.lt_erased_typing.proofs.Operands.{BareValue, a_bare_value, BareTruth, BareJudged, value_type_same, kin_pointer, bare_varies, bare_valued}
use Rattle.lt_erased_typing.proofs.Operators.{pointers}
use Rattle.lt_erased_typing.proofs.Ends.{unless_true, true_unless, left_empty, right_empty, empty_both}
use Rattle.lt_erased_typing.proofs.Conditions.{pointer_no_integer, added, subtracted, compared_more, chosen_more, null_beside, null_behind}

result_no_pointer : (b : Bool) (s : Scalar) → is_pointer (if b then Num S.Int else Num s) ≡ false
result_no_pointer true s = refl
result_no_pointer false s = refl

-- the type of the operand that is the pointer is no integer's
among_no_integer : (t u : CType) → (is_pointer t ≡ true) ⊎ (is_pointer u ≡ true) → is_integer (if is_pointer t then t else u) ≡ false
among_no_integer t u h = by (is_pointer t) refl h
  where
    by : (b : Bool) → is_pointer t ≡ b → (is_pointer t ≡ true) ⊎ (is_pointer u ≡ true) → is_integer (if b then t else u) ≡ false
    by true e g = pointer_no_integer t e
    by false e (inl g) = absurd (false≢true (sym e ∙ g))
    by false e (inr g) = pointer_no_integer u g

type_among : (x v : Typed) (b : Bool) → own_type (if b then x else v) ≡ (if b then own_type x else own_type v)
type_among x v true = refl
type_among x v false = refl

-- with other objects
abbrev with_objects : List Object → Known → Known
with_objects objects known = record known { objects = objects }

module _ {x y v w : Typed} (p : BareValue x y) (q : BareValue v w) where
  operands_more : (structs : Structs) (op : Op) → operand_faults structs op x v ≡ [] → operand_faults structs op y w ≡ []
  operands_more structs O.Eq = rw (value_type_same p) (rw (value_type_same q) (λ h. true_unless (can_be_compared (own_type x) y.constancy (own_type v) w.constancy) bad_comparison
      (compared_more (own_type x) (own_type v) x.constancy v.constancy y.constancy w.constancy (null_more p.constancy.sees) (null_more q.constancy.sees)
      (unless_true (can_be_compared (own_type x) x.constancy (own_type v) v.constancy) bad_comparison h))))
  operands_more structs O.Ne = rw (value_type_same p) (rw (value_type_same q) (λ h. true_unless (can_be_compared (own_type x) y.constancy (own_type v) w.constancy) bad_comparison
      (compared_more (own_type x) (own_type v) x.constancy v.constancy y.constancy w.constancy (null_more p.constancy.sees) (null_more q.constancy.sees)
      (unless_true (can_be_compared (own_type x) x.constancy (own_type v) v.constancy) bad_comparison h))))
  operands_more structs O.Add = rw (value_type_same p) (rw (value_type_same q) (λ h. h))
  operands_more structs O.Sub = rw (value_type_same p) (rw (value_type_same q) (λ h. h))
  operands_more structs O.Lt = rw (value_type_same p) (rw (value_type_same q) (λ h. h))
  operands_more structs O.Le = rw (value_type_same p) (rw (value_type_same q) (λ h. h))
  operands_more structs O.Gt = rw (value_type_same p) (rw (value_type_same q) (λ h. h))
  operands_more structs O.Ge = rw (value_type_same p) (rw (value_type_same q) (λ h. h))
  operands_more structs _ = rw (value_type_same p) (rw (value_type_same q) (λ h. h))

  integers_by : (known : Known) (op : Op) (s r : Scalar)
      → BareValue (valued (e.Arithmetic (result_type op s) op s (converted_to (Num s) (value_in x)) (converted_to (Num r) (value_in v))) (operated known.model op s r x.constancy v.constancy) (operated known.model op s r x.erased v.erased))
      (valued (e.Arithmetic (result_type op s) op s (converted_to (Num s) (value_in y)) (converted_to (Num r) (value_in w))) (operated known.model op s r y.constancy w.constancy) (operated known.model op s r y.erased w.erased))
  integers_by known op s r = bare_valued refl (record { sees = operated_sees known.model op s r p.constancy.sees q.constancy.sees; marked = is x.constancy v.constancy; erasure = is x.erased v.erased; bare = is y.constancy w.constancy })
    where
      is : (c d : Constancy) → IsOf (result_type op s) (operated known.model op s r c d)
      is c d = applied_is known.model s (result_type op s) op (converted known.model s c) (converted known.model r d) (result_no_pointer (is_relation op || is_equality op) s)

  integers_bare : (known : Known) (ys : List Object) (op : Op) → BareValue (on_integers known op x v) (on_integers (with_objects ys known) op y w)
  integers_bare known ys op = rw (value_type_same p) (rw (value_type_same q) (integers_by known op (operation_type known op x v) (right_type known op x v)))

  moved_bare : (known : Known) (ys : List Object) (op : Op) → (is_pointer (own_type x) ≡ true) ⊎ (is_pointer (own_type v) ≡ true) → BareValue (moved known op x v) (moved (with_objects ys known) op y w)
  moved_bare known ys op h =
      let at = moved_seen (object_size known) (element_size known x v) (pointer_among x v).constancy (towards op (other_among x v).constancy) in
      rw (value_type_same p) (rw (value_type_same (pointers p q)) (bare_valued refl (kin_pointer (own_type (pointer_among x v))
      (moved_by (object_size known) (element_size known x v) (pointer_among x v).constancy (towards op (other_among x v).constancy))
      (moved_by (object_size known) (element_size known x v) (pointer_among x v).constancy (towards op (other_among x v).constancy))
      (moved_by (object_size (with_objects ys known)) (element_size known x v) (if is_pointer (own_type x) then y else w).constancy (towards op (if is_pointer (own_type x) then w else y).constancy))
      (ap is_integer (type_among x v (is_pointer (own_type x))) ∙ among_no_integer (own_type x) (own_type v) h)
      at at (moved_seen (object_size (with_objects ys known)) (element_size known x v) (if is_pointer (own_type x) then y else w).constancy (towards op (if is_pointer (own_type x) then w else y).constancy)))))

  difference_bare : (known : Known) (ys : List Object) (b : Bool) → is_pointer (own_type x) ≡ true → BareValue (if b then distance known x v else moved known O.Sub x v) (if b then distance (with_objects ys known) y w else moved (with_objects ys known) O.Sub y w)
  difference_bare known ys true h = bare_varies refl
  difference_bare known ys false h = moved_bare known ys O.Sub (inl h)

  subtracted_bare : (known : Known) (ys : List Object) → is_pointer (own_type x) ≡ true → BareValue (on_pointers known O.Sub x v) (on_pointers (with_objects ys known) O.Sub y w)
  subtracted_bare known ys h = subst (λ b. BareValue (on_pointers known O.Sub x v) (if b then distance (with_objects ys known) y w else moved (with_objects ys known) O.Sub y w))
      (sym (ap (λ t. is_pointer t && is_pointer (own_type w)) (value_type_same p) ∙ ap (λ t. is_pointer (own_type x) && is_pointer t) (value_type_same q)))
      (difference_bare known ys (is_pointer (own_type x) && is_pointer (own_type v)) h)

  pointers_bare : (known : Known) (ys : List Object) (op : Op) → are_integers (own_type x) (own_type v) ≡ false → operand_faults known.structs op x v ≡ [] → BareValue (on_pointers known op x v) (on_pointers (with_objects ys known) op y w)
  pointers_bare known ys O.Sub i h = subtracted_bare known ys (subtracted known.structs (own_type x) (own_type v) i (unless_true (can_be_subtracted known.structs (own_type x) (own_type v)) bad_sum h))
  pointers_bare known ys O.Add i h = moved_bare known ys O.Add (added known.structs (own_type x) (own_type v) i (unless_true (can_be_added known.structs (own_type x) (own_type v)) bad_sum h))
  pointers_bare known ys _ i h = bare_varies refl

  either_bare : (known : Known) (ys : List Object) (op : Op) (b : Bool) → are_integers (own_type x) (own_type v) ≡ b → operand_faults known.structs op x v ≡ []
      → BareValue (if b then on_integers known op x v else on_pointers known op x v) (if b then on_integers (with_objects ys known) op y w else on_pointers (with_objects ys known) op y w)
  either_bare known ys op true i h = integers_bare known ys op
  either_bare known ys op false i h = pointers_bare known ys op i h

  binary_by : (known : Known) (ys : List Object) (op : Op) → BareJudged (judge_binary op x v known) (judge_binary op y w (with_objects ys known))
  unfolding judge_binary
  binary_by known ys op = λ h. (
    operands_more known.structs op h,
    a_bare_value (subst (λ b. BareValue (if are_integers (own_type x) (own_type v) then on_integers known op x v else on_pointers known op x v) (if b then on_integers (with_objects ys known) op y w else on_pointers (with_objects ys known) op y w))
        (sym (ap (λ t. are_integers t (own_type w)) (value_type_same p) ∙ ap (are_integers (own_type x)) (value_type_same q)))
        (either_bare known ys op (are_integers (own_type x) (own_type v)) refl h)),
  )

-- what is known of structs is the same
binary_known : {texts : Bool} {known : Known} {own : Own} {k j : Known} (op : Op) (x y : Typed) → IsBeside texts known own k j
    → (judge_binary op x y k ≡ judge_binary op x y (with_objects k.objects known)) × (judge_binary op x y j ≡ judge_binary op x y (with_objects j.objects known))
unfolding judge_binary
binary_known op x y (beside more other) = (refl, refl)

pub binary_bare : {texts : Bool} {known : Known} {own : Own} {x y v w : Typed} {k j : Known} (op : Op) → IsBeside texts known own k j → BareValue x y → BareValue v w → BareJudged (judge_binary op x v k) (judge_binary op y w j)
binary_bare {known = known} {x = x} {y = y} {v = v} {w = w} {k = k} {j = j} op b p q =
    subst (λ it. BareJudged it (judge_binary op y w j)) (sym (binary_known op x v b).0)
    (subst (BareJudged (judge_binary op x v (with_objects k.objects known))) (sym (binary_known op y w b).1) (binary_by p q (with_objects k.objects known) j.objects op))

-- ---- `&&`, `||` and `?:`

pub logical_bare : {x y v w : Typed} (op : LogicalOp) → BareTruth x y → BareTruth v w → BareJudged (judge_logical op x v) (judge_logical op y w)
unfolding judge_logical
logical_bare {x} {y} {v} {w} op p q = λ h.
    let both = unless_true (is_scalar (own_type x) && is_scalar (own_type v)) not_scalar h in (
      true_unless (is_scalar (own_type y) && is_scalar (own_type w)) not_scalar
          (and_from (is_scalar (own_type y)) (is_scalar (own_type w)) (p.scalar (and_parts (is_scalar (own_type x)) (is_scalar (own_type v)) both).0) (q.scalar (and_parts (is_scalar (own_type x)) (is_scalar (own_type v)) both).1)),
      a_bare_value (bare_valued refl (record {
        sees = connected_sees (settles op) p.constancy q.constancy;
        marked = connected_is (settles op) (Num S.Int) x.constancy v.constancy refl;
        erasure = connected_is (settles op) (Num S.Int) x.erased v.erased refl;
        bare = connected_is (settles op) (Num S.Int) y.constancy w.constancy refl;
      })),
    )

module _ {x y v w : Typed} (p : BareValue x y) (q : BareValue v w) (shows : ShowsNull x) (other : ShowsNull v) where
  -- what of the operands is seen as a null pointer constant
  first_null : is_pointer (own_type x) || is_pointer (own_type v) ≡ true → can_be_chosen_from (own_type x) x.constancy (own_type v) v.constancy ≡ true → is_null_constant y.constancy ≡ is_null_constant x.constancy
  first_null h g = by (is_pointer (own_type x)) refl h
    where
      by : (b : Bool) → is_pointer (own_type x) ≡ b → b || is_pointer (own_type v) ≡ true → is_null_constant y.constancy ≡ is_null_constant x.constancy
      by true e k = null_same p.constancy.sees (p.constancy.erasure.pointer e) shows
      by false e k =
          let n = null_beside (own_type x) (own_type v) x.constancy v.constancy e k g in
          null_more p.constancy.sees n ∙ sym n

  second_null : is_pointer (own_type x) || is_pointer (own_type v) ≡ true → can_be_chosen_from (own_type x) x.constancy (own_type v) v.constancy ≡ true → is_null_constant w.constancy ≡ is_null_constant v.constancy
  second_null h g = by (is_pointer (own_type v)) refl (is_pointer (own_type x)) refl h
    where
      by : (b : Bool) → is_pointer (own_type v) ≡ b → (a : Bool) → is_pointer (own_type x) ≡ a → a || b ≡ true → is_null_constant w.constancy ≡ is_null_constant v.constancy
      by true e a f k = null_same q.constancy.sees (q.constancy.erasure.pointer e) other
      by false e true f k =
          let n = null_behind (own_type x) (own_type v) x.constancy v.constancy f e g in
          null_more q.constancy.sees n ∙ sym n
      by false e false f k = absurd (false≢true k)

  choice_same : (known : Known) → can_be_chosen_from (own_type x) x.constancy (own_type v) v.constancy ≡ true → chosen_type known y w ≡ chosen_type known x v
  choice_same known g = rw (value_type_same p) (rw (value_type_same q)
      (ap (λ t. if are_integers (own_type x) (own_type v) then Num (usual_of known.model (scalar_in x) (scalar_in v)) else t) (by (is_pointer (own_type x) || is_pointer (own_type v)) refl)))
    where
      pointer_by : Bool → Bool → CType
      pointer_by a b =
          if point_alike (own_type x) (own_type v) then common_pointer (unqualified (target_in x)) (target_in x) (target_in v)
          else (if a && is_pointer (own_type v) then own_type v else (if b && is_pointer (own_type x) then own_type x else common_pointer Void (target_in x) (target_in v)))

      by : (b : Bool) → is_pointer (own_type x) || is_pointer (own_type v) ≡ b
          → (if b then pointer_by (is_null_constant y.constancy) (is_null_constant w.constancy) else own_type x) ≡ (if b then pointer_by (is_null_constant x.constancy) (is_null_constant v.constancy) else own_type x)
      by true h = ap (λ a. pointer_by a (is_null_constant w.constancy)) (first_null h g) ∙ ap (pointer_by (is_null_constant x.constancy)) (second_null h g)
      by false h = refl

  module _ {o t : Typed} (truth : BareTruth o t) where
    conditional_typed : (known : Known) (u : CType)
        → BareValue (valued (e.Conditional u (value_in o) (converted_to u (value_in x)) (converted_to u (value_in v))) (constancy_to known.model u (chosen o.constancy x.constancy v.constancy)) (constancy_to known.model u (chosen o.erased x.erased v.erased)))
        (valued (e.Conditional u (value_in t) (converted_to u (value_in y)) (converted_to u (value_in w))) (constancy_to known.model u (chosen t.constancy y.constancy w.constancy)) (constancy_to known.model u (chosen t.erased y.erased w.erased)))
    conditional_typed known u = bare_valued refl (record {
      sees = chosen_sees known.model u truth.constancy p.constancy.sees q.constancy.sees;
      marked = conversion_is known.model u (chosen o.constancy x.constancy v.constancy);
      erasure = conversion_is known.model u (chosen o.erased x.erased v.erased);
      bare = conversion_is known.model u (chosen t.constancy y.constancy w.constancy);
    })

    conditional_by : (known : Known) → BareJudged (judge_conditional o x v known) (judge_conditional t y w known)
    unfolding judge_conditional
    conditional_by known = λ h.
        let scalar = unless_true (is_scalar (own_type o)) not_scalar (left_empty (unless (is_scalar (own_type o)) not_scalar) (unless (can_be_chosen_from (own_type x) x.constancy (own_type v) v.constancy) bad_choice) h) in
        let can = unless_true (can_be_chosen_from (own_type x) x.constancy (own_type v) v.constancy) bad_choice
        (right_empty (unless (is_scalar (own_type o)) not_scalar) (unless (can_be_chosen_from (own_type x) x.constancy (own_type v) v.constancy) bad_choice) h) in (
          empty_both (unless (is_scalar (own_type t)) not_scalar) (unless (can_be_chosen_from (own_type y) y.constancy (own_type w) w.constancy) bad_choice)
              (true_unless (is_scalar (own_type t)) not_scalar (truth.scalar scalar))
              (true_unless (can_be_chosen_from (own_type y) y.constancy (own_type w) w.constancy) bad_choice
              (ap (λ it. can_be_chosen_from it y.constancy (own_type w) w.constancy) (value_type_same p) ∙ ap (λ it. can_be_chosen_from (own_type x) y.constancy it w.constancy) (value_type_same q)
              ∙ chosen_more (own_type x) (own_type v) x.constancy v.constancy y.constancy w.constancy (null_more p.constancy.sees) (null_more q.constancy.sees) can)),
          a_bare_value (subst (λ u. BareValue (judge_conditional o x v known).typed (valued (e.Conditional u (value_in t) (converted_to u (value_in y)) (converted_to u (value_in w))) (constancy_to known.model u (chosen t.constancy y.constancy w.constancy)) (constancy_to known.model u (chosen t.erased y.erased w.erased))))
              (sym (choice_same known can)) (conditional_typed known (chosen_type known x v))),
        )

conditional_known : {texts : Bool} {known : Known} {own : Own} {k j : Known} (o x y : Typed) → IsBeside texts known own k j → (judge_conditional o x y k ≡ judge_conditional o x y known) × (judge_conditional o x y j ≡ judge_conditional o x y known)
unfolding judge_conditional
conditional_known o x y (beside more other) = (refl, refl)

pub conditional_bare : {texts : Bool} {known : Known} {own : Own} {o t x y v w : Typed} {k j : Known} → IsBeside texts known own k j → BareTruth o t → BareValue x y → ShowsNull x → BareValue v w → ShowsNull v
    → BareJudged (judge_conditional o x v k) (judge_conditional t y w j)
conditional_bare {known = known} {o = o} {t = t} {x = x} {y = y} {v = v} {w = w} {k = k} {j = j} b truth p shows q other =
    subst (λ it. BareJudged it (judge_conditional t y w j)) (sym (conditional_known o x v b).0)
    (subst (BareJudged (judge_conditional o x v known)) (sym (conditional_known t y w b).1) (conditional_by p q shows other truth known))

-- ---- commas

pub data BareEach : List Typed → List Typed → Type 0 where
  none_bare : BareEach [] []
  one_bare : {x y : Typed} {xs ys : List Typed} → BareValue x y → BareEach xs ys → BareEach (x ∷ xs) (y ∷ ys)

pub last_same : {xs ys : List Typed} (t : CType) → BareEach xs ys → last_of t ys ≡ last_of t xs
last_same t none_bare = refl
last_same t (one_bare {x} {y} {xs} {ys} p ps) = ap (λ u. last_of u ys) (value_type_same p) ∙ last_same (own_type x) ps

pub comma_bare : (xs ys : List Typed) → last_of Void ys ≡ last_of Void xs → BareJudged (judge_comma xs) (judge_comma ys)
unfolding judge_comma
comma_bare xs ys h = λ r. (refl, a_bare_value (bare_varies h))
