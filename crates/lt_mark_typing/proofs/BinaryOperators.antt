-- No operator on two or three operands tells expressions with marks added from the expressions: C11 6.5.5 to 6.5.17.
use Rattle.std.proofs.Common.{◌≡◌, ℕ, List, Option, Some, None, Bool, true, false, refl, sym, ap, ◌∙◌, subst, inl, inr}
use Rattle.std.specs.Prelude.{◌++◌, ◌&&◌, if◌then◌else◌, ℤ}
use Rattle.lt_model.specs.declared.scalar.DataModel.{DataModel}
use Rattle.lt_model.specs.declared.scalar.Scalar.{Scalar}
use Rattle.lt_model.specs.declared.operator.Op.{Op}
use Rattle.lt_model.specs.declared.operator.Op.TheVariants as O
use Rattle.lt_tree.specs.declared.expression.LogicalOp.{LogicalOp}
use Rattle.lt_tree.specs.Typing.Types.{CType, Void, Num, is_integer, is_pointer, is_scalar, unqualified, value_type}
use Rattle.lt_tree.specs.Typing.Extents.{Structs}
use Rattle.lt_tree.specs.Typing.Constants.{Constancy, varying, faulty, number, null_constant, null_address, address, is_form, converted, applied, operated, moved_by, connected, chosen}
use Rattle.lt_tree.specs.Typing.Rules.{unless, not_scalar, bad_choice, bad_assignment}
use Rattle.lt_tree.specs.Typing.TypedTree as e
use Rattle.lt_tree.specs.Typing.TypedTree.{Value, Values}
use Rattle.lt_tree.specs.Typing.Entities.{Known}
use Rattle.lt_tree.specs.Typing.Operands.{are_integers, can_be_chosen_from}
use Rattle.lt_tree.specs.Typing.Expressions.{Typed, valued, varies, own_type, value_in, place_in, converted_to, constancy_to}
use Rattle.lt_tree.specs.Typing.Operations.{element_size, object_size, fits, write_faults}
use Rattle.lt_tree.specs.Typing.BinaryOperations.{judge_binary, operand_faults, operation_type, right_type, on_integers, on_pointers, towards, moved, distance, beside, compared, judge_logical, settles, judge_conditional, chosen_type, judge_assignment, judge_assign, judge_update, update_faults, updated, judge_comma, values_of, last_of}
use Rattle.lt_mark_laws.specs.Added as a
use Rattle.lt_mark_laws.specs.Added.{Adds, AddsAll}
use Rattle.lt_mark_typing.specs.Beside.{IsAtMost, AddsMade, AddsTyped, AddsTest, AddsEach, none_added, one_added}
use Rattle.lt_mark_typing.proofs.Operands.{converted_adds, type_same, value_adds, place_adds, lvalue_same, null_same, AddsJudged, made, valued_adds, varies_adds}
use Rattle.lt_mark_typing.proofs.Operators.{strict, strict_both, conversion_varies, left_empty, right_empty, empty_both, unless_more, and_more, scalar_more, place_varies, pointers, others, fits_more}

-- ---- constants

applied_varies : (m : DataModel) (op : Op) (s : Scalar) (c : Constancy) → applied m op s c varying ≡ varying
applied_varies m op s varying = refl
applied_varies m op s faulty = refl
applied_varies m op s (number z) = refl
applied_varies m op s null_constant = refl
applied_varies m op s null_address = refl
applied_varies m op s (address object offset) = refl

connected_varies : (settled : ℤ → Bool) (c : Constancy) → connected settled c varying ≡ varying
connected_varies settled varying = refl
connected_varies settled faulty = refl
connected_varies settled (number z) = refl
connected_varies settled null_constant = refl
connected_varies settled null_address = refl
connected_varies settled (address object offset) = refl

never : (b : Bool) (c : Constancy) → (if b && false then c else varying) ≡ varying
never true c = refl
never false c = refl

chosen_second : (c d : Constancy) → chosen c varying d ≡ varying
chosen_second varying d = refl
chosen_second faulty d = refl
chosen_second (number z) d = refl
chosen_second null_constant d = refl
chosen_second null_address d = refl
chosen_second (address object offset) d = refl

chosen_third : (c d : Constancy) → chosen c d varying ≡ varying
chosen_third varying d = refl
chosen_third faulty d = never (is_form d) faulty
chosen_third (number z) d = never (is_form d) _
chosen_third null_constant d = refl
chosen_third null_address d = refl
chosen_third (address object offset) d = refl

towards_varies : (op : Op) → towards op varying ≡ varying
towards_varies O.Sub = refl
towards_varies _ = refl

-- ---- binary operators

module _ {new : ℕ → Bool} {x y v w : Typed} (p : AddsTyped new x y) (q : AddsTyped new v w) where
  operands_same : (structs : Structs) (op : Op) → operand_faults structs op y w ≡ operand_faults structs op x v
  operands_same structs O.Eq = rw (type_same (made p)) (rw (type_same (made q)) (rw (null_same p) (rw (null_same q) refl)))
  operands_same structs O.Ne = rw (type_same (made p)) (rw (type_same (made q)) (rw (null_same p) (rw (null_same q) refl)))
  operands_same structs O.Add = rw (type_same (made p)) (rw (type_same (made q)) refl)
  operands_same structs O.Sub = rw (type_same (made p)) (rw (type_same (made q)) refl)
  operands_same structs O.Lt = rw (type_same (made p)) (rw (type_same (made q)) refl)
  operands_same structs O.Le = rw (type_same (made p)) (rw (type_same (made q)) refl)
  operands_same structs O.Gt = rw (type_same (made p)) (rw (type_same (made q)) refl)
  operands_same structs O.Ge = rw (type_same (made p)) (rw (type_same (made q)) refl)
  operands_same structs _ = rw (type_same (made p)) (rw (type_same (made q)) refl)

  integers_adds : (known : Known) (op : Op) → AddsMade new (on_integers known op x v) (on_integers known op y w)
  integers_adds known op = rw (type_same (made p)) (rw (type_same (made q)) (valued_adds
      (a.Arithmetic (converted_adds (Num (operation_type known op x v)) (value_adds (made p))) (converted_adds (Num (right_type known op x v)) (value_adds (made q))))
      (strict_both (operated known.model op (operation_type known op x v) (right_type known op x v)) (λ c. refl)
      (λ c. applied_varies known.model op (operation_type known op x v) (converted known.model (operation_type known op x v) c)) p.constancy q.constancy)))

  moved_adds : (known : Known) (op : Op) → AddsMade new (moved known op x v) (moved known op y w)
  moved_adds known op = rw (type_same (made p)) (rw (type_same (made (pointers p q))) (valued_adds (a.Move (value_adds (made p)) (value_adds (made q)))
      (strict_both (moved_by (object_size known) (element_size known x v)) (λ c. refl) (place_varies (object_size known) (element_size known x v))
      (pointers p q).constancy (strict (towards op) (towards_varies op) (others p q).constancy))))

  distance_adds : (known : Known) → AddsMade new (distance known x v) (distance known y w)
  distance_adds known = rw (type_same (made p)) (rw (type_same (made (pointers p q))) (varies_adds (a.Distance (value_adds (made p)) (value_adds (made q)))))

beside_adds : {new : ℕ → Bool} {x y v w : Typed} → AddsTyped new x y → AddsTyped new v w → Adds new (beside x v) (beside y w)
beside_adds {new} {x} {y} {v} {w} p q = rw (type_same (made p)) (rw (type_same (made q)) (by (is_integer (own_type x))))
  where
    by : (b : Bool) → Adds new (if b then converted_to (own_type v) (value_in x) else value_in x) (if b then converted_to (own_type v) (value_in y) else value_in y)
    by true = converted_adds (own_type v) (value_adds (made p))
    by false = value_adds (made p)

module _ {new : ℕ → Bool} {x y v w : Typed} (p : AddsTyped new x y) (q : AddsTyped new v w) where
  compared_adds : (op : Op) → AddsMade new (compared op x v) (compared op y w)
  compared_adds op = varies_adds (a.Compare (beside_adds p q) (beside_adds q p))

  difference_adds : (known : Known) (b : Bool) → AddsMade new (if b then distance known x v else moved known O.Sub x v) (if b then distance known y w else moved known O.Sub y w)
  difference_adds known true = distance_adds p q known
  difference_adds known false = moved_adds p q known O.Sub

  subtracted_adds : (known : Known) → AddsMade new (on_pointers known O.Sub x v) (on_pointers known O.Sub y w)
  subtracted_adds known = subst (λ b. AddsMade new (on_pointers known O.Sub x v) (if b then distance known y w else moved known O.Sub y w))
      (sym (ap (λ t. is_pointer t && is_pointer (own_type w)) (type_same (made p)) ∙ ap (λ t. is_pointer (own_type x) && is_pointer t) (type_same (made q))))
      (difference_adds known (is_pointer (own_type x) && is_pointer (own_type v)))

  pointers_adds : (known : Known) (op : Op) → AddsMade new (on_pointers known op x v) (on_pointers known op y w)
  pointers_adds known O.Sub = subtracted_adds known
  pointers_adds known O.Add = moved_adds p q known O.Add
  pointers_adds known op = compared_adds op

  either_adds : (known : Known) (op : Op) (b : Bool) → AddsMade new (if b then on_integers known op x v else on_pointers known op x v) (if b then on_integers known op y w else on_pointers known op y w)
  either_adds known op true = integers_adds p q known op
  either_adds known op false = pointers_adds known op

  pub binary_adds : (op : Op) (known : Known) → AddsJudged new (judge_binary op x v known) (judge_binary op y w known)
  unfolding judge_binary
  binary_adds op known = record {
    faults = λ h. operands_same p q known.structs op ∙ h;
    typed = subst (λ b. AddsMade new (if are_integers (own_type x) (own_type v) then on_integers known op x v else on_pointers known op x v) (if b then on_integers known op y w else on_pointers known op y w))
        (sym (ap (λ t. are_integers t (own_type w)) (type_same (made p)) ∙ ap (are_integers (own_type x)) (type_same (made q))))
        (either_adds known op (are_integers (own_type x) (own_type v)));
  }

  -- ---- assignment

  writes_same : (structs : Structs) → write_faults structs y ≡ write_faults structs x
  writes_same structs = rw (type_same (made p)) (rw (lvalue_same (made p)) refl)

  assign_adds : (known : Known) → AddsJudged new (judge_assign x v known) (judge_assign y w known)
  unfolding judge_assign
  assign_adds known = record {
    faults = λ h. empty_both (unless (fits (value_type (own_type y)) w) bad_assignment) (write_faults known.structs y)
        (ap (λ t. unless (fits (value_type t) w) bad_assignment) (type_same (made p))
        ∙ unless_more bad_assignment (fits (value_type (own_type x)) v) (fits (value_type (own_type x)) w) (fits_more (value_type (own_type x)) q)
        (left_empty (unless (fits (value_type (own_type x)) v) bad_assignment) (write_faults known.structs x) h))
        (writes_same known.structs ∙ right_empty (unless (fits (value_type (own_type x)) v) bad_assignment) (write_faults known.structs x) h);
    typed = subst (λ t. AddsMade new (varies (e.Assign (unqualified (own_type x)) (place_in x) (converted_to (unqualified (own_type x)) (value_in v))))
        (varies (e.Assign (unqualified t) (place_in y) (converted_to (unqualified t) (value_in w))))) (sym (type_same (made p)))
        (varies_adds (a.Assign (place_adds (made p)) (converted_adds (unqualified (own_type x)) (value_adds (made q)))));
  }

  changes_same : (structs : Structs) (op : Op) → update_faults structs op (value_type (own_type y)) (own_type w) ≡ update_faults structs op (value_type (own_type x)) (own_type v)
  changes_same structs op = ap (λ t. update_faults structs op (value_type t) (own_type w)) (type_same (made p)) ∙ ap (update_faults structs op (value_type (own_type x))) (type_same (made q))

  updated_adds : (known : Known) (op : Op) → Adds new (updated known op x v) (updated known op y w)
  updated_adds known op = rw (type_same (made p)) (rw (type_same (made q)) (rw (type_same (made (pointers p q))) (by (is_pointer (own_type x)))))
    where
      by : (b : Bool) → Adds new (if b then e.UpdatePointer (unqualified (own_type x)) op (element_size known x v) (place_in x) (value_in v) else e.Update (unqualified (own_type x)) op (operation_type known op x v) (place_in x) (converted_to (Num (right_type known op x v)) (value_in v)))
          (if b then e.UpdatePointer (unqualified (own_type x)) op (element_size known x v) (place_in y) (value_in w) else e.Update (unqualified (own_type x)) op (operation_type known op x v) (place_in y) (converted_to (Num (right_type known op x v)) (value_in w)))
      by true = a.UpdatePointer (place_adds (made p)) (value_adds (made q))
      by false = a.Update (place_adds (made p)) (converted_adds (Num (right_type known op x v)) (value_adds (made q)))

  update_adds : (op : Op) (known : Known) → AddsJudged new (judge_update op x v known) (judge_update op y w known)
  unfolding judge_update
  update_adds op known = record {
    faults = λ h. ap (λ l. l ++ write_faults known.structs y) (changes_same known.structs op) ∙ ap (λ l. update_faults known.structs op (value_type (own_type x)) (own_type v) ++ l) (writes_same known.structs) ∙ h;
    typed = varies_adds (updated_adds known op);
  }

  pub assignment_adds : (op : Option Op) (known : Known) → AddsJudged new (judge_assignment op x v known) (judge_assignment op y w known)
  assignment_adds None known = assign_adds known
  assignment_adds (Some op) known = update_adds op known

-- ---- `&&`, `||` and `?:`

pub logical_adds : {new : ℕ → Bool} {x y v w : Typed} (op : LogicalOp) → AddsTest new x y → AddsTest new v w → AddsJudged new (judge_logical op x v) (judge_logical op y w)
unfolding judge_logical
logical_adds {new} {x} {y} {v} {w} op p q = record {
  faults = unless_more not_scalar (is_scalar (own_type x) && is_scalar (own_type v)) (is_scalar (own_type y) && is_scalar (own_type w))
      (and_more (is_scalar (own_type x)) (is_scalar (own_type v)) (is_scalar (own_type y)) (is_scalar (own_type w)) (scalar_more p) (scalar_more q));
  typed = valued_adds (a.Logical p.value q.value) (strict_both (connected (settles op)) (λ c. refl) (connected_varies (settles op)) p.constancy q.constancy);
}

chosen_at_most : {b c d k m n : Constancy} → IsAtMost b k → IsAtMost c m → IsAtMost d n → IsAtMost (chosen b c d) (chosen k m n)
chosen_at_most {b} {c} {d} {k} {m} {n} (inr h) j l = inr (ap (λ it. chosen it m n) h)
chosen_at_most {b} {c} {d} {k} {m} {n} (inl h) (inr j) l = inr (ap (λ it. chosen k it n) j ∙ chosen_second k n)
chosen_at_most {b} {c} {d} {k} {m} {n} (inl h) (inl j) (inr l) = inr (ap (λ it. chosen k m it) l ∙ chosen_third k m)
chosen_at_most {b} {c} {d} {k} {m} {n} (inl h) (inl j) (inl l) = inl (ap (λ it. chosen it m n) h ∙ ap (λ it. chosen b it n) j ∙ ap (chosen b c) l)

module _ {new : ℕ → Bool} {s t x y v w : Typed} (o : AddsTest new s t) (p : AddsTyped new x y) (q : AddsTyped new v w) where
  choice_same : (known : Known) → chosen_type known y w ≡ chosen_type known x v
  choice_same known = rw (type_same (made p)) (rw (type_same (made q)) (rw (null_same p) (rw (null_same q) refl)))

  choices_same : can_be_chosen_from (own_type y) y.constancy (own_type w) w.constancy ≡ can_be_chosen_from (own_type x) x.constancy (own_type v) v.constancy
  choices_same = rw (type_same (made p)) (rw (type_same (made q)) (rw (null_same p) (rw (null_same q) refl)))

  conditional_by : (known : Known) (u : CType) → AddsMade new (valued (e.Conditional u (value_in s) (converted_to u (value_in x)) (converted_to u (value_in v))) (constancy_to known.model u (chosen s.constancy x.constancy v.constancy)) (constancy_to known.model u (chosen s.erased x.erased v.erased)))
      (valued (e.Conditional u (value_in t) (converted_to u (value_in y)) (converted_to u (value_in w))) (constancy_to known.model u (chosen t.constancy y.constancy w.constancy)) (constancy_to known.model u (chosen t.erased y.erased w.erased)))
  conditional_by known u = valued_adds (a.Conditional o.value (converted_adds u (value_adds (made p))) (converted_adds u (value_adds (made q))))
      (strict (constancy_to known.model u) (conversion_varies known.model u) (chosen_at_most o.constancy p.constancy q.constancy))

  pub conditional_adds : (known : Known) → AddsJudged new (judge_conditional s x v known) (judge_conditional t y w known)
  unfolding judge_conditional
  conditional_adds known = record {
    faults = λ h. empty_both (unless (is_scalar (own_type t)) not_scalar) (unless (can_be_chosen_from (own_type y) y.constancy (own_type w) w.constancy) bad_choice)
        (unless_more not_scalar (is_scalar (own_type s)) (is_scalar (own_type t)) (scalar_more o)
        (left_empty (unless (is_scalar (own_type s)) not_scalar) (unless (can_be_chosen_from (own_type x) x.constancy (own_type v) v.constancy) bad_choice) h))
        (ap (λ it. unless it bad_choice) choices_same ∙ right_empty (unless (is_scalar (own_type s)) not_scalar) (unless (can_be_chosen_from (own_type x) x.constancy (own_type v) v.constancy) bad_choice) h);
    typed = subst (λ u. AddsMade new (judge_conditional s x v known).typed (valued (e.Conditional u (value_in t) (converted_to u (value_in y)) (converted_to u (value_in w))) (constancy_to known.model u (chosen t.constancy y.constancy w.constancy)) (constancy_to known.model u (chosen t.erased y.erased w.erased))))
        (sym (choice_same known)) (conditional_by known (chosen_type known x v));
  }

-- ---- commas

module _ {new : ℕ → Bool} where
  parts_adds : {xs ys : List Typed} → AddsEach new xs ys → AddsAll new (values_of xs) (values_of ys)
  parts_adds none_added = a.no_values
  parts_adds (one_added p ps) = a.a_value (value_adds (made p)) (parts_adds ps)

  last_same : {xs ys : List Typed} (t : CType) → AddsEach new xs ys → last_of t ys ≡ last_of t xs
  last_same t none_added = refl
  last_same t (one_added {x} {y} {xs} {ys} p ps) = ap (λ u. last_of u ys) (type_same (made p)) ∙ last_same (own_type x) ps

  pub comma_adds : {xs ys : List Typed} → AddsEach new xs ys → AddsJudged new (judge_comma xs) (judge_comma ys)
  unfolding judge_comma
  comma_adds {xs} {ys} ps = record { faults = λ h. h; typed = subst (λ t. AddsMade new (varies (e.Comma (last_of Void xs) (values_of xs))) (varies (e.Comma t (values_of ys)))) (sym (last_same Void ps)) (varies_adds (a.Comma (parts_adds ps))) }
