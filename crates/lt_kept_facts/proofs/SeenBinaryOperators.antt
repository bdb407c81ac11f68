-- What operators make of two and three operands that are seen alike is seen alike: C11 6.5.5 to 6.5.17; and what marks make of them.
use Rattle.std.proofs.Common.{◌≡◌, refl, sym, ap, ◌∙◌, subst, inl, inr, ℤ, List, [], ◌∷◌, Option, Some, None, Bool, true, false, if◌then◌else◌}
use Rattle.std.proofs.lemmas.Bool.{false≢true}
use Rattle.std.specs.Prelude.{◌⊎◌, ◌&&◌, ◌||◌}
use Rattle.lt_model.specs.declared.operator.Op.{Op}
use Rattle.lt_model.specs.declared.operator.Op.TheVariants as O
use Rattle.lt_model.specs.Scalar.{difference_type}
use Rattle.lt_tree.specs.declared.expression.LogicalOp.{LogicalOp}
use Rattle.lt_tree.specs.Typing.Types.{CType, Void, Num, Pointer, Array, Struct, Function, Floating, Qualified, unqualified, is_integer, is_pointer}
use Rattle.lt_tree.specs.Typing.Extents.{Structs}
use Rattle.lt_tree.specs.Typing.Constants.{Constancy, varying, faulty, number, null_constant, null_address, address, is_form, is_null_constant, converted, applied, connected, chosen, moved_by}
use Rattle.lt_tree.specs.Typing.Rules.{Rule, unless, bad_sum}
use Rattle.lt_tree.specs.Typing.TypedTree as e
use Rattle.lt_tree.specs.Typing.TypedTree.{Value, type_of}
use Rattle.lt_tree.specs.Typing.Entities.{Known}
use Rattle.lt_tree.specs.Typing.Operands.{are_integers, is_movable, is_pointer_and_integer, can_be_added, can_be_subtracted, point_alike}
use Rattle.lt_tree.specs.Typing.Expressions.{Typed, own_type, value_in, place_in, constancy_to, converted_to}
use Rattle.lt_tree.specs.Typing.Operations.{pointer_among, other_among, object_size, element_size}
use Rattle.lt_tree.specs.Typing.BinaryOperations.{operation_type, right_type, on_integers, on_pointers, moved, towards, distance, compared, operand_faults, judge_binary, settles, judge_logical, chosen_type, judge_conditional, judge_assign, updated, judge_update, judge_assignment, last_of, judge_comma}
use Rattle.lt_kept_facts.proofs.SeenAlike.{SameForm, values, SeenAlike, same_type, same_by, same_both, alike_values}
use Rattle.lt_kept_facts.proofs.SeenOperators.{converted_none, moved_by_none, pointer_type}

-- ---- constants that are no integers

connected_left : (ends : ℤ → Bool) (a b : Constancy) → is_form a ≡ false → connected ends a b ≡ varying
connected_left ends varying b h = refl
connected_left ends faulty b h = absurd (false≢true (sym h))
connected_left ends (number z) b h = absurd (false≢true (sym h))
connected_left ends null_constant b h = refl
connected_left ends null_address b h = refl
connected_left ends (address object offset) b h = refl

if_none : (b : Bool) (c : Constancy) → b ≡ false → (if b then c else varying) ≡ varying
if_none true c h = absurd (false≢true (sym h))
if_none false c h = refl

connected_right : (ends : ℤ → Bool) (a b : Constancy) → is_form b ≡ false → connected ends a b ≡ varying
connected_right ends varying b h = refl
connected_right ends faulty b h = if_none (is_form b) faulty h
connected_right ends (number z) b h = if_none (is_form b) _ h
connected_right ends null_constant b h = refl
connected_right ends null_address b h = refl
connected_right ends (address object offset) b h = refl

chosen_test : (a b c : Constancy) → is_form a ≡ false → chosen a b c ≡ varying
chosen_test varying b c h = refl
chosen_test faulty b c h = absurd (false≢true (sym h))
chosen_test (number z) b c h = absurd (false≢true (sym h))
chosen_test null_constant b c h = refl
chosen_test null_address b c h = refl
chosen_test (address object offset) b c h = refl

and_none : (p q : Bool) → p ≡ false → p && q ≡ false
and_none true q h = absurd (false≢true (sym h))
and_none false q h = refl

and_second_none : (p q : Bool) → q ≡ false → p && q ≡ false
and_second_none true q h = h
and_second_none false q h = refl

chosen_by : (a b c : Constancy) → is_form b && is_form c ≡ false → chosen a b c ≡ varying
chosen_by varying b c h = refl
chosen_by faulty b c h = if_none (is_form b && is_form c) faulty h
chosen_by (number z) b c h = if_none (is_form b && is_form c) _ h
chosen_by null_constant b c h = refl
chosen_by null_address b c h = refl
chosen_by (address object offset) b c h = refl

chosen_same : {a b c d m n : Constancy} → SameForm a d → SameForm b m → SameForm c n → chosen d m n ≡ chosen a b c
chosen_same {a} {b} {c} {d} {m} {n} p q r =
    same_both (λ t u. chosen t u n) (λ t u h. chosen_test t u n h) (λ t u h. chosen_by t u n (and_none (is_form u) (is_form n) h)) p q
    ∙ same_by (chosen a b) (λ u h. chosen_by a b u (and_second_none (is_form b) (is_form u) h)) r

-- ---- pointers

movable_pointer : (structs : Structs) (t : CType) → is_movable structs t ≡ true → is_pointer t ≡ true
movable_pointer structs (Pointer t) h = refl
movable_pointer structs (Qualified q t) h = movable_pointer structs t h
movable_pointer structs Void h = h
movable_pointer structs (Num s) h = h
movable_pointer structs (Array t n) h = h
movable_pointer structs (Struct k) h = h
movable_pointer structs (Function t ts dots) h = h
movable_pointer structs Floating h = h

pointer_no_integer : (t : CType) → is_pointer t ≡ true → is_integer t ≡ false
pointer_no_integer (Pointer t) h = refl
pointer_no_integer (Qualified q t) h = pointer_no_integer t h
pointer_no_integer Void h = refl
pointer_no_integer (Num s) h = absurd (false≢true h)
pointer_no_integer (Array t n) h = refl
pointer_no_integer (Struct k) h = refl
pointer_no_integer (Function t ts dots) h = refl
pointer_no_integer Floating h = refl

-- the first or the second is a pointer
among_pointer : (x v : Typed) → (is_pointer (own_type x) ≡ true) ⊎ (is_pointer (own_type v) ≡ true) → is_pointer (own_type (pointer_among x v)) ≡ true
among_pointer x v h = by (is_pointer (own_type x)) refl h
  where
    by : (b : Bool) → is_pointer (own_type x) ≡ b → (b ≡ true) ⊎ (is_pointer (own_type v) ≡ true) → is_pointer (own_type (if b then x else v)) ≡ true
    by true e h = e
    by false e (inl h) = absurd (false≢true h)
    by false e (inr h) = h

one_of : (a b c : Bool) → a ≡ false → (a || b) || c ≡ true → (b ≡ true) ⊎ (c ≡ true)
one_of true b c h g = absurd (false≢true (sym h))
one_of false true c h g = inl refl
one_of false false c h g = inr g

and_first : (a b : Bool) → a && b ≡ true → a ≡ true
and_first true b h = refl
and_first false b h = h

sum_pointer : (structs : Structs) (t u : CType) → are_integers t u ≡ false → can_be_added structs t u ≡ true → (is_pointer t ≡ true) ⊎ (is_pointer u ≡ true)
sum_pointer structs t u h g = by (one_of (are_integers t u) (is_pointer_and_integer structs t u) (is_pointer_and_integer structs u t) h g)
  where
    by : (is_pointer_and_integer structs t u ≡ true) ⊎ (is_pointer_and_integer structs u t ≡ true) → (is_pointer t ≡ true) ⊎ (is_pointer u ≡ true)
    by (inl q) = inl (movable_pointer structs t (and_first (is_movable structs t) (is_integer u) q))
    by (inr q) = inr (movable_pointer structs u (and_first (is_movable structs u) (is_integer t) q))

difference_pointer : (structs : Structs) (t u : CType) → are_integers t u ≡ false → can_be_subtracted structs t u ≡ true → (is_pointer t ≡ true) ⊎ (is_pointer u ≡ true)
difference_pointer structs t u h g = by (one_of (are_integers t u) (is_pointer_and_integer structs t u) (is_movable structs t && is_movable structs u && point_alike t u) h g)
  where
    by : (is_pointer_and_integer structs t u ≡ true) ⊎ (is_movable structs t && is_movable structs u && point_alike t u ≡ true) → (is_pointer t ≡ true) ⊎ (is_pointer u ≡ true)
    by (inl q) = inl (movable_pointer structs t (and_first (is_movable structs t) (is_integer u) q))
    by (inr q) = inl (movable_pointer structs t (and_first (is_movable structs t) (is_movable structs u) (and_first (is_movable structs t && is_movable structs u) (point_alike t u) q)))

unless_true : (rule : Rule) (b : Bool) → unless b rule ≡ [] → b ≡ true
unless_true rule true h = refl
unless_true rule false h = absurd cc

-- ---- binary operators

module _ {x y v w : Typed} (s : SeenAlike x y) (r : SeenAlike v w) where
  moved_seen : (known other : Known) (op : Op) → (is_pointer (own_type x) ≡ true) ⊎ (is_pointer (own_type v) ≡ true) → SeenAlike (moved known op x v) (moved other op y w)
  moved_seen known other op h = record {
    kind = values (pointer_type s r);
    erased = inr (none known x v, none other y w);
    integer = λ i. absurd (false≢true (sym (pointer_no_integer (own_type (pointer_among x v)) (among_pointer x v h)) ∙ i));
    address = tt;
  }
    where
      none : (known : Known) (x v : Typed) → is_form (moved_by (object_size known) (element_size known x v) (pointer_among x v).constancy (towards op (other_among x v).constancy)) ≡ false
      none known x v = moved_by_none (object_size known) (element_size known x v) (pointer_among x v).constancy (towards op (other_among x v).constancy)

  distance_seen : (known other : Known) → other.model ≡ known.model → SeenAlike (distance known x v) (distance other y w)
  distance_seen known other e = alike_values varying varying (ap (λ m. Num (difference_type m)) e) refl

  compared_seen : (op : Op) → SeenAlike (compared op x v) (compared op y w)
  compared_seen op = alike_values varying varying refl refl

  integers_seen : (known other : Known) (op : Op) → other.model ≡ known.model → SeenAlike (on_integers known op x v) (on_integers other op y w)
  integers_seen known other op e = rw e (rw (same_type x y s.kind) (rw (same_type v w r.kind) (alike_values _ _ refl
      (ap (λ c. applied known.model op (operation_type known op x v) c (converted known.model (right_type known op x v) w.erased)) (same_by (converted known.model (operation_type known op x v)) (converted_none known.model (operation_type known op x v)) s.erased)
      ∙ ap (applied known.model op (operation_type known op x v) (converted known.model (operation_type known op x v) x.erased)) (same_by (converted known.model (right_type known op x v)) (converted_none known.model (right_type known op x v)) r.erased)))))

  subtracted_seen : (known other : Known) → other.model ≡ known.model → are_integers (own_type x) (own_type v) ≡ false → operand_faults known.structs O.Sub x v ≡ [] → SeenAlike (on_pointers known O.Sub x v) (on_pointers other O.Sub y w)
  subtracted_seen known other e i h = subst (λ b. SeenAlike (on_pointers known O.Sub x v) (if b then distance other y w else moved other O.Sub y w))
      (sym (ap (λ t. is_pointer t && is_pointer (own_type w)) (same_type x y s.kind) ∙ ap (λ t. is_pointer (own_type x) && is_pointer t) (same_type v w r.kind)))
      (by (is_pointer (own_type x) && is_pointer (own_type v)))
    where
      by : (b : Bool) → SeenAlike (if b then distance known x v else moved known O.Sub x v) (if b then distance other y w else moved other O.Sub y w)
      by true = distance_seen known other e
      by false = moved_seen known other O.Sub (difference_pointer known.structs (own_type x) (own_type v) i (unless_true bad_sum (can_be_subtracted known.structs (own_type x) (own_type v)) h))

  pointers_seen : (known other : Known) (op : Op) → other.model ≡ known.model → are_integers (own_type x) (own_type v) ≡ false → operand_faults known.structs op x v ≡ [] → SeenAlike (on_pointers known op x v) (on_pointers other op y w)
  pointers_seen known other O.Sub e i h = subtracted_seen known other e i h
  pointers_seen known other O.Add e i h = moved_seen known other O.Add (sum_pointer known.structs (own_type x) (own_type v) i (unless_true bad_sum (can_be_added known.structs (own_type x) (own_type v)) h))
  pointers_seen known other op e i h = compared_seen op

  pub binary_seen : (op : Op) (known other : Known) → other.model ≡ known.model → (judge_binary op x v known).faults ≡ [] → SeenAlike (judge_binary op x v known).typed (judge_binary op y w other).typed
  unfolding judge_binary
  binary_seen op known other e h = subst (λ b. SeenAlike (if are_integers (own_type x) (own_type v) then on_integers known op x v else on_pointers known op x v) (if b then on_integers other op y w else on_pointers other op y w))
      (sym (ap (λ t. are_integers t (own_type w)) (same_type x y s.kind) ∙ ap (are_integers (own_type x)) (same_type v w r.kind)))
      (by (are_integers (own_type x) (own_type v)) refl)
    where
      by : (b : Bool) → are_integers (own_type x) (own_type v) ≡ b → SeenAlike (if b then on_integers known op x v else on_pointers known op x v) (if b then on_integers other op y w else on_pointers other op y w)
      by true i = integers_seen known other op e
      by false i = pointers_seen known other op e i h

-- ---- `&&`, `||` and `?:`

pub logical_seen : (op : LogicalOp) (x y v w : Typed) → SameForm x.erased y.erased → SameForm v.erased w.erased → SeenAlike (judge_logical op x v).typed (judge_logical op y w).typed
unfolding judge_logical
logical_seen op x y v w s r = alike_values _ _ refl (same_both (connected (settles op)) (connected_left (settles op)) (connected_right (settles op)) s r)

module _ {x y v w : Typed} (s : SeenAlike x y) (r : SeenAlike v w) (n : is_null_constant y.constancy ≡ is_null_constant x.constancy) (m : is_null_constant w.constancy ≡ is_null_constant v.constancy) where
  choice_same : (known other : Known) → other.model ≡ known.model → chosen_type other y w ≡ chosen_type known x v
  choice_same known other e = rw e (rw (same_type x y s.kind) (rw (same_type v w r.kind) (rw n (rw m refl))))

  pub conditional_seen : (p q : Typed) (known other : Known) → SameForm p.erased q.erased → other.model ≡ known.model → SeenAlike (judge_conditional p x v known).typed (judge_conditional q y w other).typed
  unfolding judge_conditional
  conditional_seen p q known other f e = alike_values _ _ (choice_same known other e)
      (ap (λ m. constancy_to m (chosen_type other y w) (chosen q.erased y.erased w.erased)) e ∙ ap (λ t. constancy_to known.model t (chosen q.erased y.erased w.erased)) (choice_same known other e)
      ∙ ap (constancy_to known.model (chosen_type known x v)) (chosen_same f s.erased r.erased))

-- ---- assignment and commas

either_type : (t : CType) (a b : Value) (p : Bool) → type_of a ≡ t → type_of b ≡ t → type_of (if p then a else b) ≡ t
either_type t a b true h g = h
either_type t a b false h g = g

updated_type : (known : Known) (op : Op) (x y : Typed) → type_of (updated known op x y) ≡ unqualified (own_type x)
updated_type known op x y = either_type (unqualified (own_type x)) (e.UpdatePointer (unqualified (own_type x)) op (element_size known x y) (place_in x) (value_in y))
    (e.Update (unqualified (own_type x)) op (operation_type known op x y) (place_in x) (converted_to (Num (right_type known op x y)) (value_in y))) (is_pointer (own_type x)) refl refl

pub assignment_seen : {x y : Typed} → SeenAlike x y → (op : Option Op) (v w : Typed) (known other : Known) → SeenAlike (judge_assignment op x v known).typed (judge_assignment op y w other).typed
unfolding judge_assign judge_update
assignment_seen {x} {y} s None v w known other = alike_values varying varying (ap unqualified (same_type x y s.kind)) refl
assignment_seen {x} {y} s (Some op) v w known other = alike_values varying varying (updated_type other op y w ∙ ap unqualified (same_type x y s.kind) ∙ sym (updated_type known op x v)) refl

pub data SeenEach : List Typed → List Typed → Type 0 where
  none_seen : SeenEach [] []
  one_seen : {x y : Typed} {xs ys : List Typed} → SeenAlike x y → SeenEach xs ys → SeenEach (x ∷ xs) (y ∷ ys)

last_same : (t : CType) {xs ys : List Typed} → SeenEach xs ys → last_of t ys ≡ last_of t xs
last_same t none_seen = refl
last_same t (one_seen {x} {y} {xs} {ys} s r) = ap (λ u. last_of u ys) (same_type x y s.kind) ∙ last_same (own_type x) r

pub comma_seen : {xs ys : List Typed} → SeenEach xs ys → SeenAlike (judge_comma xs).typed (judge_comma ys).typed
unfolding judge_comma
comma_seen r = alike_values varying varying (last_same Void r) refl
