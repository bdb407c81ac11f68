-- Predicates that are made of expressions are typed where these are.
use Rattle.std.proofs.Common.{◌≡◌, ℕ, ◌+◌, List, [], ◌∷◌, Some, option_map, Bool, true, false, refl, sym, ap, ◌∙◌, append_assoc}
use Rattle.std.proofs.lemmas.Bool.{false≢true, and_from}
use Rattle.std.proofs.lemmas.List.{append-nil}
use Rattle.std.specs.Prelude.{◌++◌, ◌||◌, ◌&&◌, if◌then◌else◌}
use Rattle.std.specs.List.{AllByRecursion}
use Rattle.lt_model.specs.declared.operator.Op.{Op}
use Rattle.lt_model.specs.declared.operator.Op.TheVariants as O
use Rattle.lt_model.specs.declared.scalar.Scalar.{Scalar}
use Rattle.lt_model.specs.declared.scalar.Scalar.TheVariants as S
use Rattle.lt_tree.specs.declared.expression.LogicalOp.{LogicalOp}
use Rattle.lt_tree.specs.declared.expression.UnaryOp.TheVariants as unary
use Rattle.lt_tree.specs.Tree as c
use Rattle.lt_tree.specs.Purity.{is_pure}
use Rattle.lt_tree.specs.Typing.Types.{CType, Num, is_scalar, is_integer, is_pointer}
use Rattle.lt_model.specs.Conversions.{usual_of}
use Rattle.lt_tree.specs.Typing.Extents.{Structs, has_too_many_cells}
use Rattle.lt_tree.specs.Typing.Constants.{chosen as chosen_constancy, TypedConstant, constant_of}
use Rattle.lt_tree.specs.Typing.TypedTree as e
use Rattle.lt_tree.specs.Typing.Rules.{unless, broken_if, floating_type, bad_length, function_as_value, not_scalar, bad_choice, operand_not_integer}
use Rattle.lt_tree.specs.Typing.Operands.{are_integers, can_be_chosen_from, is_relation, is_equality}
use Rattle.lt_tree.specs.Typing.Entities.{Known, Object, Fact, an_object, meaning_of}
use Rattle.lt_tree.specs.Typing.Steps.{Outcome, goes_on}
use Rattle.lt_tree.specs.Typing.Expressions.{Typed, Use, as_value, as_truth, valued, constant, own_type, as_it_is_read, faults_of_any, value_in, converted_to, constancy_to, scalar_in, has_floating, has_pointer_to_function, Judged, judgement, fact_of, finish}
use Rattle.lt_tree.specs.Typing.Operations.{object_named, judge_name, judge_constant, judge_minus, judge_not}
use Rattle.lt_tree.specs.Typing.BinaryOperations.{judge_binary, operand_faults, operation_type, on_integers, on_pointers, judge_logical, judge_conditional, chosen_pointer}
use Rattle.lt_tree.specs.Typing.ExpressionTyping.{expression}
use Rattle.lt_mark_laws.proofs.Lists.{all_both}
use Rattle.lt_object_laws.specs.Further.{IsFurther}
use Rattle.lt_object_laws.specs.Renamed.{renumbered}
use Rattle.lt_mark_typing.specs.Renumbered.{entity_with, typed_with}
use Rattle.lt_mark_typing.specs.Beside.{IsBeside}
use Rattle.lt_mark_typing.specs.Placed.{IsAt, IsThere}
use Rattle.lt_mark_typing.proofs.Numbers.{agrees_so_far}
use Rattle.lt_mark_typing.proofs.Going.{same_of}
use Rattle.lt_mark_typing.proofs.Renumbering.{own_type_with, as_read_with, any_with}
use Rattle.lt_mark_typing.proofs.Names.{meaning_known}
use Rattle.lt_mark_typing.proofs.Knowing.{name_known}
use Rattle.lt_mark_typing.proofs.Ends.{structs_same, finished_alone}
use Rattle.lt_mark_typing.proofs.NewMarks.{marked_further, numbered_alone, behind_alone}

-- where a pure expression is used as a truth it is typed as where its value is used
truth_role : (it : c.Expression) → is_pure it ≡ true → (known : Known) → expression it as_truth known ≡ expression it as_value known
unfolding judge_name finish
truth_role (c.Marked ms value) h known = absurd (false≢true h)
truth_role (c.Decide operand when_true when_false tag) h known = absurd (false≢true h)
truth_role (c.After operand id tag) h known = absurd (false≢true h)
truth_role (c.Name w) h known = refl
truth_role (c.Constant w) h known = refl
truth_role (c.Text bytes) h known = refl
truth_role (c.Index whole index) h known = refl
truth_role (c.Call callee arguments) h known = refl
truth_role (c.Member whole w) h known = refl
truth_role (c.Arrow pointer w) h known = refl
truth_role (c.PostInc target) h known = refl
truth_role (c.PostDec target) h known = refl
truth_role (c.PreInc target) h known = refl
truth_role (c.PreDec target) h known = refl
truth_role (c.Unary op operand) h known = refl
truth_role (c.SizeofExpr operand) h known = refl
truth_role (c.SizeofType s d) h known = refl
truth_role (c.Cast s d operand) h known = refl
truth_role (c.Binary op left right) h known = refl
truth_role (c.Logical op left right) h known = refl
truth_role (c.Conditional test left right) h known = refl
truth_role (c.Assign op target value) h known = refl
truth_role (c.Comma list) h known = refl

integer_scalar : (t : CType) → is_integer t ≡ true → is_scalar t ≡ true
integer_scalar t h = ap (λ b. b || is_pointer t) h

integers_take : (structs : Structs) (op : Op) (x y : Typed) → are_integers (own_type x) (own_type y) ≡ true → operand_faults structs op x y ≡ []
integers_take structs O.Add x y h = rw h refl
integers_take structs O.Sub x y h = rw h refl
integers_take structs O.Lt x y h = rw h refl
integers_take structs O.Le x y h = rw h refl
integers_take structs O.Gt x y h = rw h refl
integers_take structs O.Ge x y h = rw h refl
integers_take structs O.Eq x y h = rw h refl
integers_take structs O.Ne x y h = rw h refl
integers_take structs _ x y h = rw h refl

result_by : (b : Bool) (s : Scalar) → is_integer (if b then Num S.Int else Num s) ≡ true
result_by true s = refl
result_by false s = refl

good_by : (structs : Structs) (b : Bool) (s : Scalar)
    → broken_if floating_type (has_floating (if b then Num S.Int else Num s)) ++ broken_if bad_length (has_too_many_cells structs (if b then Num S.Int else Num s)) ++ broken_if function_as_value (has_pointer_to_function (if b then Num S.Int else Num s)) ++ [] ≡ []
good_by structs true s = refl
good_by structs false s = refl

choice_taken : (x y : Typed) → are_integers (own_type x) (own_type y) ≡ true → unless (can_be_chosen_from (own_type x) x.constancy (own_type y) y.constancy) bad_choice ≡ []
choice_taken x y h = rw h refl

-- a choice of this type
abbrev conditional_as : Known → Typed → Typed → Typed → CType → Judged
conditional_as known test x y t =
    judgement
    (unless (is_scalar (own_type test)) not_scalar
    ++ unless (can_be_chosen_from (own_type x) x.constancy (own_type y) y.constancy) bad_choice)
    (valued (e.Conditional t (value_in test) (converted_to t (value_in x)) (converted_to t (value_in y)))
    (constancy_to known.model t (chosen_constancy test.constancy x.constancy y.constancy)) (constancy_to known.model t (chosen_constancy test.erased x.erased y.erased)))

-- what an operator makes of integers, and a choice between them
on_both : (op : Op) (x y : Typed) (k : Known) → are_integers (own_type x) (own_type y) ≡ true → judge_binary op x y k ≡ judgement [] (on_integers k op x y)
unfolding judge_binary
on_both op x y k h =
    ap (λ faults. judgement faults (if are_integers (own_type x) (own_type y) then on_integers k op x y else on_pointers k op x y)) (integers_take k.structs op x y h)
    ∙ ap (λ b. judgement [] (if b then on_integers k op x y else on_pointers k op x y)) h

chosen_as : (z x y : Typed) (k : Known) → are_integers (own_type x) (own_type y) ≡ true → judge_conditional z x y k ≡ conditional_as k z x y (Num (usual_of k.model (scalar_in x) (scalar_in y)))
unfolding judge_conditional
chosen_as z x y k h = ap (λ b. conditional_as k z x y (if b then Num (usual_of k.model (scalar_in x) (scalar_in y)) else (if is_pointer (own_type x) || is_pointer (own_type y) then chosen_pointer x y else own_type x))) h

-- where no object is found
no_object : (l : Known) (n : ℕ) (facts : List Fact) → record l { next = n; facts = facts } ≡ record l { next = n; objects = l.objects ++ []; facts = facts }
no_object l n facts = ap (λ os. record l { next = n; objects = os; facts = facts }) (sym (append-nil l.objects))

-- where a predicate ends that breaks no rule
at_end : (test : CType → Bool) (it : c.Expression) (l : Known) (node n : ℕ) (facts : List Fact) (more : List Object) (j : Judged) → AllByRecursion IsFurther more
    → expression it as_value l ≡ finish node as_value j (record l { next = n; objects = l.objects ++ more; facts = facts }) → j.faults ≡ [] → faults_of_any l.structs as_value j.typed ≡ []
    → test (own_type (as_it_is_read j.typed)) ≡ true → IsAt test l it
at_end test it l node n facts more j f q h g t = (
  as_it_is_read j.typed,
  n,
  facts ++ fact_of node j.typed ∷ [],
  more,
  f,
  q ∙ finished_alone (record l { next = n; objects = l.objects ++ more; facts = facts }) node as_value j h g,
  t,
)

-- Two expressions that are gone over one after the other, and pass these tests.
record BothAt (first_test second_test : CType → Bool) (first second : Known → Outcome Typed) (l : Known) : Type 0 where
  x : Typed
  y : Typed
  next : ℕ
  facts : List Fact
  more : List Object
  further_ones : AllByRecursion IsFurther more
  goes : (rest : Typed → Typed → Known → Outcome Typed)
      → goes_on (first l) (λ x k. goes_on (second k) (λ y k. rest x y k)) ≡ rest x y (record l { next = next; objects = l.objects ++ more; facts = facts })
  first_passes : first_test (own_type x) ≡ true
  second_passes : second_test (own_type y) ≡ true

-- what is known behind the first of them
abbrev behind_first : (test : CType → Bool) (it : c.Expression) (l : Known) → IsAt test l it → Known
behind_first test it l found = record l { next = found.1; objects = l.objects ++ found.3; facts = found.2 }

both_by : (first_test second_test : CType → Bool) (it other : c.Expression) (role : Use) (l : Known) → ((k : Known) → expression it role k ≡ expression it as_value k)
    → ((k : Known) → expression other role k ≡ expression other as_value k) → (found : IsAt first_test l it) → IsAt second_test (behind_first first_test it l found) other
    → BothAt first_test second_test (expression it role) (expression other role) l
both_by first_test second_test it other role l v w found others = record {
  x = found.0;
  y = others.0;
  next = others.1;
  facts = others.2;
  more = found.3 ++ others.3;
  further_ones = all_both IsFurther found.3 others.3 found.4 others.4;
  goes = λ rest. ap (λ o. goes_on o (λ x k. goes_on (expression other role k) (λ y k. rest x y k))) (v l ∙ found.5)
      ∙ ap (λ o. goes_on o (λ y k. rest found.0 y k)) (w (behind_first first_test it l found) ∙ others.5)
      ∙ ap (λ os. rest found.0 others.0 (record l { next = others.1; objects = os; facts = others.2 })) (append_assoc l.objects found.3 others.3);
  first_passes = found.6;
  second_passes = others.6;
}

choice_good : (k : Known) (z x y : Typed) (s : Scalar) → is_scalar (own_type z) ≡ true → are_integers (own_type x) (own_type y) ≡ true → (conditional_as k z x y (Num s)).faults ≡ []
choice_good k z x y s h g = ap (λ t. unless t not_scalar ++ unless (can_be_chosen_from (own_type x) x.constancy (own_type y) y.constancy) bad_choice) h ∙ choice_taken x y g

chosen_by : (test it other : c.Expression) (l : Known) → expression test as_truth (record l { next = l.next + 1 }) ≡ expression test as_value (record l { next = l.next + 1 })
    → (tested : IsAt is_scalar (record l { next = l.next + 1 }) test)
    → BothAt is_integer is_integer (expression it as_value) (expression other as_value) (behind_first is_scalar test (record l { next = l.next + 1 }) tested) → IsAt is_integer l (c.Conditional test it other)
chosen_by test it other l v tested found =
    at_end is_integer (c.Conditional test it other) l l.next found.next found.facts (tested.3 ++ found.more) (conditional_as behind tested.0 found.x found.y (Num s)) (all_both IsFurther tested.3 found.more tested.4 found.further_ones)
    (ap (λ o. goes_on o (λ z k. goes_on (expression it as_value k) (λ x k. goes_on (expression other as_value k) (λ y k. finish l.next as_value (judge_conditional z x y k) k)))) (v ∙ tested.5)
    ∙ found.goes (λ x y k. finish l.next as_value (judge_conditional tested.0 x y k) k)
    ∙ ap (λ os. choice_end (record l { next = found.next; objects = os; facts = found.facts })) (append_assoc l.objects tested.3 found.more)
    ∙ ap (λ (j : Judged). finish l.next as_value j behind) (chosen_as tested.0 found.x found.y behind integers))
    (choice_good behind tested.0 found.x found.y s tested.6 integers) refl refl
  where
    behind : Known
    behind = record l { next = found.next; objects = l.objects ++ (tested.3 ++ found.more); facts = found.facts }

    s : Scalar
    s = usual_of l.model (scalar_in found.x) (scalar_in found.y)

    integers : are_integers (own_type found.x) (own_type found.y) ≡ true
    integers = and_from (is_integer (own_type found.x)) (is_integer (own_type found.y)) found.first_passes found.second_passes

    choice_end : Known → Outcome Typed
    choice_end k = finish l.next as_value (judge_conditional tested.0 found.x found.y k) k

module _ {new : ℕ → Bool} {used' : List ℕ} {known : Known} where
  both : (first_test second_test : CType → Bool) (it other : c.Expression) (role : Use) → ((k : Known) → expression it role k ≡ expression it as_value k)
      → ((k : Known) → expression other role k ≡ expression other as_value k) → IsThere first_test new used' known it → IsThere second_test new used' known other → {further : List Bool} {l : Known} → IsBeside new used' further known l
      → BothAt first_test second_test (expression it role) (expression other role) l
  both first_test second_test it other role v w p q {further} {l} b =
      let found = p.1 further l b in
      both_by first_test second_test it other role l v w found (q.1 (further ++ marked_further found.3) (behind_first first_test it l found) (behind_alone found.1 found.3 found.2 found.4 b))

  -- ---- operators

  pub negated : (it : c.Expression) → IsThere is_scalar new used' known it → IsThere is_integer new used' known (c.Unary unary.Not it)
  unfolding judge_not
  negated it p = (
    p.0,
    λ further l b.
        let first : Known = record l { next = l.next + 1 } in
        let found = p.1 further first (numbered_alone (l.next + 1) l.facts b) in
        at_end is_integer (c.Unary unary.Not it) l l.next found.1 found.2 found.3 (judge_not found.0) found.4
        (ap (λ o. goes_on o (λ x k. finish l.next as_value (judge_not x) k)) (truth_role it p.0 first ∙ found.5)) (ap (λ t. unless t not_scalar) found.6) refl refl,
  )

  pub connected : (op : LogicalOp) (it other : c.Expression) → IsThere is_scalar new used' known it → IsThere is_scalar new used' known other → IsThere is_integer new used' known (c.Logical op it other)
  unfolding judge_logical
  connected op it other p q = (
    and_from (is_pure it) (is_pure other) p.0 q.0,
    λ further l b.
        let found = both is_scalar is_scalar it other as_truth (truth_role it p.0) (truth_role other q.0) p q (numbered_alone (l.next + 1) l.facts b) in
        at_end is_integer (c.Logical op it other) l l.next found.next found.facts found.more (judge_logical op found.x found.y) found.further_ones
        (found.goes (λ x y k. finish l.next as_value (judge_logical op x y) k))
        (ap (λ t. unless t not_scalar) (and_from (is_scalar (own_type found.x)) (is_scalar (own_type found.y)) found.first_passes found.second_passes)) refl refl,
  )

  pub minus : (it : c.Expression) → IsThere is_integer new used' known it → IsThere is_integer new used' known (c.Unary unary.Minus it)
  unfolding judge_minus
  minus it p = (
    p.0,
    λ further l b.
        let first : Known = record l { next = l.next + 1 } in
        let found = p.1 further first (numbered_alone (l.next + 1) l.facts b) in
        let behind : Known = record l { next = found.1; objects = l.objects ++ found.3; facts = found.2 } in
        at_end is_integer (c.Unary unary.Minus it) l l.next found.1 found.2 found.3 (judge_minus found.0 behind) found.4
        (ap (λ o. goes_on o (λ x k. finish l.next as_value (judge_minus x k) k)) found.5) (ap (λ t. unless t operand_not_integer) found.6) refl refl,
  )

  pub operated : (op : Op) (it other : c.Expression) → IsThere is_integer new used' known it → IsThere is_integer new used' known other → IsThere is_integer new used' known (c.Binary op it other)
  operated op it other p q = (
    and_from (is_pure it) (is_pure other) p.0 q.0,
    λ further l b.
        let found = both is_integer is_integer it other as_value (λ k. refl) (λ k. refl) p q (numbered_alone (l.next + 1) l.facts b) in
        let behind : Known = record l { next = found.next; objects = l.objects ++ found.more; facts = found.facts } in
        at_end is_integer (c.Binary op it other) l l.next found.next found.facts found.more (judgement [] (on_integers behind op found.x found.y)) found.further_ones
        (found.goes (λ x y k. finish l.next as_value (judge_binary op x y k) k)
        ∙ ap (λ (j : Judged). finish l.next as_value j behind) (on_both op found.x found.y behind (and_from (is_integer (own_type found.x)) (is_integer (own_type found.y)) found.first_passes found.second_passes)))
        refl (good_by l.structs (is_relation op || is_equality op) (operation_type behind op found.x found.y)) (result_by (is_relation op || is_equality op) (operation_type behind op found.x found.y)),
  )

  pub chosen : (test it other : c.Expression) → IsThere is_scalar new used' known test → IsThere is_integer new used' known it → IsThere is_integer new used' known other
      → IsThere is_integer new used' known (c.Conditional test it other)
  chosen test it other o p q = (
    and_from (is_pure test && is_pure it) (is_pure other) (and_from (is_pure test) (is_pure it) o.0 p.0) q.0,
    λ further l b.
        let first : Known = record l { next = l.next + 1 } in
        let tested = o.1 further first (numbered_alone (l.next + 1) l.facts b) in
        chosen_by test it other l (truth_role test o.0 first) tested
        (both is_integer is_integer it other as_value (λ k. refl) (λ k. refl) p q (behind_alone tested.1 tested.3 tested.2 tested.4 b)),
  )

  pub integer_there : (it : c.Expression) → IsThere is_integer new used' known it → IsThere is_scalar new used' known it
  integer_there it p = (p.0, λ further l b. let found = p.1 further l b in (found.0, found.1, found.2, found.3, found.4, found.5, integer_scalar (own_type found.0) found.6))

  -- ---- names and constants

  -- the name of an object that breaks no rule where it is read
  pub name_there : (test : CType → Bool) (w : List ℕ) (n : ℕ) (is_register : Bool) → meaning_of w known ≡ Some (an_object n is_register)
      → faults_of_any known.structs as_value (object_named known n is_register) ≡ [] → test (own_type (as_it_is_read (object_named known n is_register))) ≡ true
      → IsThere test new used' known (c.Name w)
  unfolding judge_name
  name_there test w n is_register m h t = (
    refl,
    λ further l b.
        let first : Known = record l { next = l.next + 1 } in
        let there = numbered_alone (l.next + 1) l.facts b in
        let r = renumbered further in
        let a = agrees_so_far further in
        let x = object_named known n is_register in
        at_end test (c.Name w) l l.next (l.next + 1) l.facts [] (judgement [] (typed_with r x)) tt
        (ap (λ found. finish l.next as_value (judge_name as_value w found first) first) (meaning_known there r a w ∙ ap (option_map (entity_with r)) m)
        ∙ ap (λ (j : Judged). finish l.next as_value j first) (name_known there r a as_value w (Some (an_object n is_register)))
        ∙ ap (finish l.next as_value (judgement [] (typed_with r x))) (no_object l (l.next + 1) l.facts))
        refl (ap (λ structs. faults_of_any structs as_value (typed_with r x)) (structs_same b) ∙ any_with r known.structs as_value x ∙ h)
        (ap test (ap own_type (as_read_with r x) ∙ own_type_with r (as_it_is_read x)) ∙ t),
  )

  pub constant_there : (text : List ℕ) (found : TypedConstant) → constant_of known.model text ≡ Some found → IsThere is_integer new used' known (c.Constant text)
  unfolding judge_constant
  constant_there text found m = (
    refl,
    λ further l b.
        let first : Known = record l { next = l.next + 1 } in
        let x = constant found.type found.value in
        at_end is_integer (c.Constant text) l l.next (l.next + 1) l.facts [] (judgement [] x) tt
        (ap (λ it. finish l.next as_value (judge_constant it) first) (same_of (λ (it : Known). constant_of it.model text) b (λ r n os fs ls facts h. refl) ∙ m)
        ∙ ap (finish l.next as_value (judgement [] x)) (no_object l (l.next + 1) l.facts)) refl refl refl,
  )
