-- Pure expressions that are told apart are so where marks are added around them: what tells them apart is typed alike there, but for the numbers of objects.
use Rattle.std.proofs.Common.{◌≡◌, ℕ, [], refl, sym, ap, ◌∙◌, subst}
use Rattle.lt_model.specs.declared.operator.Op.TheVariants as O
use Rattle.lt_tree.specs.Tree as c
use Rattle.lt_tree.specs.Nodes.{in_expression}
use Rattle.lt_tree.specs.Typing.TypedTree as e
use Rattle.lt_tree.specs.Typing.TypedTree.{Value}
use Rattle.lt_tree.specs.Typing.Entities.{Known}
use Rattle.lt_tree.specs.Typing.Steps.{Outcome, Goes, goes_on}
use Rattle.lt_tree.specs.Typing.Expressions.{Typed, as_value, value_in, finish}
use Rattle.lt_tree.specs.Typing.BinaryOperations.{judge_binary}
use Rattle.lt_tree.specs.Typing.ExpressionTyping.{expression}
use Rattle.lt_ir.specs.Running.{At, marks}
use Rattle.lt_meaning.specs.Expressions.{Around, marked}
use Rattle.lt_mark_laws.specs.Laws.{is_quietly_true}
use Rattle.lt_mark_laws.specs.Mutants.{value_at, differ_as_values, entered, IsDifference}
use Rattle.lt_object_laws.specs.Renamed.{renumbered, value_with}
use Rattle.lt_mark_typing.specs.Renumbered.{typed_with}
use Rattle.lt_mark_typing.specs.Further.{Agrees}
use Rattle.lt_mark_typing.specs.Laws.{OthersAreTypedAlike}
use Rattle.lt_mark_typing.proofs.Numbers.{agrees_before, agrees_so_far}
use Rattle.lt_mark_typing.proofs.Going.{same_of, entered_beside}
use Rattle.lt_mark_typing.proofs.Nodes.{old_first, old_second}
use Rattle.lt_mark_typing.proofs.Renumbering.{value_in_with}
use Rattle.lt_mark_typing.proofs.Knowing.{binary_known}
use Rattle.lt_mark_typing.proofs.Ends.{finished_same}
use Rattle.lt_marked_places.specs.Laws.{DifferencesStay}
use Rattle.lt_marked_places.proofs.Both.{went_on, found_both}
use Rattle.lt_marked_places.proofs.Naming.{named, truth_same, value_at_same, noted_same}

-- behind the first part of a walk that goes on
through : {A B : Type 0} {o : Outcome A} (rest : A → Known → Outcome B) {a : A} {k : Known} {b : B} {j : Known} → o ≡ Goes a k → goes_on o rest ≡ Goes b j → rest a k ≡ Goes b j
through rest {b = b} {j = j} p h = subst (λ o. goes_on o rest ≡ Goes b j) p h

-- ---- the difference

-- the same difference, where objects have other numbers
module _ (r : ℕ → ℕ) {known : Known} {it other : c.Expression} {z : Typed} (d : IsDifference known it other z) where
  differs : (here : Around) (at : At) {x y : Typed} → x ≡ typed_with r d.left → y ≡ typed_with r d.right
      → differ_as_values (value_at (named here r) (value_in d.left) at) (value_at (named here r) (value_in d.right) at) ≡ differ_as_values (value_at here (value_in x) at) (value_at here (value_in y) at)
  differs here at {x} {y} p q = λ i. differ_as_values (at_value d.left p i) (at_value d.right q i)
    where
      at_value : {w : Typed} (v : Typed) → w ≡ typed_with r v → value_at (named here r) (value_in v) at ≡ value_at here (value_in w) at
      at_value v h = sym (ap (λ (w : Typed). value_at here (value_in w) at) h ∙ ap (λ v. value_at here v at) (value_in_with r v) ∙ value_at_same here r (value_in v) at)

  renamed : {there : Known} → there.model ≡ known.model → {x y w : Typed} {between behind : Known} → x ≡ typed_with r d.left → y ≡ typed_with r d.right → w ≡ typed_with r z
      → expression it as_value (entered there) ≡ Goes x between → expression other as_value between ≡ Goes y behind → IsDifference there it other w
  renamed model {x} {y} {w} {between} {behind} p q h first second =
      let same : value_in w ≡ value_with r (value_in z) = ap value_in h ∙ value_in_with r z in
      record {
        left = x;
        right = y;
        between = between;
        behind = behind;
        left_typed = first;
        right_typed = second;
        truth = λ here at m. ap (λ v. is_quietly_true here v at) same ∙ truth_same here r (value_in z) at ∙ d.truth (named here r) at (m ∙ model) ∙ differs here at p q;
        noted = λ here at id m.
            ap (λ v. marked here (e.mark v id e.no_bindings) at) same ∙ noted_same here r (e.mark (value_in z) id e.no_bindings) at ∙ d.noted (named here r) at id (m ∙ model)
            ∙ ap (λ b. marks id b [] at) (differs here at p q);
      }

pub differences : OthersAreTypedAlike → DifferencesStay
differences alike new ids further known there behind it other z pure pure_other old b h told = λ w last g.
    let d = told z behind h in
    let one = went_on (expression it as_value (entered there)) (λ x k. goes_on (expression other as_value k) (λ y k. finish there.next as_value (judge_binary O.Ne x y k) k)) g in
    let two = went_on (expression other as_value one.1) (λ y k. finish there.next as_value (judge_binary O.Ne one.0 y k) k) one.3 in
    let first = found_both (alike new as_value ids further (entered known) (entered there) it (old_first new (in_expression it) (in_expression other) old.1) (entered_beside b)) d.left_typed one.2 in
    let second = found_both (alike new as_value ids first.0 d.between one.1 other (old_second new (in_expression it) (in_expression other) old.1) first.2) d.right_typed two.2 in
    let left : (r : ℕ → ℕ) → Agrees r second.0 → one.0 ≡ typed_with r d.left = λ r a. first.1 r (agrees_before second.3 a) in
    let whole = found_both (finished_same known.next there.next as_value (judge_binary O.Ne d.left d.right d.behind) (judge_binary O.Ne one.0 two.0 two.1)
    (λ r a. ap (λ x. judge_binary O.Ne x two.0 two.1) (left r a) ∙ ap (λ y. judge_binary O.Ne (typed_with r d.left) y two.1) (second.1 r a) ∙ binary_known second.2 r a O.Ne d.left d.right) second.2)
    (through (λ y k. finish known.next as_value (judge_binary O.Ne d.left y k) k) d.right_typed
    (through (λ x k. goes_on (expression other as_value k) (λ y k. finish known.next as_value (judge_binary O.Ne x y k) k)) d.left_typed h)) two.3 in
    let r = renumbered whole.0 in
    let now : Agrees r second.0 = agrees_before {r = r} {further = second.0} {behind = whole.0} whole.3 (agrees_so_far whole.0) in
    renamed r d (same_of (λ (it : Known). it.model) b (λ r n os fs ls facts h. refl)) (left r now) (second.1 r now) (whole.1 r (agrees_so_far whole.0)) one.2 two.2
