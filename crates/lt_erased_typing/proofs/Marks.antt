-- Nodes of marks: the expression behind them is the same without them.
use Rattle.std.proofs.Common.{◌≡◌, ℕ, List, [], Bool, true, false, refl, sym, ap, ◌∙◌, subst, inr}
use Rattle.std.proofs.lemmas.Bool.{false≢true, and_parts}
use Rattle.std.specs.Prelude.{◌==◌, ◌&&◌, not}
use Rattle.lt_tree.specs.Typing.Types.{CType, is_scalar}
use Rattle.lt_tree.specs.Typing.Constants.{varying}
use Rattle.lt_tree.specs.Typing.Rules.{bad_mark}
use Rattle.lt_tree.specs.Typing.TypedTree as e
use Rattle.lt_tree.specs.Typing.TypedTree.{Value, type_of}
use Rattle.lt_tree.specs.Typing.Entities.{Known}
use Rattle.lt_tree.specs.Typing.Expressions.{Form, a_value, a_place, a_designator, Typed, Use, as_value, as_truth, as_place, as_callee, own_type, value_in, used}
use Rattle.lt_tree.specs.Typing.MarkRules.{judge_marked, judge_decide, judge_after, after_of, number_of_id, is_truth, is_good_decision, is_good_id, is_tag}
use Rattle.lt_erased_typing.proofs.Operands.{IsKin, AreValues, values, BareValue, BareTruth, value_read, kin_varying}
use Rattle.lt_erased_typing.proofs.Ends.{unless_true}

values_by : {f g : Form} (v : Value) → AreValues f g → type_of v ≡ elim (f) as (λ _. CType) [ a_value w ↦ type_of w | a_place place ↦ own_type (record { form = a_place place; is_register = false; is_after = false; constancy = varying; erased = varying }) | a_designator name type ↦ type ]
    → AreValues (a_value v) g
values_by v (values h) t = values (h ∙ sym t)

-- a value behind marks, which varies
abbrev behind : Typed → Value → Bool → Typed
behind x v is_after = record { form = a_value v; is_register = x.is_register; is_after = is_after; constancy = varying; erased = x.erased }

module _ {x y : Typed} (v : Value) (is_after : Bool) (t : type_of v ≡ own_type x) where
  marked_value : BareValue x y → BareValue (behind x v is_after) y
  marked_value p = record {
    form = values_by v p.form t;
    register = p.register;
    constancy = subst (λ u. IsKin u varying x.erased y.constancy) (sym t) (record {
      sees = record { bare = p.constancy.sees.bare; hidden = inr refl };
      marked = (kin_varying (own_type x)).marked;
      erasure = p.constancy.erasure;
      bare = p.constancy.bare;
    });
  }

  marked_truth : BareTruth x y → BareTruth (behind x v is_after) y
  marked_truth p = record { scalar = λ s. p.scalar (ap is_scalar (sym t) ∙ s); value = refl; constancy = record { bare = p.constancy.bare; hidden = inr refl } }

decided_scalar : (x : Typed) (when_true when_false tag : List ℕ) (k : Known) → is_good_decision as_truth k x when_true when_false tag ≡ true → is_scalar (own_type x) ≡ true
decided_scalar x when_true when_false tag k h =
    let scalar = is_scalar (own_type x) in
    let front = is_truth as_truth && not k.is_unmarked && scalar in
    let one = is_good_id k when_true in
    let two = is_good_id k when_false in
    let three = not (number_of_id when_true == number_of_id when_false) in
    (and_parts (is_truth as_truth && not k.is_unmarked) scalar
    (and_parts front one (and_parts (front && one) two (and_parts (front && one && two) three (and_parts (front && one && two && three) (is_tag tag) h).0).0).0).0).1

module _ {x y : Typed} where
  pub marks_value : (ms : e.Marks) → BareValue x y → BareValue (used as_value (judge_marked ms x).typed) y
  unfolding judge_marked
  marks_value ms p = marked_value (e.Marked (own_type x) ms (value_in x)) false refl p

  pub marks_truth : (ms : e.Marks) → BareTruth x y → BareTruth (used as_truth (judge_marked ms x).typed) y
  unfolding judge_marked
  marks_truth ms p = marked_truth (e.Marked (own_type x) ms (value_in x)) false refl p

  pub after_value : (id tag : List ℕ) (k : Known) → BareValue x y → BareValue (used as_value (judge_after as_value x id tag k).typed) y
  unfolding judge_after
  after_value id tag k p = subst (λ z. BareValue (after_of z (number_of_id id)) y) (sym (value_read p)) (marked_value (e.After (own_type x) (value_in x) (number_of_id id)) true refl p)

  pub after_truth : (id tag : List ℕ) (k : Known) → BareTruth x y → BareTruth (used as_truth (judge_after as_truth x id tag k).typed) y
  unfolding judge_after
  after_truth id tag k p = subst (λ z. BareTruth (after_of z (number_of_id id)) y) (sym p.value) (marked_truth (e.After (own_type x) (value_in x) (number_of_id id)) true refl p)

  pub decide_truth : (when_true when_false tag : List ℕ) (k : Known) → BareTruth x y → (judge_decide as_truth x when_true when_false tag k).faults ≡ [] → BareTruth (used as_truth (judge_decide as_truth x when_true when_false tag k).typed) y
  unfolding judge_decide
  decide_truth when_true when_false tag k p h = record {
    scalar = λ s. p.scalar (decided_scalar x when_true when_false tag k (unless_true (is_good_decision as_truth k x when_true when_false tag) bad_mark h));
    value = refl;
    constancy = record { bare = p.constancy.bare; hidden = inr refl };
  }

-- a `pc_decide` stands where a truth is used
pub decides_a_truth : (role : Use) (x : Typed) (when_true when_false tag : List ℕ) (k : Known) → is_truth role ≡ false → (judge_decide role x when_true when_false tag k).faults ≡ [] → ⊥
unfolding judge_decide
decides_a_truth as_value x when_true when_false tag k r h = false≢true (unless_true false bad_mark h)
decides_a_truth as_truth x when_true when_false tag k r h = false≢true (sym r)
decides_a_truth as_place x when_true when_false tag k r h = false≢true (unless_true false bad_mark h)
decides_a_truth as_callee x when_true when_false tag k r h = false≢true (unless_true false bad_mark h)
