-- What is made in a position, where objects have other numbers, and the ends of marks that stand in both texts.
use Rattle.std.proofs.Common.{◌≡◌, ℕ, List, [], Bool, true, false, refl, sym, ap, ◌∙◌, subst, inl, inr}
use Rattle.std.specs.Prelude.{◌++◌, ◌⊎◌, ◌==◌, ◌&&◌, not}
use Rattle.lt_model.specs.declared.scalar.Scalar.TheVariants as S
use Rattle.lt_tree.specs.declared.expression.UnaryOp.{UnaryOp}
use Rattle.lt_tree.specs.declared.expression.UnaryOp.TheVariants as unary
use Rattle.lt_tree.specs.Typing.Types.{CType, Num, is_scalar}
use Rattle.lt_tree.specs.Typing.Extents.{Structs, has_too_many_cells}
use Rattle.lt_tree.specs.Typing.Rules.{Rule, unless, bad_mark, broken_if, floating_type, bad_length, function_as_value}
use Rattle.lt_tree.specs.Typing.TypedTree as e
use Rattle.lt_tree.specs.Typing.TypedTree.{Value, Marks}
use Rattle.lt_tree.specs.Typing.Entities.{Known}
use Rattle.lt_tree.specs.Typing.Expressions.{Typed, Use, as_value, as_truth, as_place, as_callee, own_type, value_in, Judged, has_floating, has_pointer_to_function, finish}
use Rattle.lt_tree.specs.Typing.MarkRules.{is_good_id, number_of_id, is_tag, is_good_decision, judge_decide, judge_marked, judge_after, inside_mark, is_lvalue_in_use}
use Rattle.lt_tree.specs.Typing.NodeEnds.{operand_of, also}
use Rattle.lt_mark_laws.specs.Added as a
use Rattle.lt_mark_laws.specs.Added.{Adds, AddsTruth, can_be_marked, AddsMarks}
use Rattle.lt_object_laws.specs.Renamed.{renumbered, value_with, marks_with}
use Rattle.lt_mark_typing.specs.Renumbered.{form_with, typed_with}
use Rattle.lt_mark_typing.specs.Further.{Agrees}
use Rattle.lt_mark_typing.specs.Beside.{IsBeside, values, AddsMade, AddsTest, Position, in_use, in_test, use_of, AddsAt, AddsWith, Follows}
use Rattle.lt_mark_typing.specs.Placed.{IsMarkable, is_good_type, IsNoNull, position_of, behind_marks}
use Rattle.lt_mark_typing.proofs.Numbers.{agrees_so_far}
use Rattle.lt_mark_typing.proofs.Going.{so}
use Rattle.lt_mark_typing.proofs.Operands.{AddsJudged, made_in_use, no_null, made_itself, typed_itself, test_of, type_same, value_adds, lvalue_same, valued_adds, as_read}
use Rattle.lt_mark_typing.proofs.Operators.{left_empty, right_empty, empty_both, unless_more, scalar_more}
use Rattle.lt_mark_typing.proofs.Renumbering.{judged_with, own_type_with, value_in_with, counts_as_null_with}
use Rattle.lt_mark_typing.proofs.Ends.{ended, finished}
use Rattle.lt_mark_typing.proofs.OneOperand.{marked_with}

-- ---- positions

-- what is made in a position, of which nothing is said as a null pointer constant
abbrev pub MadeAt : (ℕ → Bool) → Position → Typed → Typed → Type 0
MadeAt new (in_use role) x y = AddsMade new x y
MadeAt new in_test x y = AddsTest new x y

-- so where the first one's objects have the numbers that r gives
abbrev pub MadeWith : (ℕ → Bool) → Position → (ℕ → ℕ) → Typed → Typed → Type 0
MadeWith new position r x y = MadeAt new position (typed_with r x) y

pub made_at : {new : ℕ → Bool} (position : Position) {x y : Typed} → AddsMade new x y → MadeAt new position x y
made_at (in_use role) m = m
made_at in_test m = test_of m

pub placed_at : (new : ℕ → Bool) (position : Position) (x y : Typed) → IsNoNull position x → MadeAt new position x y → AddsAt new position x y
placed_at new (in_use as_truth) x y h m = m
placed_at new (in_use as_value) x y h m = no_null h m
placed_at new (in_use as_place) x y h m = no_null h m
placed_at new (in_use as_callee) x y h m = no_null h m
placed_at new in_test x y h m = m

pub at_itself : (new : ℕ → Bool) (position : Position) (x : Typed) → AddsAt new position x x
at_itself new (in_use as_truth) x = made_itself x
at_itself new (in_use as_value) x = typed_itself x
at_itself new (in_use as_place) x = typed_itself x
at_itself new (in_use as_callee) x = typed_itself x
at_itself new in_test x = test_of (made_itself x)

pub use_same : (op : UnaryOp) → use_of (position_of op) ≡ operand_of op
use_same unary.AddressOf = refl
use_same unary.Dereference = refl
use_same unary.Plus = refl
use_same unary.Minus = refl
use_same unary.Complement = refl
use_same unary.Not = refl

pub use_behind : (position : Position) → use_of (behind_marks position) ≡ inside_mark (use_of position)
use_behind in_test = refl
use_behind (in_use role) = refl

-- ---- where objects have other numbers

module _ (r : ℕ → ℕ) where
  pub no_null_with : (position : Position) (x : Typed) → IsNoNull position x → IsNoNull position (typed_with r x)
  no_null_with in_test x h = tt
  no_null_with (in_use as_truth) x h = tt
  no_null_with (in_use as_value) x h = counts_as_null_with r x ∙ h
  no_null_with (in_use as_place) x h = counts_as_null_with r x ∙ h
  no_null_with (in_use as_callee) x h = counts_as_null_with r x ∙ h

  marked_too : (v : Value) → can_be_marked (value_with r v) ≡ can_be_marked v
  marked_too (e.Convert how t v) = refl
  marked_too (e.Call t f vs) = refl
  marked_too v = refl

  pub markable_with : (position : Position) (x : Typed) → IsMarkable position x → IsMarkable position (typed_with r x)
  markable_with in_test x h = tt
  markable_with (in_use role) x h = (value_with r h.0, ap (form_with r) h.1, marked_too h.0 ∙ h.2)

  pub good_type_with : (structs : Structs) (x : Typed) → is_good_type structs (own_type x) ≡ true → is_good_type structs (own_type (typed_with r x)) ≡ true
  good_type_with structs x h = ap (is_good_type structs) (own_type_with r x) ∙ h

  pub scalar_with : (x : Typed) → is_scalar (own_type x) ≡ true → is_scalar (own_type (typed_with r x)) ≡ true
  scalar_with x h = ap is_scalar (own_type_with r x) ∙ h

module _ {new : ℕ → Bool} where
  -- ---- what is judged of both

  -- what the first text judges, with the numbers that objects have in the second
  pub from_first : {j j' i : Judged} → j ≡ j' → AddsJudged new j i → AddsJudged new j' i
  from_first {i = i} h d = subst (λ (j : Judged). AddsJudged new j i) h d

  -- where fewer rules may be broken
  pub there_too : {j i i' : Judged} → (i.faults ≡ [] → i'.faults ≡ []) → i'.typed ≡ i.typed → AddsJudged new j i → AddsJudged new j i'
  there_too {j} f h d = record { faults = λ g. f (d.faults g); typed = subst (AddsMade new j.typed) (sym h) d.typed }

  pub also_adds : {j i : Judged} (faults : List Rule) → AddsJudged new j i → AddsJudged new (also faults j) (also faults i)
  also_adds {j} {i} faults d = record { faults = λ h. empty_both faults i.faults (left_empty faults j.faults h) (d.faults (right_empty faults j.faults h)); typed = d.typed }

  pub end_at : {used' : List ℕ} {further : List Bool} {k l : Known} (position : Position) (n m : ℕ) (j i : Judged) → ((r : ℕ → ℕ) → Agrees r further → AddsJudged new (judged_with r j) i)
      → IsBeside new used' further k l → Follows new used' further (MadeWith new position) (finish n (use_of position) j k) (finish m (use_of position) i l)
  end_at position n m j i d b = so (λ r x y. made_at position) (finished n m (use_of position) j i d b)

-- ---- the ends of marks

-- what is judged of a value of this type
abbrev value_faults : Structs → CType → List Rule
value_faults structs t = broken_if floating_type (has_floating t) ++ broken_if bad_length (has_too_many_cells structs t) ++ broken_if function_as_value (has_pointer_to_function t) ++ []

test_faults_more : (structs : Structs) (t u : CType) → (u ≡ t) ⊎ (u ≡ Num S.Int) → value_faults structs t ≡ [] → value_faults structs u ≡ []
test_faults_more structs t u (inl h) q = ap (value_faults structs) h ∙ q
test_faults_more structs t u (inr h) q = ap (value_faults structs) h

decision_more : (before' s t g h i j : Bool) → (s ≡ true → t ≡ true) → before' && s && g && h && i && j ≡ true → before' && t && g && h && i && j ≡ true
decision_more before' true t g h i j f q = ap (λ it. before' && it && g && h && i && j) (f refl) ∙ q
decision_more true false t g h i j f q = absurd cc
decision_more false false t g h i j f q = absurd cc

module _ {new : ℕ → Bool} where
  marked_adds : {t u : CType} {ts us : Marks} {v w : Value} → u ≡ t → AddsMarks new ts us → Adds new v w → Adds new (e.Marked t ts v) (e.Marked u us w)
  marked_adds {t} {u} {ts} {us} {v} {w} h d f = subst (λ it. Adds new (e.Marked t ts v) (e.Marked it us w)) (sym h) (a.Marked d f)

  after_adds : {t u : CType} {v w : Value} (id : ℕ) → u ≡ t → Adds new v w → Adds new (e.After t v id) (e.After u w id)
  after_adds {t} {u} {v} {w} id h f = subst (λ it. Adds new (e.After t v id) (e.After it w id)) (sym h) (a.After f)

  -- what is used as more than a test
  marked_judged : (x y : Typed) {ts us : Marks} → AddsMade new x y → AddsMarks new ts us → AddsJudged new (judge_marked ts x) (judge_marked us y)
  unfolding judge_marked
  marked_judged x y p d = record {
    faults = λ h. h;
    typed = record { form = values (marked_adds (type_same p) d (value_adds p)); register = p.register; constancy = inl refl };
  }

  tested_type : (r : ℕ → ℕ) (x y : Typed) → AddsTest new (typed_with r x) y → (own_type y ≡ own_type x) ⊎ (own_type y ≡ Num S.Int)
  tested_type r x y p = subst (λ t. (own_type y ≡ t) ⊎ (own_type y ≡ Num S.Int)) (own_type_with r x) p.type

  pub marked_end : {used' : List ℕ} {further : List Bool} {k l : Known} (x y : Typed) (ts us : Marks) (position : Position) (n m : ℕ)
      → ((r : ℕ → ℕ) → Agrees r further → AddsWith new (behind_marks position) r x y) → ((r : ℕ → ℕ) → Agrees r further → AddsMarks new (marks_with r ts) us) → IsBeside new used' further k l
      → Follows new used' further (MadeWith new position) (finish n (use_of position) (judge_marked ts x) k) (finish m (use_of position) (judge_marked us y) l)
  unfolding judge_marked
  marked_end x y ts us (in_use role) n m p d b =
      finished n m role (judge_marked ts x) (judge_marked us y) (λ r g. from_first (marked_with r ts x) (marked_judged (typed_with r x) y (made_in_use (inside_mark role) (p r g)) (d r g))) b
  marked_end {further = further} x y ts us in_test n m p d b =
      ended n m as_truth (judge_marked ts x) (judge_marked us y) (λ h. h)
      (λ structs h. test_faults_more structs (own_type x) (own_type y) (tested_type (renumbered further) x y (p (renumbered further) (agrees_so_far further))) h)
      (λ r g. record {
        value = a.behind (d r g) (subst (λ v. AddsTruth new v (value_in y)) (value_in_with r x) (p r g).value);
        type = tested_type r x y (p r g);
        constancy = inl refl;
      }) b

  pub decide_adds : {x y : Typed} (when_true when_false tag : List ℕ) (known : Known) → AddsTest new x y → AddsJudged new (judge_decide as_truth x when_true when_false tag known) (judge_decide as_truth y when_true when_false tag known)
  unfolding judge_decide
  decide_adds {x} {y} when_true when_false tag known p = record {
    faults = unless_more bad_mark (is_good_decision as_truth known x when_true when_false tag) (is_good_decision as_truth known y when_true when_false tag)
        (decision_more (not known.is_unmarked) (is_scalar (own_type x)) (is_scalar (own_type y)) (is_good_id known when_true) (is_good_id known when_false)
        (not (number_of_id when_true == number_of_id when_false)) (is_tag tag) (scalar_more p));
    typed = valued_adds (a.Decide p.value) (inl refl);
  }

  in_use_same : {x y : Typed} (role : Use) → AddsMade new x y → is_lvalue_in_use role y ≡ is_lvalue_in_use role x
  in_use_same as_place p = lvalue_same p
  in_use_same as_value p = refl
  in_use_same as_truth p = refl
  in_use_same as_callee p = refl

  pub after_judged : {x y : Typed} (role : Use) (id tag : List ℕ) (known : Known) → AddsMade new x y → AddsJudged new (judge_after role x id tag known) (judge_after role y id tag known)
  unfolding judge_after
  after_judged {x} {y} role id tag known p = record {
    faults = λ h. ap (λ it. unless (not it && not known.is_unmarked && is_good_id known id && is_tag tag) bad_mark) (in_use_same role p) ∙ h;
    typed = record {
      form = values (after_adds (number_of_id id) (type_same (as_read p)) (value_adds (as_read p)));
      register = (as_read p).register;
      constancy = inl refl;
    };
  }
