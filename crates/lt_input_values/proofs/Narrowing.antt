-- Numbers within bounds, and what functions without a body may give.
use Rattle.std.proofs.Common.{◌≡◌, ℤ, ◌≤ℤ◌, ℕ, ◌+◌, ◌<◌, Bool, true, false, cond, List, [], ◌∷◌, Option, length, get_or, take, refl, subst, sym, ap, ◌∙◌, arith}
use Rattle.std.specs.Prelude.{◌&&◌, ◌||◌, not, int_le, int_lt, None, Some}
use Rattle.std.specs.Int.{int_max, int_min}
use Rattle.std.specs.List.{list_all}
use Rattle.std.proofs.lemmas.Int.{ints, to_z-of_z}
use mir.Syntax.{w128}
use mir.Val.{SFits, to_z, of_z}
use Rattle.std.specs.Str.{bytes_eq}
use Rattle.std.proofs.lemmas.Slice.Eq.{bytes_eq-Decides}
use Rattle.lt_model.specs.declared.input.StubRange.{StubRange}
use Rattle.lt_input_values.specs.Finding.{is_within, is_in_range, may_give}
use Rattle.std.proofs.lemmas.List.Folds.{list_all_more}
use Rattle.lt_input_values.proofs.Truths.{both, join}
use Rattle.lt_input_values.proofs.Numbers.{told}
use Rattle.lt_input_values.proofs.Values.{same_bools}
use Rattle.lt_input_values.proofs.Swaps.{and_swap}

le_test : (a b : ℤ) → a ≤ℤ b → int_le a b ≡ true
le_test a b h = sym (omega (arith, ints))

max_by : (a b z : ℤ) (t : Bool) → int_lt b a ≡ t → int_le (cond t a b) z ≡ (int_le a z && int_le b z)
max_by a b z true e =
    same_bools (int_le a z) (int_le a z && int_le b z) (λ h. join (int_le a z) (int_le b z) h (le_test b z (omega (arith, ints, sym e, told a z h)))) (λ h. (both (int_le a z) (int_le b z) h).0)
max_by a b z false e =
    same_bools (int_le b z) (int_le a z && int_le b z) (λ h. join (int_le a z) (int_le b z) (le_test a z (omega (arith, ints, sym e, told b z h))) h) (λ h. (both (int_le a z) (int_le b z) h).1)

min_by : (a b z : ℤ) (t : Bool) → int_lt b a ≡ t → int_le z (cond t b a) ≡ (int_le z a && int_le z b)
min_by a b z true e =
    same_bools (int_le z b) (int_le z a && int_le z b) (λ h. join (int_le z a) (int_le z b) (le_test z a (omega (arith, ints, sym e, told z b h))) h) (λ h. (both (int_le z a) (int_le z b) h).1)
min_by a b z false e =
    same_bools (int_le z a) (int_le z a && int_le z b) (λ h. join (int_le z a) (int_le z b) h (le_test z b (omega (arith, ints, sym e, told z a h)))) (λ h. (both (int_le z a) (int_le z b) h).0)

-- The greater of two least numbers and the less of two greatest ones bound what lies in both ranges.
pub narrower : (low high lo hi z : ℤ) → (int_le (int_max low lo) z && int_le z (int_min high hi)) ≡ ((int_le low z && int_le z high) && (int_le lo z && int_le z hi))
narrower low high lo hi z =
    let above : int_le (int_max low lo) z ≡ (int_le low z && int_le lo z) = max_by low lo z (int_lt lo low) refl in
    let below : int_le z (int_min high hi) ≡ (int_le z high && int_le z hi) = min_by high hi z (int_lt hi high) refl in
    rw (above, below) (and_swap (int_le low z) (int_le lo z) (int_le z high) (int_le z hi))

-- a number as it is kept
abbrev kept : ℤ → ℤ
kept z = to_z w128 (of_z w128 z)

-- The same of numbers as they are kept.
pub narrower_kept : (low high lo hi a b z : ℤ) → SFits w128 low → SFits w128 high → SFits w128 lo → SFits w128 hi → SFits w128 a → SFits w128 b → a ≡ int_max (to_z w128 (of_z w128 low)) (to_z w128 (of_z w128 lo)) → b ≡ int_min (to_z w128 (of_z w128 high)) (to_z w128 (of_z w128 hi)) → (int_le (to_z w128 (of_z w128 a)) z && int_le z (to_z w128 (of_z w128 b))) ≡ ((int_le low z && int_le z high) && (int_le lo z && int_le z hi))
narrower_kept low high lo hi a b z fl fh gl gh f g above below =
    let top : a ≡ int_max low lo = above ∙ ap (λ t. int_max t (kept lo)) (to_z-of_z w128 low fl) ∙ ap (int_max low) (to_z-of_z w128 lo gl) in
    let bottom : b ≡ int_min high hi = below ∙ ap (λ t. int_min t (kept hi)) (to_z-of_z w128 high fh) ∙ ap (int_min high) (to_z-of_z w128 hi gh) in
    ap (λ t. int_le t z && int_le z (kept b)) (to_z-of_z w128 a f ∙ top)
    ∙ ap (λ t. int_le (int_max low lo) z && int_le z t) (to_z-of_z w128 b g ∙ bottom)
    ∙ narrower low high lo hi z

-- Without bounds each number is within them.
pub unbounded : (zs : List ℤ) → true ≡ list_all (is_within None) zs
unbounded [] = refl
unbounded (z ∷ zs) = unbounded zs

-- ---- one more range

-- the number is in this range, if it is one of this name
abbrev may_be : StubRange → List ℕ → ℤ → Bool
may_be range name z = not (bytes_eq name range.name) || is_in_range range z

may_more : (ranges : List StubRange) (i : ℕ) (range : StubRange) (name : List ℕ) (z : ℤ) → i < length ranges → range ≡ get_or ranges i range → may_give (take (i + 1) ranges) name z ≡ (may_give (take i ranges) name z && may_be range name z)
may_more ranges i range name z h is = list_all_more (λ (it : StubRange). may_be it name z) ranges i range h ∙ ap (λ it. may_give (take i ranges) name z && may_be it name z) (sym is)

pub narrowed_more : (ranges : List StubRange) (i : ℕ) (range : StubRange) (name : List ℕ) (z : ℤ) (old new : Bool) → i < length ranges → range ≡ get_or ranges i range → bytes_eq name range.name ≡ true → new ≡ (old && is_in_range range z) → old ≡ may_give (take i ranges) name z → new ≡ may_give (take (i + 1) ranges) name z
narrowed_more ranges i range name z old new h is named e before =
    e ∙ ap (λ b. b && is_in_range range z) before
    ∙ sym (may_more ranges i range name z h is ∙ ap (λ t. may_give (take i ranges) name z && (not t || is_in_range range z)) named)

and_true : (a : Bool) → (a && true) ≡ a
and_true true = refl
and_true false = refl

pub kept_more : (ranges : List StubRange) (i : ℕ) (range : StubRange) (name : List ℕ) (z : ℤ) (old : Bool) → i < length ranges → range ≡ get_or ranges i range → bytes_eq name range.name ≡ false → old ≡ may_give (take i ranges) name z → old ≡ may_give (take (i + 1) ranges) name z
kept_more ranges i range name z old h is other before =
    before ∙ sym (may_more ranges i range name z h is ∙ ap (λ t. may_give (take i ranges) name z && (not t || is_in_range range z)) other ∙ and_true (may_give (take i ranges) name z))

same_name : (a : List ℕ) → bytes_eq a a ≡ true
same_name a = (bytes_eq-Decides a a).1 refl

turned : (a b : List ℕ) (t : Bool) → bytes_eq b a ≡ t → bytes_eq a b ≡ false → t ≡ false
turned a b true e h = let is : bytes_eq a b ≡ true = (bytes_eq-Decides a b).1 (sym ((bytes_eq-Decides b a).0 e)) in absurd (cc)
turned a b false e h = refl

-- The bounds in a map behind those of one more range.
pub put_more : (ranges : List StubRange) (i : ℕ) (range : StubRange) (name : List ℕ) (z : ℤ) (old new here : Option (ℤ × ℤ)) (put : ℤ × ℤ) (t : Bool) → i < length ranges → range ≡ get_or ranges i range → bytes_eq range.name name ≡ t → new ≡ cond t (Some put) old → is_within (Some put) z ≡ (is_within here z && is_in_range range z) → is_within here z ≡ may_give (take i ranges) range.name z → is_within old z ≡ may_give (take i ranges) name z → is_within new z ≡ may_give (take (i + 1) ranges) name z
put_more ranges i range name z old new here put true h is named e narrow there before =
    ap (λ o. is_within o z) e
    ∙ subst (λ w. is_within (Some put) z ≡ may_give (take (i + 1) ranges) w z) ((bytes_eq-Decides range.name name).0 named)
    (narrowed_more ranges i range range.name z (is_within here z) (is_within (Some put) z) h is (same_name range.name) narrow there)
put_more ranges i range name z old new here put false h is named e narrow there before =
    ap (λ o. is_within o z) e
    ∙ kept_more ranges i range name z (is_within old z) h is (turned range.name name (bytes_eq name range.name) refl named) before
