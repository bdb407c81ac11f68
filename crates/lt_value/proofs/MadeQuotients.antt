-- The entries that the code makes of quotients and remainders are the table's rows.
use Rattle.std.proofs.Common.{arith, ◌≡◌, ◌≢◌, refl, sym, ◌∙◌, ap, ap₂, subst, ℕ, ℤ, pos, negsuc, suc, zero, ◌≤ℤ◌, ◌≤◌, ◌-◌, ◌^◌, ◌⊎◌, inl, inr, ◌↔◌, Bool, true, false, to_z, of_z}
use Rattle.std.specs.Prelude.{unsigned_abs, neg_ℤ, int_div, int_lt, ◌==◌, if◌then◌else◌, Option, IfSome, IfNone}
use Rattle.std.specs.Int.{int_min, int_max, IsGcd, w128}
use mir.Val.{SFits}
use Rattle.std.proofs.lemmas.Int.{ints, clamps, to_z-of_z}
use Rattle.std.proofs.lemmas.Bool.{eq-eqb}
use Rattle.std.proofs.Math.Nat.{dvd_trans}
use Rattle.std.proofs.Math.Dec.{eqb-suc-zero}
use Rattle.lt_model.specs.declared.scalar.DataModel.{DataModel}
use Rattle.lt_model.specs.declared.scalar.Scalar.{Scalar}
use Rattle.lt_model.specs.Scalar.{least_of, greatest_of, IsValue}
use Rattle.lt_model.proofs.Ranges.{bounds_of}
use Rattle.lt_value.specs.Num.{Holds, IsExactly, IsEmpty}
use Rattle.lt_value.specs.Refine.{IsFrom, IsUpTo}
use Rattle.lt_value.specs.Entry.{entry_of, IsIn, IsCongruent, IsSettled, written, rest_of, gcd_of}
use Rattle.lt_value.specs.Table.{IsEndOf, IsPositiveIn, IsNegativeIn, IsEndQuotient, IsBetween, IsSpan, least_corner, greatest_corner, greatest_remainder, low_remainder, high_remainder, remainder_row}
use Rattle.lt_value.specs.declared.num.Num.{Num}
use Rattle.lt_value.proofs.Members.{lo_holds, hi_holds}
use Rattle.lt_value.proofs.Cuts.{if_some_as, if_none_as}
use Rattle.lt_value.proofs.Entries.{one_congruent, member_congruent, gcd_is, IsGcd-gcd_of, IsCongruent-trans, IsCongruent-sym}
use Rattle.lt_value.proofs.Corners.{four_least, four_greatest}
use Rattle.lt_value.proofs.Settling.{exactly_as, empty_as, some_as, none_as}
use Rattle.lt_value.proofs.Made.{within_settled, small_fits}

-- ---- divisors of one sign
-- an end of the dividends by an end of a set
abbrev IsPart : (ℤ → Type 0) → Num → ℤ → Type 0
IsPart set a v = (d : ℤ) × IsEndOf set d × ((v ≡ int_div a.lo d) ⊎ (v ≡ int_div a.hi d))

abbrev IsSame : (ℤ → Type 0) → Num → Type 0
IsSame set p = (y : ℤ) → Holds p y ↔ set y

end_is : (set : ℤ → Type 0) (p : Num) (d : ℤ) → IsSame set p → IsEndOf set d → (d ≡ p.lo) ⊎ (d ≡ p.hi)
end_is set p d is (h, e) = elim e [
  | inl least ↦ inl (omega (arith, ints, ((is d).1 h).above, least p.lo ((is p.lo).0 (lo_holds p))))
  | inr most ↦ inr (omega (arith, ints, ((is d).1 h).below, most p.hi ((is p.hi).0 (hi_holds p))))
]

first_end : (set : ℤ → Type 0) (p : Num) → IsSame set p → IsEndOf set p.lo
first_end set p is = ((is p.lo).0 (lo_holds p), inl (λ y h. ((is y).1 h).above))

last_end : (set : ℤ → Type 0) (p : Num) → IsSame set p → IsEndOf set p.hi
last_end set p is = ((is p.hi).0 (hi_holds p), inr (λ y h. ((is y).1 h).below))

one_of_four : (x p q r t : ℤ) → ((x ≡ p) ⊎ (x ≡ q)) ⊎ ((x ≡ r) ⊎ (x ≡ t)) → (int_min (int_min p q) (int_min r t) ≤ℤ x) × (x ≤ℤ int_max (int_max p q) (int_max r t))
one_of_four x p q r t h = elim h [
  | inl k ↦ elim k [ inl e ↦ (omega (arith, ints, clamps), omega (arith, ints, clamps)) | inr e ↦ (omega (arith, ints, clamps), omega (arith, ints, clamps)) ]
  | inr k ↦ elim k [ inl e ↦ (omega (arith, ints, clamps), omega (arith, ints, clamps)) | inr e ↦ (omega (arith, ints, clamps), omega (arith, ints, clamps)) ]
]

part_within : (set : ℤ → Type 0) (a p : Num) (v : ℤ) → IsSame set p → IsPart set a v → (least_corner int_div (written a) (written p) ≤ℤ v) × (v ≤ℤ greatest_corner int_div (written a) (written p))
part_within set a p v is (d, e, h) = one_of_four v (int_div a.lo p.lo) (int_div a.lo p.hi) (int_div a.hi p.lo) (int_div a.hi p.hi) (elim h [
  | inl x ↦ inl (elim (end_is set p d is e) [ inl y ↦ inl (x ∙ ap (int_div a.lo) y) | inr y ↦ inr (x ∙ ap (int_div a.lo) y) ])
  | inr x ↦ inr (elim (end_is set p d is e) [ inl y ↦ inl (x ∙ ap (int_div a.hi) y) | inr y ↦ inr (x ∙ ap (int_div a.hi) y) ])
])

part_span : (set : ℤ → Type 0) (a p : Num) (lo hi : ℤ) → IsSame set p → lo ≡ least_corner int_div (written a) (written p) → hi ≡ greatest_corner int_div (written a) (written p) → IsSpan (IsPart set a) lo hi
part_span set a p lo hi is e f = record {
  first = subst (IsPart set a) (sym e) (four_least (IsPart set a) (int_div a.lo p.lo) (int_div a.lo p.hi) (int_div a.hi p.lo) (int_div a.hi p.hi) ll lh hl hh);
  last = subst (IsPart set a) (sym f) (four_greatest (IsPart set a) (int_div a.lo p.lo) (int_div a.lo p.hi) (int_div a.hi p.lo) (int_div a.hi p.hi) ll lh hl hh);
  above = λ v h. subst (λ (z : ℤ). z ≤ℤ v) (sym e) (part_within set a p v is h).0;
  below = λ v h. subst (λ (z : ℤ). v ≤ℤ z) (sym f) (part_within set a p v is h).1;
}
  where
    ll : IsPart set a (int_div a.lo p.lo)
    ll = (p.lo, first_end set p is, inl refl)

    lh : IsPart set a (int_div a.lo p.hi)
    lh = (p.hi, last_end set p is, inl refl)

    hl : IsPart set a (int_div a.hi p.lo)
    hl = (p.lo, first_end set p is, inr refl)

    hh : IsPart set a (int_div a.hi p.hi)
    hh = (p.hi, last_end set p is, inr refl)

-- ---- both signs
positives : (b p : Num) → IsExactly (IsFrom b (pos 1)) p → IsSame (IsPositiveIn b) p
positives b p is y = (λ h. let k = (is y).0 h in (k.0, omega (arith, ints, k.1)), λ h. (is y).1 (h.0, omega (arith, ints, h.1)))

negatives : (b p : Num) → IsExactly (IsUpTo b (negsuc 0)) p → IsSame (IsNegativeIn b) p
negatives b p is y = (λ h. let k = (is y).0 h in (k.0, omega (arith, ints, k.1)), λ h. (is y).1 (h.0, omega (arith, ints, h.1)))

no_positives : (b : Num) → IsEmpty (IsFrom b (pos 1)) → (d : ℤ) → IsEndOf (IsPositiveIn b) d → ⊥
no_positives b none d e = none d (e.0.0, omega (arith, ints, e.0.1))

no_negatives : (b : Num) → IsEmpty (IsUpTo b (negsuc 0)) → (d : ℤ) → IsEndOf (IsNegativeIn b) d → ⊥
no_negatives b none d e = none d (e.0.0, omega (arith, ints, e.0.1))

part_of : (a b : Num) (v : ℤ) → IsEndQuotient a b v → IsPart (IsPositiveIn b) a v ⊎ IsPart (IsNegativeIn b) a v
part_of a b v (d, e, h) = elim e [ inl k ↦ inl (d, k, h) | inr k ↦ inr (d, k, h) ]

by_positive : (a b : Num) (v : ℤ) → IsPart (IsPositiveIn b) a v → IsEndQuotient a b v
by_positive a b v (d, e, h) = (d, inl e, h)

by_negative : (a b : Num) (v : ℤ) → IsPart (IsNegativeIn b) a v → IsEndQuotient a b v
by_negative a b v (d, e, h) = (d, inr e, h)

pub span_positive : (a b p : Num) (lo hi : ℤ) → IsExactly (IsFrom b (pos 1)) p → IsEmpty (IsUpTo b (negsuc 0)) → lo ≡ least_corner int_div (written a) (written p) → hi ≡ greatest_corner int_div (written a) (written p) → IsSpan (IsEndQuotient a b) lo hi
span_positive a b p lo hi is none e f =
    let s = part_span (IsPositiveIn b) a p lo hi (positives b p is) e f in
    record {
      first = by_positive a b lo s.first;
      last = by_positive a b hi s.last;
      above = λ v h. elim (part_of a b v h) [ inl k ↦ s.above v k | inr k ↦ absurd (no_negatives b none k.0 k.1) ];
      below = λ v h. elim (part_of a b v h) [ inl k ↦ s.below v k | inr k ↦ absurd (no_negatives b none k.0 k.1) ];
    }

pub span_negative : (a b p : Num) (lo hi : ℤ) → IsEmpty (IsFrom b (pos 1)) → IsExactly (IsUpTo b (negsuc 0)) p → lo ≡ least_corner int_div (written a) (written p) → hi ≡ greatest_corner int_div (written a) (written p) → IsSpan (IsEndQuotient a b) lo hi
span_negative a b p lo hi none is e f =
    let s = part_span (IsNegativeIn b) a p lo hi (negatives b p is) e f in
    record {
      first = by_negative a b lo s.first;
      last = by_negative a b hi s.last;
      above = λ v h. elim (part_of a b v h) [ inl k ↦ absurd (no_positives b none k.0 k.1) | inr k ↦ s.above v k ];
      below = λ v h. elim (part_of a b v h) [ inl k ↦ absurd (no_positives b none k.0 k.1) | inr k ↦ s.below v k ];
    }

either_of : (P : ℤ → Type 0) (x y : ℤ) → P x → P y → P (int_min x y) × P (int_max x y)
either_of P x y p q = (subst P (same (int_min x y)) (four_least P x y x y p q p q), subst P (twice (int_max x y)) (four_greatest P x y x y p q p q))
  where
    same : (z : ℤ) → int_min z z ≡ z
    same z = omega (arith, ints, clamps)

    twice : (z : ℤ) → int_max z z ≡ z
    twice z = omega (arith, ints, clamps)

pub span_both : (a b p n : Num) (l h l' h' lo hi : ℤ) → IsExactly (IsFrom b (pos 1)) p → IsExactly (IsUpTo b (negsuc 0)) n → l ≡ least_corner int_div (written a) (written p) → h ≡ greatest_corner int_div (written a) (written p) → l' ≡ least_corner int_div (written a) (written n) → h' ≡ greatest_corner int_div (written a) (written n) → lo ≡ int_min l l' → hi ≡ int_max h h' → IsSpan (IsEndQuotient a b) lo hi
span_both a b p n l h l' h' lo hi is is' e f e' f' low high =
    let s = part_span (IsPositiveIn b) a p l h (positives b p is) e f in
    let t = part_span (IsNegativeIn b) a n l' h' (negatives b n is') e' f' in
    record {
      first = subst (IsEndQuotient a b) (sym low) (either_of (IsEndQuotient a b) l l' (by_positive a b l s.first) (by_negative a b l' t.first)).0;
      last = subst (IsEndQuotient a b) (sym high) (either_of (IsEndQuotient a b) h h' (by_positive a b h s.last) (by_negative a b h' t.last)).1;
      above = λ v k. elim (part_of a b v k) [ inl j ↦ let r = s.above v j in omega (arith, ints, clamps) | inr j ↦ let r = t.above v j in omega (arith, ints, clamps) ];
      below = λ v k. elim (part_of a b v k) [ inl j ↦ let r = s.below v j in omega (arith, ints, clamps) | inr j ↦ let r = t.below v j in omega (arith, ints, clamps) ];
    }

pub no_span : (a b : Num) → IsEmpty (IsFrom b (pos 1)) → IsEmpty (IsUpTo b (negsuc 0)) → IsEmpty (IsEndQuotient a b)
no_span a b none none' v h = elim (part_of a b v h) [ inl k ↦ no_positives b none k.0 k.1 | inr k ↦ no_negatives b none' k.0 k.1 ]

-- ---- met with the type's range
between_is : (m : DataModel) (s : Scalar) (set : ℤ → Type 0) (lo hi low high z : ℤ) → IsSpan set lo hi → low ≡ int_max lo (least_of m s) → high ≡ int_min hi (greatest_of m s) → IsIn (entry_of low high 1 (pos 0)) z ↔ (IsBetween set z × IsValue m s z)
between_is m s set lo hi low high z k p q = (
  λ h. ((lo, hi, k.first, k.last, omega (arith, ints, clamps, h.above), omega (arith, ints, clamps, h.below)), record { above = omega (arith, ints, clamps, h.above); below = omega (arith, ints, clamps, h.below) }),
  λ ((u, v, x, y, e, f), value). record { above = omega (arith, ints, clamps, value.above, k.above u x); below = omega (arith, ints, clamps, value.below, k.below v y); congruent = one_congruent (pos 0) z },
)

pub quotients_some : (m : DataModel) (s : Scalar) (a b : Num) (lo hi low high : ℤ) (o : Option Num) → IsSpan (IsEndQuotient a b) lo hi → low ≡ int_max lo (least_of m s) → high ≡ int_min hi (greatest_of m s) → IfSome o (IsExactly (IsIn (entry_of low high 1 (pos 0)))) → IfSome o (IsExactly (λ z. IsBetween (IsEndQuotient a b) z × IsValue m s z))
quotients_some m s a b lo hi low high o k p q =
    if_some_as (IsExactly (IsIn (entry_of low high 1 (pos 0)))) (IsExactly (λ z. IsBetween (IsEndQuotient a b) z × IsValue m s z))
    (λ n. exactly_as (IsIn (entry_of low high 1 (pos 0))) (λ z. IsBetween (IsEndQuotient a b) z × IsValue m s z) n (λ z. (between_is m s (IsEndQuotient a b) lo hi low high z k p q).0) (λ z. (between_is m s (IsEndQuotient a b) lo hi low high z k p q).1)) o

pub quotients_none : (m : DataModel) (s : Scalar) (a b : Num) (lo hi low high : ℤ) (o : Option Num) → IsSpan (IsEndQuotient a b) lo hi → low ≡ int_max lo (least_of m s) → high ≡ int_min hi (greatest_of m s) → IfNone o (IsEmpty (IsIn (entry_of low high 1 (pos 0)))) → IfNone o (IsEmpty (λ z. IsBetween (IsEndQuotient a b) z × IsValue m s z))
quotients_none m s a b lo hi low high o k p q =
    if_none_as (IsEmpty (IsIn (entry_of low high 1 (pos 0)))) (IsEmpty (λ z. IsBetween (IsEndQuotient a b) z × IsValue m s z))
    (empty_as (IsIn (entry_of low high 1 (pos 0))) (λ z. IsBetween (IsEndQuotient a b) z × IsValue m s z) (λ z. (between_is m s (IsEndQuotient a b) lo hi low high z k p q).1)) o

pub no_quotients : (m : DataModel) (s : Scalar) (a b : Num) → IsEmpty (IsEndQuotient a b) → IsEmpty (λ z. IsBetween (IsEndQuotient a b) z × IsValue m s z)
no_quotients m s a b none z ((u, v, x, y, e, f), value) = none u x

-- ---- remainders
row_low : (m : DataModel) (s : Scalar) (lo most : ℤ) → least_of m s ≤ℤ lo → least_of m s ≤ℤ low_remainder lo most
row_low m s lo most p = by_test (int_lt lo (pos 0))
  where
    by_test : (t : Bool) → least_of m s ≤ℤ (if t then int_max lo (neg_ℤ most) else pos 0)
    by_test true = omega (arith, ints, clamps)
    by_test false = (bounds_of m s).not_above

row_high : (m : DataModel) (s : Scalar) (hi most : ℤ) → hi ≤ℤ greatest_of m s → high_remainder hi most ≤ℤ greatest_of m s
row_high m s hi most p = by_test (int_lt (pos 0) hi)
  where
    by_test : (t : Bool) → (if t then int_min hi most else pos 0) ≤ℤ greatest_of m s
    by_test true = omega (arith, ints, clamps)
    by_test false = omega (arith, ints, (bounds_of m s).one)

-- the row, with a member of a in place of the rest
abbrev pub IsRemaining : Num → Num → ℤ → ℤ → ℕ → ℤ → Type 0
IsRemaining a b lo hi step rest = (z : ℤ) → IsIn (remainder_row (written a) (written b)) z ↔ IsIn (entry_of lo hi step rest) z

pub by_single : (a b : Num) (lo hi rest : ℤ) (g : ℕ) → b.step ≡ 0 → lo ≡ low_remainder a.lo (greatest_remainder (written b)) → hi ≡ high_remainder a.hi (greatest_remainder (written b)) → IsGcd a.step (unsigned_abs b.lo) g → rest ≡ a.lo → IsRemaining a b lo hi g rest
by_single a b lo hi rest g one p q d e z = rw (eq-eqb b.step 0 one) (
  λ h. record { above = omega (arith, ints, h.above); below = omega (arith, ints, h.below); congruent = subst (λ (k : ℕ). IsCongruent k rest z) (sym is) (IsCongruent-trans g' rest (rest_of a) z (IsCongruent-sym g' (rest_of a) rest near) h.congruent) },
  λ h. record { above = omega (arith, ints, h.above); below = omega (arith, ints, h.below); congruent = IsCongruent-trans g' (rest_of a) rest z near (subst (λ (k : ℕ). IsCongruent k rest z) is h.congruent) },
)
  where
    g' : ℕ
    g' = gcd_of a.step (unsigned_abs b.lo)

    is : g ≡ g'
    is = gcd_is a.step (unsigned_abs b.lo) g d

    near : IsCongruent g' (rest_of a) rest
    near = subst (IsCongruent g' (rest_of a)) (sym e) (dvd_trans g' (IsGcd-gcd_of a.step (unsigned_abs b.lo)).0 (member_congruent a a.lo (lo_holds a)))

pub by_several : (a b : Num) (lo hi : ℤ) → (b.step ≡ 0 → ⊥) → lo ≡ low_remainder a.lo (greatest_remainder (written b)) → hi ≡ high_remainder a.hi (greatest_remainder (written b)) → IsRemaining a b lo hi 1 (pos 0)
by_several a b lo hi ne p q z = rw (not_single b.step ne) (
  λ h. record { above = omega (arith, ints, h.above); below = omega (arith, ints, h.below); congruent = one_congruent (pos 0) z },
  λ h. record { above = omega (arith, ints, h.above); below = omega (arith, ints, h.below); congruent = one_congruent (pos 0) z },
)
  where
    not_single : (k : ℕ) → (k ≡ 0 → ⊥) → (k == 0) ≡ false
    not_single zero h = absurd (h refl)
    not_single (suc k) h = eqb-suc-zero k

settled_remaining : (m : DataModel) (s : Scalar) (a b : Num) (lo hi rest : ℤ) (step : ℕ) → IsValue m s a.lo → IsValue m s a.hi → IsRemaining a b lo hi step rest → (z : ℤ) → IsSettled m s (remainder_row (written a) (written b)) z ↔ IsIn (entry_of lo hi step rest) z
settled_remaining m s a b lo hi rest step v w is z =
    let k = within_settled m s (remainder_row (written a) (written b)) (row_low m s a.lo (greatest_remainder (written b)) v.above) (row_high m s a.hi (greatest_remainder (written b)) w.below) z in
    (λ h. (is z).0 (k.0 h), λ h. k.1 ((is z).1 h))

pub remaining_some : (m : DataModel) (s : Scalar) (a b : Num) (lo hi rest : ℤ) (step : ℕ) (o : Option Num) → IsValue m s a.lo → IsValue m s a.hi → IsRemaining a b lo hi step rest → IfSome o (IsExactly (IsIn (entry_of lo hi step rest))) → IfSome o (IsExactly (IsSettled m s (remainder_row (written a) (written b))))
remaining_some m s a b lo hi rest step o v w is = some_as (IsIn (entry_of lo hi step rest)) (IsSettled m s (remainder_row (written a) (written b))) o (settled_remaining m s a b lo hi rest step v w is)

pub remaining_none : (m : DataModel) (s : Scalar) (a b : Num) (lo hi rest : ℤ) (step : ℕ) (o : Option Num) → IsValue m s a.lo → IsValue m s a.hi → IsRemaining a b lo hi step rest → IfNone o (IsEmpty (IsIn (entry_of lo hi step rest))) → IfNone o (IsEmpty (IsSettled m s (remainder_row (written a) (written b))))
remaining_none m s a b lo hi rest step o v w is = none_as (IsIn (entry_of lo hi step rest)) (IsSettled m s (remainder_row (written a) (written b))) o (settled_remaining m s a b lo hi rest step v w is)

-- ---- as the code computes them
pub positive_ends : (b p : Num) → IsExactly (IsFrom b (pos 1)) p → (p.lo ≢ pos 0) × (p.hi ≢ pos 0)
positive_ends b p is = (λ e. omega (arith, ints, ((is p.lo).0 (lo_holds p)).1), λ e. omega (arith, ints, ((is p.hi).0 (hi_holds p)).1))

pub negative_ends : (b p : Num) → IsExactly (IsUpTo b (negsuc 0)) p → (p.lo ≢ pos 0) × (p.hi ≢ pos 0)
negative_ends b p is = (λ e. omega (arith, ints, ((is p.lo).0 (lo_holds p)).1), λ e. omega (arith, ints, ((is p.hi).0 (hi_holds p)).1))

pub remainder_code : (f : ℤ → ℤ → ℤ) (x y most r : ℤ) → SFits w128 x → SFits w128 r → unsigned_abs most ≤ 2 ^ 64 → most ≡ y → r ≡ f (to_z w128 (of_z w128 x)) (to_z w128 (of_z w128 most)) → to_z w128 (of_z w128 r) ≡ f x y
remainder_code f x y most r g h small is e = to_z-of_z w128 r h ∙ e ∙ ap₂ f (to_z-of_z w128 x g) (to_z-of_z w128 most (small_fits most (omega arith)) ∙ is)

pub low_bound : (m : DataModel) (s : Scalar) (lo most r : ℤ) → IsValue m s lo → r ≡ low_remainder lo most → negsuc (2 ^ 63 - 1) ≤ℤ r
low_bound m s lo most r v e = omega (arith, ints, row_low m s lo most v.above, (bounds_of m s).low)

pub high_bound : (m : DataModel) (s : Scalar) (hi most r : ℤ) → IsValue m s hi → r ≡ high_remainder hi most → r ≤ℤ pos (2 ^ 64 - 1)
high_bound m s hi most r v e = omega (arith, ints, row_high m s hi most v.below, (bounds_of m s).high)

pub gcd_as : (a b c g : ℕ) → b ≡ c → IsGcd a b g → IsGcd a c g
gcd_as a b c g e d = subst (λ (k : ℕ). IsGcd a k g) e d
