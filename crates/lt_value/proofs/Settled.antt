-- What is left of an entry in a type: it grows with the entry, and holds what the arithmetic of the type gives.
use Rattle.std.proofs.Common.{arith, ◌≡◌, refl, sym, ◌∙◌, ap, subst, ℕ, ℤ, pos, ◌+ℤ◌, ◌-ℤ◌, ◌≤ℤ◌, ◌<◌, ◌^◌, Bool, true, false, ◌||◌, ◌&&◌, ◌<ℤ◌, negsuc}
use Rattle.std.specs.Prelude.{Result, Ok, Err, if◌then◌else◌, unsigned_abs, int_le}
use Rattle.std.specs.Int.{◌∣◌, int_rem_euclid, IsGcd}
use Rattle.std.specs.Bool.{MatchBool}
use Rattle.std.proofs.lemmas.Int.{ints}
use Rattle.std.proofs.Math.Nat.{dvd_refl, dvd_trans, mod-eq_of_lt}
use Rattle.lt_model.specs.declared.scalar.DataModel.{DataModel}
use Rattle.lt_model.specs.declared.scalar.Scalar.{Scalar}
use Rattle.lt_model.specs.declared.operator.Ub.{Ub}
use Rattle.lt_model.specs.Scalar.{width_of, is_signed, least_of, greatest_of, wrapped, IsValue}
use Rattle.lt_model.specs.Operators.{is_value, exact_or}
use Rattle.lt_model.proofs.Ranges.{Bounds, bounds_of, IsValue-wrapped, residue_below}
use Rattle.lt_model.proofs.Values.{between_from_test}
use Rattle.lt_value.specs.Entry.{Entry, IsIn, IsCongruent, IsSettled, is_within, gcd_of}
use Rattle.lt_value.proofs.Entries.{IsGcd-gcd_of, gcd_divides, congruent_by, congruent_from_rests, IsCongruent-trans, IsCongruent-sym, IsCongruent-same}

-- each number of e is one of f
pub record IsWider (e f : Entry) : Type 0 where
  pub low : f.lo ≤ℤ e.lo
  pub high : e.hi ≤ℤ f.hi
  pub step : f.step ∣ e.step
  pub rest : IsCongruent f.step f.rest e.rest

pub in_wider : (e f : Entry) (z : ℤ) → IsWider e f → IsIn e z → IsIn f z
in_wider e f z w h = record {
  above = omega (arith, ints, w.low, h.above);
  below = omega (arith, ints, w.high, h.below);
  congruent = congruent_by e.step f.step e.rest f.rest z w.step w.rest h.congruent;
}

within_parts : (l x h g : ℤ) → (int_le l x && int_le h g) ≡ true → (l ≤ℤ x) × (h ≤ℤ g)
within_parts l x h g e = (grind (arith, ints), grind (arith, ints))

within_test : (l x h g : ℤ) → l ≤ℤ x → h ≤ℤ g → (int_le l x && int_le h g) ≡ true
within_test l x h g p q = grind (arith, ints)

pub within_from_test : (m : DataModel) (s : Scalar) (e : Entry) → is_within m s e ≡ true → (least_of m s ≤ℤ e.lo) × (e.hi ≤ℤ greatest_of m s)
within_from_test m s e t = within_parts (least_of m s) e.lo e.hi (greatest_of m s) t

pub test_from_within : (m : DataModel) (s : Scalar) (e : Entry) → least_of m s ≤ℤ e.lo → e.hi ≤ℤ greatest_of m s → is_within m s e ≡ true
test_from_within m s e p q = within_test (least_of m s) e.lo e.hi (greatest_of m s) p q

-- from a number of both
pub wider_by : (e f : Entry) (z : ℤ) → f.lo ≤ℤ e.lo → e.hi ≤ℤ f.hi → f.step ∣ e.step → IsCongruent e.step e.rest z → IsCongruent f.step f.rest z → IsWider e f
wider_by e f z low high d p q = record {
  low = low;
  high = high;
  step = d;
  rest = IsCongruent-trans f.step f.rest z e.rest q (IsCongruent-sym f.step e.rest z (dvd_trans f.step d p));
}

both_within : (m : DataModel) (s : Scalar) (e f : Entry) → IsWider e f → is_within m s f ≡ true → is_within m s e ≡ true
both_within m s e f w t =
    let h = within_from_test m s f t in
    test_from_within m s e (omega (arith, ints, w.low, h.0)) (omega (arith, ints, w.high, h.1))

-- either way of two tests, of which the second asks more
either_way : (t u v : Bool) (A B C D : Type 0) → (v ≡ true → u ≡ true) → (A → C) → (A → D) → (B → D) → MatchBool (t || u) A B → MatchBool (t || v) C D
either_way true u v A B C D less f g h x = f x
either_way false true true A B C D less f g h x = f x
either_way false true false A B C D less f g h x = g x
either_way false false true A B C D less f g h x = cc (less refl)
either_way false false false A B C D less f g h x = h x

-- what is left grows with the entry
pub settled_wider : (m : DataModel) (s : Scalar) (e f : Entry) (z : ℤ) → IsWider e f → IsSettled m s e z → IsSettled m s f z
settled_wider m s e f z w =
    either_way (is_signed m s) (is_within m s e) (is_within m s f) (IsIn e z × IsValue m s z) (IsCongruent (gcd_of e.step n) e.rest z × IsValue m s z) (IsIn f z × IsValue m s z) (IsCongruent (gcd_of f.step n) f.rest z × IsValue m s z)
    (both_within m s e f w)
    (λ h. (in_wider e f z w h.0, h.1))
    (λ h. (congruent_by f.step (gcd_of f.step n) f.rest f.rest z small (IsCongruent-same (gcd_of f.step n) f.rest f.rest refl) (in_wider e f z w h.0).congruent, h.1))
    (λ h. (congruent_by (gcd_of e.step n) (gcd_of f.step n) e.rest f.rest z (gcd_divides f.step n e.step n w.step (dvd_refl n)) (dvd_trans (gcd_of f.step n) small w.rest) h.0, h.1))
  where
    n : ℕ
    n = 2 ^ width_of m s

    small : gcd_of f.step n ∣ f.step
    small = (IsGcd-gcd_of f.step n).0

-- ---- what the arithmetic of a type gives
pub wrapped_same : (m : DataModel) (s : Scalar) (z : ℤ) → IsValue m s z → wrapped m s z ≡ z
wrapped_same m s z v =
    let b : Bounds m s = bounds_of m s in
    near (least_of m s) z (2 ^ width_of m s) v.above (omega (arith, ints, v.below, b.span))
  where
    up_small : (d : ℤ) (n : ℕ) → pos 0 ≤ℤ d → d <ℤ pos n → int_rem_euclid d (pos n) ≡ d
    up_small (pos k) n p q = ap pos (mod-eq_of_lt (omega (arith, ints)))
    up_small (negsuc k) n p q = absurd (omega (arith, ints))

    near : (l z : ℤ) (n : ℕ) → l ≤ℤ z → z <ℤ (l +ℤ pos n) → l +ℤ int_rem_euclid (z -ℤ l) (pos n) ≡ z
    near l z n p q = omega (arith, ints, up_small (z -ℤ l) n (omega (arith, ints)) (omega (arith, ints)))

-- a wrapped number is congruent to the number
pub wrapped_congruent : (m : DataModel) (s : Scalar) (z : ℤ) → IsCongruent (2 ^ width_of m s) z (wrapped m s z)
wrapped_congruent m s z =
    let b : Bounds m s = bounds_of m s in
    near (least_of m s) z (2 ^ width_of m s) b.some
  where
    again : (r : ℤ) (n : ℕ) → pos 0 ≤ℤ r → r <ℤ pos n → int_rem_euclid r (pos n) ≡ r
    again (pos k) n p q = ap pos (mod-eq_of_lt (omega (arith, ints)))
    again (negsuc k) n p q = absurd (omega (arith, ints))

    regroup : (l z r : ℤ) → r -ℤ (z -ℤ l) ≡ (l +ℤ r) -ℤ z
    regroup l z r = omega (arith, ints)

    near : (l z : ℤ) (n : ℕ) → 0 < n → IsCongruent n z (l +ℤ int_rem_euclid (z -ℤ l) (pos n))
    near l z n some =
        let r : ℤ = int_rem_euclid (z -ℤ l) (pos n) in
        let h = residue_below (z -ℤ l) n some in
        let same : int_rem_euclid r (pos n) ≡ int_rem_euclid (z -ℤ l) (pos n) = again r n h.0 h.1 in
        subst (λ (k : ℤ). n ∣ unsigned_abs k) (regroup l z r) (congruent_from_rests n r (z -ℤ l) some same)

-- a signed result that is given, and an unsigned one as it is reduced
abbrev pub given : Ub → DataModel → Scalar → ℤ → Result ℤ Ub
given kind m s z = if is_signed m s then exact_or kind m s z else Ok (wrapped m s z)

exact_given : (kind : Ub) (m : DataModel) (s : Scalar) (z v : ℤ) → exact_or kind m s z ≡ Ok v → (v ≡ z) × IsValue m s z
exact_given kind m s z v e = by_test (is_value m s z) refl e
  where
    by_test : (t : Bool) → is_value m s z ≡ t → (if t then Ok z else Err kind) ≡ Ok v → (v ≡ z) × IsValue m s z
    by_test true t e =
        let h = between_from_test (least_of m s) (greatest_of m s) z t in
        (cc, record { above = h.0; below = h.1 })
    by_test false t e = cc

pub settled_given : (kind : Ub) (m : DataModel) (s : Scalar) (e : Entry) (z v : ℤ) → IsIn e z → given kind m s z ≡ Ok v → IsSettled m s e v
settled_given kind m s e z v h g = by_tests (is_signed m s) (is_within m s e) refl g
  where
    n : ℕ
    n = 2 ^ width_of m s

    kept : v ≡ z → IsValue m s z → IsIn e v × IsValue m s v
    kept is value = (subst (IsIn e) (sym is) h, subst (IsValue m s) (sym is) value)

    reduced : v ≡ wrapped m s z → IsCongruent (gcd_of e.step n) e.rest v × IsValue m s v
    reduced is =
        let g : IsGcd e.step n (gcd_of e.step n) = IsGcd-gcd_of e.step n in (
          subst (IsCongruent (gcd_of e.step n) e.rest) (sym is) (IsCongruent-trans (gcd_of e.step n) e.rest z (wrapped m s z) (dvd_trans (gcd_of e.step n) g.0 h.congruent) (dvd_trans (gcd_of e.step n) g.1 (wrapped_congruent m s z))),
          subst (IsValue m s) (sym is) (IsValue-wrapped m s z),
        )

    by_tests : (t u : Bool) → is_within m s e ≡ u → (if t then exact_or kind m s z else Ok (wrapped m s z)) ≡ Ok v → MatchBool (t || u) (IsIn e v × IsValue m s v) (IsCongruent (gcd_of e.step n) e.rest v × IsValue m s v)
    by_tests true u f g = let x = exact_given kind m s z v g in kept x.0 x.1
    by_tests false true f g =
        let w = within_from_test m s e f in
        let value : IsValue m s z = record { above = omega (arith, ints, w.0, h.above); below = omega (arith, ints, w.1, h.below) } in
        let is : v ≡ wrapped m s z = cc in
        kept (is ∙ wrapped_same m s z value) value
    by_tests false false f g = reduced (cc)

-- a value among the entry's numbers is kept
pub settled_value : (m : DataModel) (s : Scalar) (e : Entry) (z : ℤ) → IsIn e z → IsValue m s z → IsSettled m s e z
settled_value m s e z h value = by_test (is_signed m s || is_within m s e)
  where
    n : ℕ
    n = 2 ^ width_of m s

    by_test : (t : Bool) → MatchBool t (IsIn e z × IsValue m s z) (IsCongruent (gcd_of e.step n) e.rest z × IsValue m s z)
    by_test true = (h, value)
    by_test false = (dvd_trans (gcd_of e.step n) (IsGcd-gcd_of e.step n).0 h.congruent, value)
