-- Quotients of members lie between quotients of ends.
use Rattle.std.proofs.Common.{arith, ◌≡◌, refl, sym, ap, subst, ℕ, ℤ, pos, negsuc, suc, zero, ◌≤ℤ◌, ◌<ℤ◌, ◌+◌, ◌-◌, ◌*◌, ◌/◌, ◌%◌, ◌<◌, ◌≤◌, ◌⊎◌, inl, inr}
use Rattle.std.specs.Prelude.{neg_ℤ, int_div}
use Rattle.std.specs.Int.{◌∣◌}
use Rattle.std.proofs.lemmas.Int.{ints, by_lt_z}
use Rattle.std.proofs.Math.Nat.{dvd-sub, dvd-mul_left, le_of_dvd, div-add-mod', mod-lt, eq-zero-or-pos}
use Rattle.lt_value.specs.Num.{Holds, IsBelow}
use Rattle.lt_value.specs.Table.{IsEndOf, IsPositiveIn, IsNegativeIn, IsEndQuotient, IsBetween}
use Rattle.lt_value.specs.declared.num.Num.{Num}
use Rattle.lt_value.proofs.Members.{gap_is, apart_by_step, holds_by_step, lo_holds, hi_holds}
use Rattle.lt_value.proofs.Corners.{IsAmid}
use Rattle.lt_value.proofs.Shifts.{div_grows, div_falls}

-- ---- the divisors of one sign have ends
some_step : (q : Num) → q.lo <ℤ q.hi → 0 < q.step
some_step q less = elim (eq-zero-or-pos q.step) [
  | inl none ↦ absurd (omega (arith, ints, q.canonical.one_low none))
  | inr some ↦ some
]

pub positive_end : (q : Num) (n : ℕ) → Holds q (pos (suc n)) → (d : ℤ) × IsPositiveIn q d × ((y : ℤ) → IsPositiveIn q y → d ≤ℤ y)
positive_end q n h =
    by_lt_z (pos 0) q.lo
    (λ up. (q.lo, (lo_holds q, up), λ y k. k.0.above))
    (λ le.
    let s : ℕ = q.step in
    let some : 0 < s = some_step q (omega (arith, ints, h.below)) in
    let small : n % s < s = mod-lt n some in
    let parts : n / s * s + n % s ≡ n = div-add-mod' n s in
    let (g, far) = gap_is q.lo (pos (suc n)) h.above in
    let d : s ∣ g = apart_by_step q q.lo (pos (suc n)) g (lo_holds q) h far in
    let e : s ∣ g - n / s * s = dvd-sub s d (dvd-mul_left s (n / s)) in
    let holds : Holds q (pos (suc (n % s))) = holds_by_step q q.lo (pos (suc (n % s))) (g - n / s * s) (lo_holds q) (omega (arith, ints)) (omega (arith, ints, h.below)) e in (
      pos (suc (n % s)),
      (holds, omega (arith, ints)),
      λ y k.
          by_lt_z y (pos (suc (n % s)))
          (λ less.
          let (w, apart) = gap_is y (pos (suc (n % s))) (omega (arith, ints)) in
          let wide : s ≤ w = le_of_dvd (omega (arith, ints)) (apart_by_step q y (pos (suc (n % s))) w k.0 holds apart) in
          absurd (omega (arith, ints, k.1)))
          (λ more. more),
    ))

pub negative_end : (q : Num) (n : ℕ) → Holds q (negsuc n) → (d : ℤ) × IsNegativeIn q d × ((y : ℤ) → IsNegativeIn q y → y ≤ℤ d)
negative_end q n h =
    by_lt_z q.hi (pos 0)
    (λ down. (q.hi, (hi_holds q, down), λ y k. k.0.below))
    (λ le.
    let s : ℕ = q.step in
    let some : 0 < s = some_step q (omega (arith, ints, h.above)) in
    let small : n % s < s = mod-lt n some in
    let parts : n / s * s + n % s ≡ n = div-add-mod' n s in
    let holds : Holds q (negsuc (n % s)) = holds_by_step q (negsuc n) (negsuc (n % s)) (n / s * s) h (omega (arith, ints)) (omega (arith, ints)) (dvd-mul_left s (n / s)) in (
      negsuc (n % s),
      (holds, omega (arith, ints)),
      λ y k.
          by_lt_z (negsuc (n % s)) y
          (λ less.
          let (w, apart) = gap_is (negsuc (n % s)) y (omega (arith, ints)) in
          let wide : s ≤ w = le_of_dvd (omega (arith, ints)) (apart_by_step q (negsuc (n % s)) y w holds k.0 apart) in
          absurd (omega (arith, ints, k.1)))
          (λ more. more),
    ))

-- ---- a quotient moves one way with the dividend, and one way with a divisor of one sign
neg_order : (m n : ℕ) → m ≤ n → neg_ℤ (pos n) ≤ℤ neg_ℤ (pos m)
neg_order m n h = turned (pos m) (pos n) (omega (arith, ints))
  where
    turned : (a b : ℤ) → a ≤ℤ b → neg_ℤ b ≤ℤ neg_ℤ a
    turned a b h = omega (arith, ints)

neg_below : (m n : ℕ) → neg_ℤ (pos m) ≤ℤ pos n
neg_below zero n = omega (arith, ints)
neg_below (suc m) n = omega (arith, ints)

grows_by_positive : (x y : ℤ) (k : ℕ) → 0 < k → x ≤ℤ y → int_div x (pos k) ≤ℤ int_div y (pos k)
grows_by_positive (pos a) (pos b) k some h = let le = div_grows a b k some (omega (arith, ints)) in omega (arith, ints)
grows_by_positive (pos a) (negsuc b) k some h = absurd (omega (arith, ints))
grows_by_positive (negsuc a) (pos b) k some h = neg_below (suc a / k) (b / k)
grows_by_positive (negsuc a) (negsuc b) k some h = neg_order (suc b / k) (suc a / k) (div_grows (suc b) (suc a) k some (omega (arith, ints)))

falls_by_negative : (x y : ℤ) (k : ℕ) → x ≤ℤ y → int_div y (negsuc k) ≤ℤ int_div x (negsuc k)
falls_by_negative (pos a) (pos b) k h = neg_order (a / suc k) (b / suc k) (div_grows a b (suc k) (omega arith) (omega (arith, ints)))
falls_by_negative (pos a) (negsuc b) k h = absurd (omega (arith, ints))
falls_by_negative (negsuc a) (pos b) k h = neg_below (b / suc k) (suc a / suc k)
falls_by_negative (negsuc a) (negsuc b) k h = let le = div_grows (suc b) (suc a) (suc k) (omega arith) (omega (arith, ints)) in omega (arith, ints)

amid_positive : (x : ℤ) (j k l : ℕ) → 0 < j → j ≤ k → k ≤ l → IsAmid (int_div x (pos j)) (int_div x (pos k)) (int_div x (pos l))
amid_positive (pos a) j k l some p q =
    let u = div_falls a j k some p in
    let v = div_falls a k l (omega arith) q in
    inr (omega (arith, ints), omega (arith, ints))
amid_positive (negsuc a) j k l some p q = inl (neg_order (suc a / k) (suc a / j) (div_falls (suc a) j k some p), neg_order (suc a / l) (suc a / k) (div_falls (suc a) k l (omega arith) q))

amid_negative : (x : ℤ) (j k l : ℕ) → l ≤ k → k ≤ j → IsAmid (int_div x (negsuc j)) (int_div x (negsuc k)) (int_div x (negsuc l))
amid_negative (pos a) j k l p q = inr (neg_order (a / suc k) (a / suc l) (div_falls a (suc l) (suc k) (omega arith) (omega arith)), neg_order (a / suc j) (a / suc k) (div_falls a (suc k) (suc j) (omega arith) (omega arith)))
amid_negative (negsuc a) j k l p q =
    let u = div_falls (suc a) (suc l) (suc k) (omega arith) (omega arith) in
    let v = div_falls (suc a) (suc k) (suc j) (omega arith) (omega arith) in
    inl (omega (arith, ints), omega (arith, ints))

-- ---- between numbers of a set
some_below : (set : ℤ → Type 0) (l x h : ℤ) → set l → set h → IsAmid l x h → (u : ℤ) × set u × (u ≤ℤ x)
some_below set l x h p q a = elim a [ inl r ↦ (l, p, r.0) | inr r ↦ (h, q, r.0) ]

some_above : (set : ℤ → Type 0) (l x h : ℤ) → set l → set h → IsAmid l x h → (v : ℤ) × set v × (x ≤ℤ v)
some_above set l x h p q a = elim a [ inl r ↦ (h, q, r.1) | inr r ↦ (l, p, r.1) ]

between_corners : (set : ℤ → Type 0) (xy ly hy a b c d : ℤ) → set a → set b → set c → set d → IsAmid ly xy hy → IsAmid a ly b → IsAmid c hy d → IsBetween set xy
between_corners set xy ly hy a b c d p q r s across low high =
    let (u, pu, lu) = some_below set a ly b p q low in
    let (v, pv, lv) = some_above set a ly b p q low in
    let (u', pu', lu') = some_below set c hy d r s high in
    let (v', pv', lv') = some_above set c hy d r s high in
    elim across [
      | inl k ↦ (u, v', pu, pv', omega (arith, ints, k.0), omega (arith, ints, k.1))
      | inr k ↦ (u', v, pu', pv, omega (arith, ints, k.0), omega (arith, ints, k.1))
    ]

-- what dividing by the ends of the divisors of one sign gives
by_end : (a b : Num) (x d : ℤ) → IsEndOf (IsPositiveIn b) d ⊎ IsEndOf (IsNegativeIn b) d → (x ≡ a.lo) ⊎ (x ≡ a.hi) → IsEndQuotient a b (int_div x d)
by_end a b x d e h = (d, e, elim h [ inl is ↦ inl (ap (λ k. int_div k d) is) | inr is ↦ inr (ap (λ k. int_div k d) is) ])

by_positive : (a b : Num) (x : ℤ) (n : ℕ) → Holds a x → Holds b (pos (suc n)) → IsBetween (IsEndQuotient a b) (int_div x (pos (suc n)))
by_positive a b x n p q =
    let (d, h, least) = positive_end b n q in
    let e : IsPositiveIn b b.hi = (hi_holds b, omega (arith, ints, q.below)) in
    let first : IsEndOf (IsPositiveIn b) d = (h, inl least) in
    let last : IsEndOf (IsPositiveIn b) b.hi = (e, inr (λ y k. k.0.below)) in
    let low : (z : ℤ) → IsAmid (int_div z d) (int_div z (pos (suc n))) (int_div z b.hi) = λ z. amid z d b.hi h.1 (least (pos (suc n)) (q, omega (arith, ints))) q.below in
    between_corners (IsEndQuotient a b) (int_div x (pos (suc n))) (int_div a.lo (pos (suc n))) (int_div a.hi (pos (suc n))) (int_div a.lo d) (int_div a.lo b.hi) (int_div a.hi d) (int_div a.hi b.hi)
    (by_end a b a.lo d (inl first) (inl refl)) (by_end a b a.lo b.hi (inl last) (inl refl)) (by_end a b a.hi d (inl first) (inr refl)) (by_end a b a.hi b.hi (inl last) (inr refl))
    (inl (grows_by_positive a.lo x (suc n) (omega arith) p.above, grows_by_positive x a.hi (suc n) (omega arith) p.below))
    (low a.lo)
    (low a.hi)
  where
    amid : (z d e : ℤ) → pos 0 <ℤ d → d ≤ℤ pos (suc n) → pos (suc n) ≤ℤ e → IsAmid (int_div z d) (int_div z (pos (suc n))) (int_div z e)
    amid z (pos j) (pos l) p q r = amid_positive z j (suc n) l (omega (arith, ints)) (omega (arith, ints)) (omega (arith, ints))
    amid z (pos j) (negsuc l) p q r = absurd (omega (arith, ints))
    amid z (negsuc j) e p q r = absurd (omega (arith, ints))

by_negative : (a b : Num) (x : ℤ) (n : ℕ) → Holds a x → Holds b (negsuc n) → IsBetween (IsEndQuotient a b) (int_div x (negsuc n))
by_negative a b x n p q =
    let (e, h, greatest) = negative_end b n q in
    let l : IsNegativeIn b b.lo = (lo_holds b, omega (arith, ints, q.above)) in
    let first : IsEndOf (IsNegativeIn b) b.lo = (l, inl (λ y k. k.0.above)) in
    let last : IsEndOf (IsNegativeIn b) e = (h, inr greatest) in
    let low : (z : ℤ) → IsAmid (int_div z b.lo) (int_div z (negsuc n)) (int_div z e) = λ z. amid z b.lo e q.above (greatest (negsuc n) (q, omega (arith, ints))) h.1 in
    between_corners (IsEndQuotient a b) (int_div x (negsuc n)) (int_div a.lo (negsuc n)) (int_div a.hi (negsuc n)) (int_div a.lo b.lo) (int_div a.lo e) (int_div a.hi b.lo) (int_div a.hi e)
    (by_end a b a.lo b.lo (inr first) (inl refl)) (by_end a b a.lo e (inr last) (inl refl)) (by_end a b a.hi b.lo (inr first) (inr refl)) (by_end a b a.hi e (inr last) (inr refl))
    (inr (falls_by_negative x a.hi n p.below, falls_by_negative a.lo x n p.above))
    (low a.lo)
    (low a.hi)
  where
    amid : (z d e : ℤ) → d ≤ℤ negsuc n → negsuc n ≤ℤ e → e <ℤ pos 0 → IsAmid (int_div z d) (int_div z (negsuc n)) (int_div z e)
    amid z (negsuc j) (negsuc l) p q r = amid_negative z j n l (omega (arith, ints)) (omega (arith, ints))
    amid z (negsuc j) (pos l) p q r = absurd (omega (arith, ints))
    amid z (pos j) e p q r = absurd (omega (arith, ints))

pub quotient_holds : (a b : Num) (x y : ℤ) → (y ≡ pos 0 → ⊥) → Holds a x → Holds b y → IsBetween (IsEndQuotient a b) (int_div x y)
quotient_holds a b x (pos zero) ne p q = absurd (ne refl)
quotient_holds a b x (pos (suc n)) ne p q = by_positive a b x n p q
quotient_holds a b x (negsuc n) ne p q = by_negative a b x n p q

-- ---- the set of quotients grows with the operands
end_divides : (b : Num) (d : ℤ) → IsEndOf (IsPositiveIn b) d ⊎ IsEndOf (IsNegativeIn b) d → Holds b d × (d ≡ pos 0 → ⊥)
end_divides b d e = elim e [ inl h ↦ (h.0.0, λ is. omega (arith, ints, h.0.1)) | inr h ↦ (h.0.0, λ is. omega (arith, ints, h.0.1)) ]

end_between : (a b c d : Num) (u : ℤ) → IsBelow a c → IsBelow b d → IsEndQuotient a b u → IsBetween (IsEndQuotient c d) u
end_between a b c d u f g (k, e, h) =
    let (holds, ne) = end_divides b k e in
    elim h [
      | inl is ↦ subst (IsBetween (IsEndQuotient c d)) (sym is) (quotient_holds c d a.lo k ne (f a.lo (lo_holds a)) (g k holds))
      | inr is ↦ subst (IsBetween (IsEndQuotient c d)) (sym is) (quotient_holds c d a.hi k ne (f a.hi (hi_holds a)) (g k holds))
    ]

pub quotients_wider : (a b c d : Num) (z : ℤ) → IsBelow a c → IsBelow b d → IsBetween (IsEndQuotient a b) z → IsBetween (IsEndQuotient c d) z
quotients_wider a b c d z f g (u, v, p, q, l, h) =
    let (u', w, p', x, l', h') = end_between a b c d u f g p in
    let (w', v', x', q', l'', h'') = end_between a b c d v f g q in
    (u', v', p', q', omega (arith, ints), omega (arith, ints))
