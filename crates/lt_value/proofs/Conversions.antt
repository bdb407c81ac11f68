-- What a conversion gives: it is what members become or more, and grows with the set.
use Rattle.std.proofs.Common.{arith, ◌≡◌, refl, sym, ◌∙◌, subst, zero, suc, ℕ, ℤ, pos, negsuc, ◌≤ℤ◌, ◌^◌, Bool, true, false, ◌↔◌}
use Rattle.std.specs.Prelude.{if◌then◌else◌}
use Rattle.std.specs.Ordering.{int_eq}
use Rattle.std.proofs.lemmas.Bool.Decides.{Decides-int_eq}
use Rattle.std.specs.Int.{◌∣◌, IsGcd}
use Rattle.std.specs.Bool.{Decides, MatchBool}
use Rattle.std.proofs.lemmas.Int.{ints}
use Rattle.std.proofs.Math.Nat.{dvd_refl, dvd_trans}
use Rattle.lt_model.specs.declared.scalar.DataModel.{DataModel}
use Rattle.lt_model.specs.declared.scalar.Scalar.{Scalar}
use Rattle.lt_model.specs.declared.scalar.Scalar.TheVariants as S
use Rattle.lt_model.specs.Scalar.{width_of, wrapped, convert_of, IsValue}
use Rattle.lt_model.proofs.Ranges.{IsValue-wrapped}
use Rattle.lt_value.specs.declared.num.Num.{Num}
use Rattle.lt_value.specs.Num.{Holds, IsBelow, IsExactly}
use Rattle.lt_value.specs.Entry.{written, rest_of, gcd_of, is_within, IsCongruent, IsReduced}
use Rattle.lt_value.specs.Conversion.{IsConverted, IsConversion}
use Rattle.lt_value.proofs.Members.{lo_holds, hi_holds, step_divides}
use Rattle.lt_value.proofs.Entries.{IsGcd-gcd_of, gcd_divides, member_congruent, IsCongruent-trans, IsCongruent-sym, congruent_by}
use Rattle.lt_value.proofs.Settled.{wrapped_same, wrapped_congruent, within_from_test, test_from_within}

-- ---- to `_Bool`
zero_becomes : (m : DataModel) (x : ℤ) → x ≡ pos 0 → convert_of m S.Bool x ≡ pos 0
zero_becomes m x e = rw e refl

by_zero : (t : Bool) → t ≡ false → (if t then pos 0 else pos 1) ≡ pos 1
by_zero t e = rw e refl

other_becomes : (m : DataModel) (x : ℤ) → (x ≡ pos 0 → ⊥) → convert_of m S.Bool x ≡ pos 1
other_becomes m x h = by_zero (int_eq x (pos 0)) (fails (int_eq x (pos 0)) (Decides-int_eq x (pos 0)) h)
  where
    fails : (t : Bool) {P : Type 0} → Decides t P → (P → ⊥) → t ≡ false
    fails true d h = absurd (h (d.0 refl))
    fails false d h = refl

becomes_bit : (m : DataModel) (x : ℤ) → (pos 0 ≤ℤ convert_of m S.Bool x) × (convert_of m S.Bool x ≤ℤ pos 1)
becomes_bit m x = bit (int_eq x (pos 0))
  where
    bit : (t : Bool) → (pos 0 ≤ℤ (if t then pos 0 else pos 1)) × ((if t then pos 0 else pos 1) ≤ℤ pos 1)
    bit true = (omega (arith, ints), omega (arith, ints))
    bit false = (omega (arith, ints), omega (arith, ints))

pub only_one : (m : DataModel) (n r : Num) (at one : ℤ) → at ≡ pos 0 → one ≡ pos 1 → (Holds n at → ⊥) → ((z : ℤ) → Holds r z ↔ (z ≡ one)) → IsExactly (IsConverted m S.Bool n) r
only_one m n r at one zero_is one_is no' is z = (
  λ h. (n.lo, lo_holds n, other_becomes m n.lo (differs n.lo (lo_holds n)) ∙ sym ((is z).0 h ∙ one_is)),
  λ (x, h, e). (is z).1 (sym e ∙ other_becomes m x (differs x h) ∙ sym one_is),
)
  where
    differs : (x : ℤ) → Holds n x → x ≡ pos 0 → ⊥
    differs x h e = no' (subst (Holds n) (e ∙ sym zero_is) h)

pub only_zero : (m : DataModel) (n r : Num) (at none : ℤ) → at ≡ pos 0 → none ≡ pos 0 → Holds n at → n.lo ≡ n.hi → ((z : ℤ) → Holds r z ↔ (z ≡ none)) → IsExactly (IsConverted m S.Bool n) r
only_zero m n r at none zero_is none_is there one is z = (
  λ h. (at, there, zero_becomes m at zero_is ∙ sym ((is z).0 h ∙ none_is)),
  λ (x, h, e). (is z).1 (sym e ∙ zero_becomes m x (omega (arith, ints, h.above, h.below, there.above, there.below)) ∙ sym none_is),
)

-- another member than 0, where there are two
other_member : (n : Num) → (n.lo ≡ n.hi → ⊥) → (x : ℤ) × Holds n x × (x ≡ pos 0 → ⊥)
other_member n two = by_lo n.lo refl
  where
    by_lo : (l : ℤ) → n.lo ≡ l → (x : ℤ) × Holds n x × (x ≡ pos 0 → ⊥)
    by_lo (pos zero) e = (n.hi, hi_holds n, λ f. two (e ∙ sym f))
    by_lo (pos (suc k)) e = (n.lo, lo_holds n, λ f. omega (arith, ints))
    by_lo (negsuc k) e = (n.lo, lo_holds n, λ f. omega (arith, ints))

pub both_truths : (m : DataModel) (n r : Num) (at none one : ℤ) → at ≡ pos 0 → none ≡ pos 0 → one ≡ pos 1 → Holds n at → (n.lo ≡ n.hi → ⊥) → ((z : ℤ) → Holds r z ↔ ((none ≤ℤ z) × (z ≤ℤ one))) → IsExactly (IsConverted m S.Bool n) r
both_truths m n r at none one zero_is none_is one_is there two is z = (λ h. from ((is z).0 h), λ (x, h, e). (is z).1 (let b = becomes_bit m x in (omega (arith, ints, b.0), omega (arith, ints, b.1))))
  where
    from : (none ≤ℤ z) × (z ≤ℤ one) → IsConverted m S.Bool n z
    from h = bit z (omega (arith, ints, h.0)) (omega (arith, ints, h.1))
      where
        bit : (z : ℤ) → pos 0 ≤ℤ z → z ≤ℤ pos 1 → IsConverted m S.Bool n z
        bit (pos zero) p q = (at, there, zero_becomes m at zero_is)
        bit (pos (suc zero)) p q = let (x, h, ne) = other_member n two in (x, h, other_becomes m x ne)
        bit (pos (suc (suc k))) p q = absurd (omega (arith, ints))
        bit (negsuc k) p q = absurd (omega (arith, ints))

-- ---- to another type
abbrev IsPlain : DataModel → Scalar → Num → ℤ → Type 0
IsPlain m s n z = MatchBool (is_within m s (written n)) (Holds n z) (IsReduced m s n.step (rest_of n) z)

as_plain : (m : DataModel) (s : Scalar) (n : Num) (z : ℤ) → (s ≡ S.Bool → ⊥) → IsConversion m s n z ↔ IsPlain m s n z
as_plain m S.Bool n z h = absurd (h refl)
as_plain m S.Char n z h = (λ k. k, λ k. k)
as_plain m S.SChar n z h = (λ k. k, λ k. k)
as_plain m S.UChar n z h = (λ k. k, λ k. k)
as_plain m S.Short n z h = (λ k. k, λ k. k)
as_plain m S.UShort n z h = (λ k. k, λ k. k)
as_plain m S.Int n z h = (λ k. k, λ k. k)
as_plain m S.UInt n z h = (λ k. k, λ k. k)
as_plain m S.Long n z h = (λ k. k, λ k. k)
as_plain m S.ULong n z h = (λ k. k, λ k. k)
as_plain m S.LLong n z h = (λ k. k, λ k. k)
as_plain m S.ULLong n z h = (λ k. k, λ k. k)

by_true : (t : Bool) (A B : Type 0) → t ≡ true → MatchBool t A B ↔ A
by_true true A B e = (λ k. k, λ k. k)
by_true false A B e = cc

by_false : (t : Bool) (A B : Type 0) → t ≡ false → MatchBool t A B ↔ B
by_false true A B e = cc
by_false false A B e = (λ k. k, λ k. k)

pub stays_as : (m : DataModel) (s : Scalar) (n : Num) → (s ≡ S.Bool → ⊥) → is_within m s (written n) ≡ true → IsExactly (IsConversion m s n) n
stays_as m s n other within z =
    let p = as_plain m s n z other in
    let t = by_true (is_within m s (written n)) (Holds n z) (IsReduced m s n.step (rest_of n) z) within in
    (λ h. p.1 (t.1 h), λ h. t.0 (p.0 h))

-- the least member is congruent to the rest by each divisor of the step
lo_congruent : (n : Num) (d : ℕ) → d ∣ n.step → IsCongruent d (rest_of n) n.lo
lo_congruent n d h = dvd_trans d h (member_congruent n n.lo (lo_holds n))

pub reduced_as : (m : DataModel) (s : Scalar) (n r : Num) (lo : ℤ) → (s ≡ S.Bool → ⊥) → is_within m s (written n) ≡ false → lo ≡ n.lo → IsExactly (IsReduced m s n.step lo) r → IsExactly (IsConversion m s n) r
reduced_as m s n r lo other without e is z = (
  λ h. let k = (is z).0 h in p.1 (t.1 (IsCongruent-trans g (rest_of n) lo z here k.0, k.1)),
  λ h. let k = t.0 (p.0 h) in (is z).1 (IsCongruent-trans g lo (rest_of n) z (IsCongruent-sym g (rest_of n) lo here) k.0, k.1),
)
  where
    g : ℕ
    g = gcd_of n.step (2 ^ width_of m s)

    here : IsCongruent g (rest_of n) lo
    here = subst (IsCongruent g (rest_of n)) (sym e) (lo_congruent n g (IsGcd-gcd_of n.step (2 ^ width_of m s)).0)

    p : IsConversion m s n z ↔ IsPlain m s n z
    p = as_plain m s n z other

    t : IsPlain m s n z ↔ IsReduced m s n.step (rest_of n) z
    t = by_false (is_within m s (written n)) (Holds n z) (IsReduced m s n.step (rest_of n) z) without

pub some_residue : (m : DataModel) (s : Scalar) (step : ℕ) (rest : ℤ) → IsReduced m s step rest (wrapped m s rest)
some_residue m s step rest = (dvd_trans (gcd_of step (2 ^ width_of m s)) (IsGcd-gcd_of step (2 ^ width_of m s)).1 (wrapped_congruent m s rest), IsValue-wrapped m s rest)

-- ---- what members become is among it
plain_sound : (m : DataModel) (s : Scalar) (n : Num) (x : ℤ) → Holds n x → IsPlain m s n (wrapped m s x)
plain_sound m s n x h = by_test (is_within m s (written n)) refl
  where
    g : ℕ
    g = gcd_of n.step (2 ^ width_of m s)

    d : IsGcd n.step (2 ^ width_of m s) g
    d = IsGcd-gcd_of n.step (2 ^ width_of m s)

    by_test : (t : Bool) → is_within m s (written n) ≡ t → MatchBool t (Holds n (wrapped m s x)) (IsReduced m s n.step (rest_of n) (wrapped m s x))
    by_test true e =
        let w = within_from_test m s (written n) e in
        let value : IsValue m s x = record { above = omega (arith, ints, w.0, h.above); below = omega (arith, ints, w.1, h.below) } in
        subst (Holds n) (sym (wrapped_same m s x value)) h
    by_test false e = (IsCongruent-trans g (rest_of n) x (wrapped m s x) (dvd_trans g d.0 (member_congruent n x h)) (dvd_trans g d.1 (wrapped_congruent m s x)), IsValue-wrapped m s x)

pub convert_sound : (m : DataModel) (s : Scalar) (n : Num) (z : ℤ) → IsConverted m s n z → IsConversion m s n z
convert_sound m S.Bool n z h = h
convert_sound m S.Char n z (x, h, e) = subst (IsPlain m S.Char n) e (plain_sound m S.Char n x h)
convert_sound m S.SChar n z (x, h, e) = subst (IsPlain m S.SChar n) e (plain_sound m S.SChar n x h)
convert_sound m S.UChar n z (x, h, e) = subst (IsPlain m S.UChar n) e (plain_sound m S.UChar n x h)
convert_sound m S.Short n z (x, h, e) = subst (IsPlain m S.Short n) e (plain_sound m S.Short n x h)
convert_sound m S.UShort n z (x, h, e) = subst (IsPlain m S.UShort n) e (plain_sound m S.UShort n x h)
convert_sound m S.Int n z (x, h, e) = subst (IsPlain m S.Int n) e (plain_sound m S.Int n x h)
convert_sound m S.UInt n z (x, h, e) = subst (IsPlain m S.UInt n) e (plain_sound m S.UInt n x h)
convert_sound m S.Long n z (x, h, e) = subst (IsPlain m S.Long n) e (plain_sound m S.Long n x h)
convert_sound m S.ULong n z (x, h, e) = subst (IsPlain m S.ULong n) e (plain_sound m S.ULong n x h)
convert_sound m S.LLong n z (x, h, e) = subst (IsPlain m S.LLong n) e (plain_sound m S.LLong n x h)
convert_sound m S.ULLong n z (x, h, e) = subst (IsPlain m S.ULLong n) e (plain_sound m S.ULLong n x h)

-- ---- a greater set gives a greater one
pub rests_agree : (a b : Num) → IsBelow a b → IsCongruent b.step (rest_of b) (rest_of a)
rests_agree a b below =
    IsCongruent-trans b.step (rest_of b) a.lo (rest_of a) (member_congruent b a.lo (below a.lo (lo_holds a)))
    (IsCongruent-sym b.step (rest_of a) a.lo (dvd_trans b.step (step_divides a b below) (member_congruent a a.lo (lo_holds a))))

two_ways : (t u : Bool) (A B C D : Type 0) → (u ≡ true → t ≡ true) → (A → C) → (t ≡ true → A → D) → (B → D) → MatchBool t A B → MatchBool u C D
two_ways true true A B C D less f g h x = f x
two_ways true false A B C D less f g h x = g refl x
two_ways false true A B C D less f g h x = cc (less refl)
two_ways false false A B C D less f g h x = h x

plain_monotone : (m : DataModel) (s : Scalar) (a b : Num) (z : ℤ) → IsBelow a b → IsPlain m s a z → IsPlain m s b z
plain_monotone m s a b z below =
    two_ways (is_within m s (written a)) (is_within m s (written b)) (Holds a z) (IsReduced m s a.step (rest_of a) z) (Holds b z) (IsReduced m s b.step (rest_of b) z)
    (λ e. let w = within_from_test m s (written b) e in test_from_within m s (written a) (omega (arith, ints, w.0, (below a.lo (lo_holds a)).above)) (omega (arith, ints, w.1, (below a.hi (hi_holds a)).below)))
    (below z)
    (λ e h. let w = within_from_test m s (written a) e in (dvd_trans g d.0 (member_congruent b z (below z h)), record { above = omega (arith, ints, w.0, h.above); below = omega (arith, ints, w.1, h.below) }))
    (λ h. (congruent_by (gcd_of a.step n) g (rest_of a) (rest_of b) z (gcd_divides b.step n a.step n (step_divides a b below) (dvd_refl n)) (dvd_trans g d.0 (rests_agree a b below)) h.0, h.1))
  where
    n : ℕ
    n = 2 ^ width_of m s

    g : ℕ
    g = gcd_of b.step n

    d : IsGcd b.step n g
    d = IsGcd-gcd_of b.step n

pub convert_monotone : (m : DataModel) (s : Scalar) (a b : Num) (z : ℤ) → IsBelow a b → IsConversion m s a z → IsConversion m s b z
convert_monotone m S.Bool a b z below (x, h, e) = (x, below x h, e)
convert_monotone m S.Char a b z below h = plain_monotone m S.Char a b z below h
convert_monotone m S.SChar a b z below h = plain_monotone m S.SChar a b z below h
convert_monotone m S.UChar a b z below h = plain_monotone m S.UChar a b z below h
convert_monotone m S.Short a b z below h = plain_monotone m S.Short a b z below h
convert_monotone m S.UShort a b z below h = plain_monotone m S.UShort a b z below h
convert_monotone m S.Int a b z below h = plain_monotone m S.Int a b z below h
convert_monotone m S.UInt a b z below h = plain_monotone m S.UInt a b z below h
convert_monotone m S.Long a b z below h = plain_monotone m S.Long a b z below h
convert_monotone m S.ULong a b z below h = plain_monotone m S.ULong a b z below h
convert_monotone m S.LLong a b z below h = plain_monotone m S.LLong a b z below h
convert_monotone m S.ULLong a b z below h = plain_monotone m S.ULLong a b z below h
