-- What a relation leaves of its two sides.
use Rattle.std.proofs.Common.{arith, ◌≡◌, refl, sym, ◌∙◌, ℤ, pos, ◌+ℤ◌, ◌-ℤ◌, ◌≤ℤ◌, ◌<ℤ◌, ◌<◌}
use Rattle.std.proofs.lemmas.Int.{ints, by_lt_z}
use Rattle.lt_value.specs.Num.{Holds, IsMeet, IsLeast, IsExactly, IsEmpty}
use Rattle.lt_value.specs.Refine.{IsLeft, IsRight, IsRefined, IsUnrelated, IsLessBy, IsMoreBy, IsSame, IsOther, IsUpTo, IsFrom, IsBut}
use Rattle.lt_value.specs.declared.num.Num.{Num}
use Rattle.lt_value.proofs.Members.{lo_holds, hi_holds}
use Rattle.lt_value.proofs.Cuts.{least_as, least_from_exact}

-- ---- less by a gap: the other side's end decides
pub less_refined : (a b l r : Num) (gap top least : ℤ) → IsExactly (IsUpTo a top) l → IsExactly (IsFrom b least) r → top ≡ b.hi -ℤ gap → least ≡ a.lo +ℤ gap → IsRefined (IsLessBy gap) a b l r
less_refined a b l r gap top least p q e f = record {
  left = least_as (IsUpTo a top) (IsLeft (IsLessBy gap) a b) l
      (λ z h. (h.0, (b.hi, hi_holds b, omega (arith, ints, h.1))))
      (λ z h. (h.0, omega (arith, ints, h.1.1.below, h.1.2)))
      (least_from_exact (IsUpTo a top) l p);
  right = least_as (IsFrom b least) (IsRight (IsLessBy gap) a b) r
      (λ z h. (h.0, (a.lo, lo_holds a, omega (arith, ints, h.1))))
      (λ z h. (h.0, omega (arith, ints, h.1.1.above, h.1.2)))
      (least_from_exact (IsFrom b least) r q);
}

pub less_none_left : (a b : Num) (gap top : ℤ) → IsEmpty (IsUpTo a top) → top ≡ b.hi -ℤ gap → IsUnrelated (IsLessBy gap) a b
less_none_left a b gap top none e x y p q r = none x (p, omega (arith, ints, q.below, r))

pub less_none_right : (a b : Num) (gap least : ℤ) → IsEmpty (IsFrom b least) → least ≡ a.lo +ℤ gap → IsUnrelated (IsLessBy gap) a b
less_none_right a b gap least none e x y p q r = none y (q, omega (arith, ints, p.above, r))

pub more_refined : (a b l r : Num) (gap gap' : ℤ) → gap' ≡ gap → IsRefined (IsLessBy gap') b a r l → IsRefined (IsMoreBy gap) a b l r
more_refined a b l r gap gap' e is = rw (sym e) (record { left = is.right; right = is.left })

-- ---- equal and unequal
pub same_refined : (a b m : Num) → IsMeet a b m → IsRefined IsSame a b m m
same_refined a b m is = record {
  left = record {
    holds = λ z h. (is z).1 (h.0, subst_holds b h.1.0 z (sym h.1.2) h.1.1);
    least = λ o all z h. all z (((is z).0 h).0, (z, ((is z).0 h).1, refl));
  };
  right = record {
    holds = λ z h. (is z).1 (subst_holds a h.1.0 z h.1.2 h.1.1, h.0);
    least = λ o all z h. all z (((is z).0 h).1, (z, ((is z).0 h).0, refl));
  };
}
  where
    subst_holds : (n : Num) (x y : ℤ) → x ≡ y → Holds n x → Holds n y
    subst_holds n x y e h = rw (sym e) h

-- a single number is the only one to differ from
pub other_by_one : (a b m : Num) (k : ℤ) → k ≡ b.lo → b.step ≡ 0 → IsLeast (IsBut a k) m → IsLeast (IsLeft IsOther a b) m
other_by_one a b m k same one = least_as (IsBut a k) (IsLeft IsOther a b) m
    (λ z h. (h.0, (b.lo, lo_holds b, λ e. h.1 (e ∙ sym same))))
    (λ z h. (h.0, λ e. h.1.2 (omega (arith, ints, b.canonical.one_low one, h.1.1.above, h.1.1.below))))

pub other_none : (a b : Num) (k : ℤ) → k ≡ b.lo → b.step ≡ 0 → IsEmpty (IsBut a k) → IsEmpty (IsLeft IsOther a b)
other_none a b k same one none z h = none z (h.0, λ e. h.1.2 (omega (arith, ints, b.canonical.one_low one, h.1.1.above, h.1.1.below)))

-- one of two members differs from any number
some_other : (b : Num) (z : ℤ) → 0 < b.step → (y : ℤ) × Holds b y × (z ≡ y → ⊥)
some_other b z some = by_lt_z b.lo z
    (λ less. (b.lo, lo_holds b, λ e. omega (arith, ints)))
    (λ le. (b.hi, hi_holds b, λ e. omega (arith, ints, b.canonical.several some)))

pub other_by_several : (a b : Num) → 0 < b.step → IsLeast (IsLeft IsOther a b) a
other_by_several a b some = record { holds = λ z h. h.0; least = λ m all z h. all z (h, some_other b z some) }

pub other_refined : (a b l r : Num) → IsLeast (IsLeft IsOther a b) l → IsLeast (IsLeft IsOther b a) r → IsRefined IsOther a b l r
other_refined a b l r p q = record {
  left = p;
  right = least_as (IsLeft IsOther b a) (IsRight IsOther a b) r
      (λ z h. (h.0, (h.1.0, h.1.1, λ e. h.1.2 (sym e))))
      (λ z h. (h.0, (h.1.0, h.1.1, λ e. h.1.2 (sym e))))
      q;
}

-- ---- from one form of a relation to another
pub refined_as : (r s : ℤ → ℤ → Type 0) (a b l u : Num) → ((x y : ℤ) → r x y → s x y) → ((x y : ℤ) → s x y → r x y) → IsRefined r a b l u → IsRefined s a b l u
refined_as r s a b l u f g is = record {
  left = least_as (IsLeft r a b) (IsLeft s a b) l
      (λ z h. (h.0, (h.1.0, h.1.1, f z h.1.0 h.1.2))) (λ z h. (h.0, (h.1.0, h.1.1, g z h.1.0 h.1.2))) is.left;
  right = least_as (IsRight r a b) (IsRight s a b) u
      (λ z h. (h.0, (h.1.0, h.1.1, f h.1.0 z h.1.2))) (λ z h. (h.0, (h.1.0, h.1.1, g h.1.0 z h.1.2))) is.right;
}

pub unrelated_as : (r s : ℤ → ℤ → Type 0) (a b : Num) → ((x y : ℤ) → s x y → r x y) → IsUnrelated r a b → IsUnrelated s a b
unrelated_as r s a b g is x y p q h = is x y p q (g x y h)

pub lt_by_one : (x y : ℤ) → IsLessBy (pos 1) x y → x <ℤ y
lt_by_one x y h = omega (arith, ints, h)

pub one_by_lt : (x y : ℤ) → x <ℤ y → IsLessBy (pos 1) x y
one_by_lt x y h = omega (arith, ints, h)

pub le_by_none : (x y : ℤ) → IsLessBy (pos 0) x y → x ≤ℤ y
le_by_none x y h = omega (arith, ints, h)

pub none_by_le : (x y : ℤ) → x ≤ℤ y → IsLessBy (pos 0) x y
none_by_le x y h = omega (arith, ints, h)
