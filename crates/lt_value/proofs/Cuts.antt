-- The members of a `Num` up to a limit, from one on, and without one number.
use Rattle.std.proofs.Common.{arith, ◌≡◌, ℤ, pos, ◌+ℤ◌, ◌-ℤ◌, ◌≤ℤ◌, ◌⊎◌, inl, inr, ◌↔◌}
use Rattle.std.specs.Prelude.{Option, Some, None, IfSome, IfNone}
use Rattle.std.proofs.lemmas.Int.{ints, by_lt_z}
use Rattle.lt_value.specs.Num.{Holds, IsBelow, IsMeet, AreApart, IsLeast, IsExactly, IsEmpty}
use Rattle.lt_value.specs.Refine.{IsUpTo, IsFrom, IsBut}
use Rattle.lt_value.specs.declared.num.Num.{Num}

pub least_as : (s t : ℤ → Type 0) (n : Num) → ((z : ℤ) → s z → t z) → ((z : ℤ) → t z → s z) → IsLeast s n → IsLeast t n
least_as s t n f g l = record { holds = λ z h. l.holds z (g z h); least = λ m all. l.least m (λ z h. all z (f z h)) }

pub least_from_exact : (s : ℤ → Type 0) (n : Num) → IsExactly s n → IsLeast s n
least_from_exact s n is = record { holds = λ z h. (is z).1 h; least = λ m all z h. all z ((is z).0 h) }

-- what the meet with an interval leaves; the interval's ends are as the code computes them
pub met_up_to : (n b m : Num) (lo limit top : ℤ) → lo ≡ n.lo → limit ≡ top → ((z : ℤ) → Holds b z ↔ ((lo ≤ℤ z) × (z ≤ℤ limit))) → IsMeet n b m → IsExactly (IsUpTo n top) m
met_up_to n b m lo limit top e f is meets z =
    (λ h. (((meets z).0 h).0, omega (arith, ints, ((is z).0 ((meets z).0 h).1).1)), λ h. (meets z).1 (h.0, (is z).1 (omega (arith, ints, h.0.above), omega (arith, ints, h.1))))

pub unmet_up_to : (n b : Num) (lo limit top : ℤ) → lo ≡ n.lo → limit ≡ top → ((z : ℤ) → Holds b z ↔ ((lo ≤ℤ z) × (z ≤ℤ limit))) → AreApart n b → IsEmpty (IsUpTo n top)
unmet_up_to n b lo limit top e f is apart z h = apart z h.0 ((is z).1 (omega (arith, ints, h.0.above), omega (arith, ints, h.1)))

pub met_from : (n b m : Num) (hi limit least : ℤ) → hi ≡ n.hi → limit ≡ least → ((z : ℤ) → Holds b z ↔ ((limit ≤ℤ z) × (z ≤ℤ hi))) → IsMeet n b m → IsExactly (IsFrom n least) m
met_from n b m hi limit least e f is meets z =
    (λ h. (((meets z).0 h).0, omega (arith, ints, ((is z).0 ((meets z).0 h).1).0)), λ h. (meets z).1 (h.0, (is z).1 (omega (arith, ints, h.1), omega (arith, ints, h.0.below))))

pub unmet_from : (n b : Num) (hi limit least : ℤ) → hi ≡ n.hi → limit ≡ least → ((z : ℤ) → Holds b z ↔ ((limit ≤ℤ z) × (z ≤ℤ hi))) → AreApart n b → IsEmpty (IsFrom n least)
unmet_from n b hi limit least e f is apart z h = apart z h.0 ((is z).1 (omega (arith, ints, h.1), omega (arith, ints, h.0.below)))

-- another number is below k or above it
pub either_side : (z k : ℤ) → (z ≡ k → ⊥) → (z ≤ℤ (k -ℤ pos 1)) ⊎ ((k +ℤ pos 1) ≤ℤ z)
either_side z k ne = by_lt_z z k
    (λ less. inl (omega (arith, ints)))
    (λ more. by_lt_z k z (λ up. inr (omega (arith, ints))) (λ le. absurd (ne (omega (arith, ints)))))

-- the two parts of what is not k
pub record AreSides (k low high : ℤ) : Type 0 where
  pub under : low ≡ k -ℤ pos 1
  pub over : high ≡ k +ℤ pos 1

but_below : (n : Num) (k low high z : ℤ) → AreSides k low high → IsUpTo n low z → IsBut n k z
but_below n k low high z s h = (h.0, λ e. omega (arith, ints, h.1, s.under))

but_above : (n : Num) (k low high z : ℤ) → AreSides k low high → IsFrom n high z → IsBut n k z
but_above n k low high z s h = (h.0, λ e. omega (arith, ints, h.1, s.over))

side_of : (n : Num) (k low high z : ℤ) → AreSides k low high → IsBut n k z → IsUpTo n low z ⊎ IsFrom n high z
side_of n k low high z s h = elim (either_side z k h.1) [ inl le ↦ inl (h.0, omega (arith, ints, s.under)) | inr le ↦ inr (h.0, omega (arith, ints, s.over)) ]

pub but_none : (n : Num) (k low high : ℤ) → AreSides k low high → IsEmpty (IsUpTo n low) → IsEmpty (IsFrom n high) → IsEmpty (IsBut n k)
but_none n k low high s p q z h = elim (side_of n k low high z s h) [ inl b ↦ p z b | inr b ↦ q z b ]

pub but_only_above : (n m : Num) (k low high : ℤ) → AreSides k low high → IsEmpty (IsUpTo n low) → IsExactly (IsFrom n high) m → IsLeast (IsBut n k) m
but_only_above n m k low high s p q = least_as (IsFrom n high) (IsBut n k) m (λ z h. but_above n k low high z s h)
    (λ z h. elim (side_of n k low high z s h) [ inl b ↦ absurd (p z b) | inr b ↦ b ])
    (least_from_exact (IsFrom n high) m q)

pub but_only_below : (n m : Num) (k low high : ℤ) → IsExactly (IsUpTo n low) m → IsEmpty (IsFrom n high) → AreSides k low high → IsLeast (IsBut n k) m
but_only_below n m k low high p q s = least_as (IsUpTo n low) (IsBut n k) m (λ z h. but_below n k low high z s h)
    (λ z h. elim (side_of n k low high z s h) [ inl b ↦ b | inr b ↦ absurd (q z b) ])
    (least_from_exact (IsUpTo n low) m p)

pub but_joined : (n l u m : Num) (k low high : ℤ) → IsExactly (IsUpTo n low) l → IsExactly (IsFrom n high) u → IsBelow l m → IsBelow u m → ((o : Num) → IsBelow l o → IsBelow u o → IsBelow m o) → AreSides k low high → IsLeast (IsBut n k) m
but_joined n l u m k low high p q left right least s = record {
  holds = λ z h. elim (side_of n k low high z s h) [ inl b ↦ left z ((p z).1 b) | inr b ↦ right z ((q z).1 b) ];
  least = λ o all. least o (λ z h. all z (but_below n k low high z s ((p z).0 h))) (λ z h. all z (but_above n k low high z s ((q z).0 h)));
}

-- ---- answers that may be none
pub if_some_as : {A : Type 0} (p q : A → Type 0) → ((x : A) → p x → q x) → (o : Option A) → IfSome o p → IfSome o q
if_some_as p q f None h = h
if_some_as p q f (Some x) h = f x h

pub if_none_as : {A : Type 0} (p q : Type 0) → (p → q) → (o : Option A) → IfNone o p → IfNone o q
if_none_as p q f None h = f h
if_none_as p q f (Some x) h = h

pub if_none_of : {A : Type 0} (p : Type 0) (o : Option A) → p → IfNone o p
if_none_of p None h = h
if_none_of p (Some x) h = tt

pub if_but_above : (n : Num) (k low high : ℤ) (o : Option Num) → IsEmpty (IsUpTo n low) → IfSome o (IsExactly (IsFrom n high)) → AreSides k low high → IfSome o (IsLeast (IsBut n k))
if_but_above n k low high o p q s = if_some_as (IsExactly (IsFrom n high)) (IsLeast (IsBut n k)) (λ m is. but_only_above n m k low high s p is) o q

pub if_but_none : (n : Num) (k low high : ℤ) (o : Option Num) → IsEmpty (IsUpTo n low) → IfNone o (IsEmpty (IsFrom n high)) → AreSides k low high → IfNone o (IsEmpty (IsBut n k))
if_but_none n k low high o p q s = if_none_as (IsEmpty (IsFrom n high)) (IsEmpty (IsBut n k)) (but_none n k low high s p) o q
