-- What a relation gives on all pairs of members.
use Rattle.std.proofs.Common.{arith, ◌≡◌, refl, sym, ◌∙◌, ap, subst, ℕ, ℤ, pos, ◌≤ℤ◌, ◌<ℤ◌, ◌⊎◌, inl, inr, ◌↔◌, Bool, true, false, to_z, of_z}
use Rattle.std.specs.Prelude.{IsTrue, not, Result, Ok, int_lt, int_le, nat_eq}
use Rattle.std.specs.Ordering.{int_eq}
use Rattle.std.specs.Int.{w128}
use mir.Val.{SFits}
use Rattle.std.proofs.lemmas.Int.{ints, by_lt_z, to_z-of_z}
use Rattle.std.proofs.lemmas.Bool.Decides.{nat_tests, Decides-int_eq}
use Rattle.lt_model.specs.declared.scalar.DataModel.{DataModel}
use Rattle.lt_model.specs.declared.scalar.Scalar.{Scalar}
use Rattle.lt_model.specs.declared.operator.Op.{Op}
use Rattle.lt_model.specs.declared.operator.Op.TheVariants as O
use Rattle.lt_model.specs.declared.operator.Ub.{Ub}
use Rattle.lt_model.specs.Operators.{value_of, truth}
use Rattle.lt_value.specs.Num.{Holds, IsExactly}
use Rattle.lt_value.specs.Refine.{IsRelation, Relates}
use Rattle.lt_value.specs.Table.{opposite_of, IsRelated, IsAnswer}
use Rattle.lt_value.specs.declared.num.Num.{Num}
use Rattle.lt_value.proofs.Orders.{le_true, le_false, le_test, lt_true, lt_false, lt_test}
use Rattle.lt_value.proofs.Members.{lo_holds, hi_holds, lo_fits, hi_fits}
use Rattle.lt_value.proofs.Truths.{relates_is}

abbrev pub plain : ℤ → Result ℤ Ub
plain z = Ok z

pub same_number : (u v : ℤ) → plain u ≡ plain v → u ≡ v
same_number u v e = cc

-- a relation or its opposite holds, and the value says which
abbrev IsDecided : DataModel → Op → Scalar → ℤ → ℤ → Type 0
IsDecided m o s x y = (value_of m o s x y ≡ plain (pos 1)) ⊎ (Relates (opposite_of o) x y × (value_of m o s x y ≡ plain (pos 0)))

by_truth : (P : Type 0) (b : Bool) → (b ≡ false → P) → (plain (truth b) ≡ plain (pos 1)) ⊎ (P × (plain (truth b) ≡ plain (pos 0)))
by_truth P true f = inl refl
by_truth P false f = inr (f refl, refl)

not_false : (b : Bool) → not b ≡ false → b ≡ true
not_false true e = refl
not_false false e = cc

decided : (m : DataModel) (o : Op) (s : Scalar) (x y : ℤ) → IsRelation o → IsDecided m o s x y
decided m O.Lt s x y r = by_truth (y ≤ℤ x) (int_lt x y) (lt_false x y)
decided m O.Le s x y r = by_truth (y <ℤ x) (int_le x y) (le_false x y)
decided m O.Gt s x y r = by_truth (x ≤ℤ y) (int_lt y x) (lt_false y x)
decided m O.Ge s x y r = by_truth (x <ℤ y) (int_le y x) (le_false y x)
decided m O.Eq s x y r = by_truth (x ≡ y → ⊥) (int_eq x y) (λ e is. cc ((Decides-int_eq x y).1 is))
decided m O.Ne s x y r = by_truth (x ≡ y) (not (int_eq x y)) (λ e. (Decides-int_eq x y).0 (not_false (int_eq x y) e))
decided m O.Add s x y r = elim r [ ]
decided m O.Sub s x y r = elim r [ ]
decided m O.Mul s x y r = elim r [ ]
decided m O.Div s x y r = elim r [ ]
decided m O.Rem s x y r = elim r [ ]
decided m O.Shl s x y r = elim r [ ]
decided m O.Shr s x y r = elim r [ ]
decided m O.And s x y r = elim r [ ]
decided m O.Or s x y r = elim r [ ]
decided m O.Xor s x y r = elim r [ ]

-- not both hold
exclusive : (o : Op) (x y : ℤ) → IsRelation o → Relates o x y → Relates (opposite_of o) x y → ⊥
exclusive O.Lt x y r p q = omega (arith, ints)
exclusive O.Le x y r p q = omega (arith, ints)
exclusive O.Gt x y r p q = omega (arith, ints)
exclusive O.Ge x y r p q = omega (arith, ints)
exclusive O.Eq x y r p q = q p
exclusive O.Ne x y r p q = p q
exclusive O.Add x y r p q = elim r [ ]
exclusive O.Sub x y r p q = elim r [ ]
exclusive O.Mul x y r p q = elim r [ ]
exclusive O.Div x y r p q = elim r [ ]
exclusive O.Rem x y r p q = elim r [ ]
exclusive O.Shl x y r p q = elim r [ ]
exclusive O.Shr x y r p q = elim r [ ]
exclusive O.And x y r p q = elim r [ ]
exclusive O.Or x y r p q = elim r [ ]
exclusive O.Xor x y r p q = elim r [ ]

apart : (u : ℤ) → plain (pos 1) ≡ plain u → plain (pos 0) ≡ plain u → ⊥
apart u e f = omega (arith, ints, same_number (pos 1) u e, same_number (pos 0) u f)

no_pair : (t : Bool) (P : Type 0) → (IsTrue t ↔ P) → t ≡ false → P → ⊥
no_pair t P is e h = cc (is.1 h)

-- the relation holds for no pair
pub answers_zero : (m : DataModel) (o : Op) (s : Scalar) (a b n : Num) (t : Bool) → IsRelation o → (IsTrue t ↔ IsRelated o a b) → t ≡ false → ((z : ℤ) → Holds n z ↔ (z ≡ pos 0)) → IsExactly (IsAnswer m o s a b) n
answers_zero m o s a b n t r is e one z = (
  λ h. (a.lo, b.lo, lo_holds a, lo_holds b, zero a.lo b.lo (lo_holds a) (lo_holds b) ∙ ap plain (sym ((one z).0 h))),
  λ h. let (x, y, p, q, v) = h in (one z).1 (sym (same_number (pos 0) z (sym (zero x y p q) ∙ v))),
)
  where
    zero : (x y : ℤ) → Holds a x → Holds b y → value_of m o s x y ≡ plain (pos 0)
    zero x y p q = elim (decided m o s x y r) [
      | inl v ↦ absurd (no_pair t (IsRelated o a b) is e (x, y, p, q, (relates_is m o s x y r).1 v))
      | inr v ↦ v.1
    ]

-- its opposite holds for no pair
pub answers_one : (m : DataModel) (o : Op) (s : Scalar) (a b n : Num) (t : Bool) → IsRelation o → (IsTrue t ↔ IsRelated (opposite_of o) a b) → t ≡ false → ((z : ℤ) → Holds n z ↔ (z ≡ pos 1)) → IsExactly (IsAnswer m o s a b) n
answers_one m o s a b n t r is e one z = (
  λ h. (a.lo, b.lo, lo_holds a, lo_holds b, sure a.lo b.lo (lo_holds a) (lo_holds b) ∙ ap plain (sym ((one z).0 h))),
  λ h. let (x, y, p, q, v) = h in (one z).1 (sym (same_number (pos 1) z (sym (sure x y p q) ∙ v))),
)
  where
    sure : (x y : ℤ) → Holds a x → Holds b y → value_of m o s x y ≡ plain (pos 1)
    sure x y p q = elim (decided m o s x y r) [
      | inl v ↦ v
      | inr v ↦ absurd (no_pair t (IsRelated (opposite_of o) a b) is e (x, y, p, q, v.0))
    ]

-- each holds for some pair
pub answers_both : (m : DataModel) (o : Op) (s : Scalar) (a b n : Num) → IsRelation o → IsRelated o a b → IsRelated (opposite_of o) a b → ((z : ℤ) → Holds n z ↔ ((pos 0 ≤ℤ z) × (z ≤ℤ pos 1))) → IsExactly (IsAnswer m o s a b) n
answers_both m o s a b n r (x, y, p, q, h) (u, v, f, g, k) two z = (forth, back)
  where
    none : value_of m o s u v ≡ plain (pos 0)
    none = elim (decided m o s u v r) [
      | inl e ↦ absurd (exclusive o u v r ((relates_is m o s u v r).1 e) k)
      | inr e ↦ e.1
    ]

    forth : Holds n z → IsAnswer m o s a b z
    forth j =
        by_lt_z (pos 0) z
        (λ up. (x, y, p, q, (relates_is m o s x y r).0 h ∙ ap plain (top z up ((two z).0 j).1)))
        (λ down. (u, v, f, g, none ∙ ap plain (bottom z down ((two z).0 j).0)))
      where
        top : (z : ℤ) → pos 0 <ℤ z → z ≤ℤ pos 1 → pos 1 ≡ z
        top z p q = omega (arith, ints)

        bottom : (z : ℤ) → z ≤ℤ pos 0 → pos 0 ≤ℤ z → pos 0 ≡ z
        bottom z p q = omega (arith, ints)

    back : IsAnswer m o s a b z → Holds n z
    back (x', y', p', q', e) = elim (decided m o s x' y' r) [
      | inl d ↦ let is = same_number (pos 1) z (sym d ∙ e) in (two z).1 (omega (arith, ints), omega (arith, ints))
      | inr d ↦ let is = same_number (pos 0) z (sym d.1 ∙ e) in (two z).1 (omega (arith, ints), omega (arith, ints))
    ]

-- ---- whether a relation can hold, by the ends
pub related_le : (o : Op) (a b : Num) (lo hi : ℤ) → o ≡ O.Le → lo ≡ a.lo → hi ≡ b.hi → IsTrue (int_le lo hi) ↔ IsRelated o a b
related_le o a b lo hi is e f = rw is (
  (λ t. (a.lo, b.hi, lo_holds a, hi_holds b, omega (arith, ints, le_true lo hi t))),
  (λ (x, y, p, q, h). le_test lo hi (omega (arith, ints, p.above, q.below))),
)

pub related_gt : (o : Op) (a b : Num) (lo hi : ℤ) → o ≡ O.Gt → lo ≡ b.lo → hi ≡ a.hi → IsTrue (int_lt lo hi) ↔ IsRelated o a b
related_gt o a b lo hi is e f = rw is (
  (λ t. (a.hi, b.lo, hi_holds a, lo_holds b, omega (arith, ints, lt_true lo hi t))),
  (λ (x, y, p, q, h). lt_test {a = lo} {b = hi} (omega (arith, ints, p.below, q.above))),
)

pub related_ge : (o : Op) (a b : Num) (lo hi : ℤ) → o ≡ O.Ge → lo ≡ b.lo → hi ≡ a.hi → IsTrue (int_le lo hi) ↔ IsRelated o a b
related_ge o a b lo hi is e f = rw is (
  (λ t. (a.hi, b.lo, hi_holds a, lo_holds b, omega (arith, ints, le_true lo hi t))),
  (λ (x, y, p, q, h). le_test lo hi (omega (arith, ints, p.below, q.above))),
)

pub related_eq : (o : Op) (a b : Num) (t : Bool) → o ≡ O.Eq → (IsTrue t ↔ ((z : ℤ) × Holds a z × Holds b z)) → IsTrue t ↔ IsRelated o a b
related_eq o a b t is h = rw is (
  (λ e. let (z, p, q) = h.0 e in (z, z, p, q, refl)),
  (λ (x, y, p, q, e). h.1 (x, p, subst (Holds b) (sym e) q)),
)

pub related_ne : (o : Op) (a b : Num) (t : Bool) → o ≡ O.Ne → (IsTrue t ↔ ((x : ℤ) × (y : ℤ) × Holds a x × Holds b y × (x ≡ y → ⊥))) → IsTrue t ↔ IsRelated o a b
related_ne o a b t is h = rw is h

-- ---- whether two sets are other than one number
same_bits : (x y : ℤ) → SFits w128 x → SFits w128 y → of_z w128 x ≡ of_z w128 y → x ≡ y
same_bits x y f g e = sym (to_z-of_z w128 x f) ∙ ap (to_z w128) e ∙ to_z-of_z w128 y g

test_differs : (p q : ℕ) → IsTrue (not (nat_eq p q)) → p ≡ q → ⊥
test_differs p q t e = grind (arith, nat_tests)

differs_test : (p q : ℕ) → (p ≡ q → ⊥) → IsTrue (not (nat_eq p q))
differs_test p q h = grind (arith, nat_tests)

pub differ_by_other : (a b : Num) → of_z w128 a.lo ≡ of_z w128 b.hi → IsTrue (not (nat_eq (of_z w128 a.hi) (of_z w128 b.lo))) ↔ ((x : ℤ) × (y : ℤ) × Holds a x × Holds b y × (x ≡ y → ⊥))
differ_by_other a b e = (
  λ t. (a.hi, b.lo, hi_holds a, lo_holds b, λ is. test_differs (of_z w128 a.hi) (of_z w128 b.lo) t (ap (of_z w128) is)),
  λ (x, y, p, q, ne). differs_test (of_z w128 a.hi) (of_z w128 b.lo) (λ f. ne (between x y p q (same_bits a.lo b.hi (lo_fits a) (hi_fits b) e) (same_bits a.hi b.lo (hi_fits a) (lo_fits b) f))),
)
  where
    between : (x y : ℤ) → Holds a x → Holds b y → a.lo ≡ b.hi → a.hi ≡ b.lo → x ≡ y
    between x y p q e f = omega (arith, ints, p.above, p.below, q.above, q.below, a.canonical.ordered, b.canonical.ordered)
