-- Two values stand in a relation exactly where its operator gives 1.
use Rattle.std.proofs.Common.{arith, ◌≡◌, refl, ap, ℕ, ℤ, pos, ◌≤ℤ◌, ◌<ℤ◌, ◌↔◌, Bool, true, false}
use Rattle.std.specs.Prelude.{Result, Ok, Err, not, int_lt, int_le}
use Rattle.std.specs.Ordering.{int_eq}
use Rattle.std.proofs.lemmas.Int.{ints}
use Rattle.std.proofs.lemmas.Bool.Decides.{Decides-int_eq}
use borrow.Author.Differences.{up}
use Rattle.lt_model.specs.declared.scalar.DataModel.{DataModel}
use Rattle.lt_model.specs.declared.scalar.Scalar.{Scalar}
use Rattle.lt_model.specs.declared.operator.Op.{Op}
use Rattle.lt_model.specs.declared.operator.Op.TheVariants as O
use Rattle.lt_model.specs.declared.operator.Ub.{Ub}
use Rattle.lt_model.specs.Operators.{value_of, truth}
use Rattle.lt_value.specs.Refine.{IsRelation, Relates}

abbrev value_in : Result ℤ Ub → ℕ
value_in (Ok z) = up z
value_in (Err kind) = 0

abbrev bit : Bool → ℕ
bit true = 1
bit false = 0

abbrev answer : Bool → Result ℤ Ub
answer b = Ok (truth b)

one_apart : (n m : ℕ) → n ≡ 0 → m ≡ 1 → n ≡ m → ⊥
one_apart n m p q e = omega arith

decided : (b : Bool) → (b ≡ false → ⊥) → b ≡ true
decided true f = refl
decided false f = absurd (f refl)

true_is_one : (b : Bool) (p : Type 0) → (p → b ≡ true) → (b ≡ true → p) → p ↔ (answer b ≡ Ok (pos 1))
true_is_one true p f g = (λ h. refl, λ e. g refl)
true_is_one false p f g = (λ h. absurd (one_apart 0 1 refl refl (ap bit (f h))), λ e. absurd (one_apart 0 1 refl refl (ap value_in e)))

lt_is : (x y : ℤ) → (x <ℤ y) ↔ (int_lt x y ≡ true)
lt_is x y = (λ h. decided (int_lt x y) (λ e. omega (arith, ints)), λ e. omega (arith, ints))

le_is : (x y : ℤ) → (x ≤ℤ y) ↔ (int_le x y ≡ true)
le_is x y = (λ h. decided (int_le x y) (λ e. omega (arith, ints)), λ e. omega (arith, ints))

ne_is : (x y : ℤ) → (x ≡ y → ⊥) ↔ (not (int_eq x y) ≡ true)
ne_is x y = (forth (int_eq x y) (Decides-int_eq x y).0, back (int_eq x y) (Decides-int_eq x y).1)
  where
    forth : (b : Bool) → (b ≡ true → x ≡ y) → (x ≡ y → ⊥) → not b ≡ true
    forth true f h = absurd (h (f refl))
    forth false f h = refl

    back : (b : Bool) → (x ≡ y → b ≡ true) → not b ≡ true → x ≡ y → ⊥
    back true f t e = one_apart 0 1 refl refl (ap bit t)
    back false f t e = one_apart 0 1 refl refl (ap bit (f e))

pub relates_is : (m : DataModel) (o : Op) (s : Scalar) (x y : ℤ) → IsRelation o → Relates o x y ↔ (value_of m o s x y ≡ Ok (pos 1))
relates_is m O.Lt s x y h = true_is_one (int_lt x y) (x <ℤ y) (lt_is x y).0 (lt_is x y).1
relates_is m O.Le s x y h = true_is_one (int_le x y) (x ≤ℤ y) (le_is x y).0 (le_is x y).1
relates_is m O.Gt s x y h = true_is_one (int_lt y x) (y <ℤ x) (lt_is y x).0 (lt_is y x).1
relates_is m O.Ge s x y h = true_is_one (int_le y x) (y ≤ℤ x) (le_is y x).0 (le_is y x).1
relates_is m O.Eq s x y h = true_is_one (int_eq x y) (x ≡ y) (Decides-int_eq x y).1 (Decides-int_eq x y).0
relates_is m O.Ne s x y h = true_is_one (not (int_eq x y)) (x ≡ y → ⊥) (ne_is x y).0 (ne_is x y).1
relates_is m o s x y h = elim h [ ]
