-- Types are the same exactly where they are equal.
use Rattle.std.proofs.Common.{◌≡◌, Bool, true, false, ◌&&◌, ◌==◌, refl, sym, ap, ◌∙◌, true≢false, rules}
use Rattle.std.proofs.lemmas.Bool.{eqb-true, eq-eqb}
use denote.Enum.Bare.{same_true, true_same}
use Rattle.lt_model.specs.contracts.scalar.Scalar.{the_type}
use Rattle.lt_tree.specs.Typing.Types.{CType, CTypes, Void, Num, Pointer, Array, Struct, Function, Floating, Qualified, no_types, a_type, same, all_same, same_qualifiers, same_bool}

pub and_left : (a b : Bool) → (a && b) ≡ true → a ≡ true
and_left true b h = refl
and_left false b h = absurd (true≢false (sym h))

pub and_right : (a b : Bool) → (a && b) ≡ true → b ≡ true
and_right true b h = h
and_right false b h = absurd (true≢false (sym h))

pub and_both : (a b : Bool) → a ≡ true → b ≡ true → (a && b) ≡ true
and_both a b p q = ap (λ x. x && b) p ∙ q

bool_exact : (a b : Bool) → same_bool a b ≡ true → a ≡ b
bool_exact true b h = sym h
bool_exact false true h = absurd (true≢false (sym h))
bool_exact false false h = refl

bool_self : (a : Bool) → same_bool a a ≡ true
bool_self true = refl
bool_self false = refl

quals_exact : (a b c d : Bool) → same_qualifiers (record { constant = a; volatile = b }) (record { constant = c; volatile = d }) ≡ true → (a ≡ c) × (b ≡ d)
quals_exact true true true true h = (refl, refl)
quals_exact true true true false h = absurd (true≢false (sym h))
quals_exact true true false true h = absurd (true≢false (sym h))
quals_exact true true false false h = absurd (true≢false (sym h))
quals_exact true false true true h = absurd (true≢false (sym h))
quals_exact true false true false h = (refl, refl)
quals_exact true false false true h = absurd (true≢false (sym h))
quals_exact true false false false h = absurd (true≢false (sym h))
quals_exact false true true true h = absurd (true≢false (sym h))
quals_exact false true true false h = absurd (true≢false (sym h))
quals_exact false true false true h = (refl, refl)
quals_exact false true false false h = absurd (true≢false (sym h))
quals_exact false false true true h = absurd (true≢false (sym h))
quals_exact false false true false h = absurd (true≢false (sym h))
quals_exact false false false true h = absurd (true≢false (sym h))
quals_exact false false false false h = (refl, refl)

quals_self : (a b : Bool) → same_qualifiers (record { constant = a; volatile = b }) (record { constant = a; volatile = b }) ≡ true
quals_self true true = refl
quals_self true false = refl
quals_self false true = refl
quals_self false false = refl

mutual
  pub same_exact : (x y : CType) → same x y ≡ true → x ≡ y
  same_exact Void Void h = refl
  same_exact (Num s) (Num r) h = ap Num (same_true the_type (search rules) s r h)
  same_exact (Pointer x) (Pointer y) h = ap Pointer (same_exact x y h)
  same_exact (Array x n) (Array y k) h =
      ap (λ a. Array a n) (same_exact x y (and_right (n == k) (same x y) h)) ∙ ap (Array y) (eqb-true n k (and_left (n == k) (same x y) h))
  same_exact (Struct j) (Struct k) h = ap Struct (eqb-true j k h)
  same_exact (Function x xs a) (Function y ys b) h =
      let first = and_left (same x y && all_same xs ys) (same_bool a b) h in
      ap (λ z. Function z xs a) (same_exact x y (and_left (same x y) (all_same xs ys) first))
      ∙ ap (λ zs. Function y zs a) (all_exact xs ys (and_right (same x y) (all_same xs ys) first))
      ∙ ap (Function y ys) (bool_exact a b (and_right (same x y && all_same xs ys) (same_bool a b) h))
  same_exact Floating Floating h = refl
  same_exact (Qualified p x) (Qualified q y) h =
      let e = quals_exact p.constant p.volatile q.constant q.volatile (and_left (same_qualifiers p q) (same x y) h) in
      ap (Qualified p) (same_exact x y (and_right (same_qualifiers p q) (same x y) h))
      ∙ ap (λ c. Qualified (record { constant = c; volatile = p.volatile }) y) e.0 ∙ ap (λ v. Qualified (record { constant = q.constant; volatile = v }) y) e.1
  same_exact x y h = absurd (true≢false (sym h))

  all_exact : (xs ys : CTypes) → all_same xs ys ≡ true → xs ≡ ys
  all_exact no_types no_types h = refl
  all_exact (a_type x xs) (a_type y ys) h =
      ap (λ z. a_type z xs) (same_exact x y (and_left (same x y) (all_same xs ys) h)) ∙ ap (a_type y) (all_exact xs ys (and_right (same x y) (all_same xs ys) h))
  all_exact xs ys h = absurd (true≢false (sym h))

mutual
  pub same_self : (x : CType) → same x x ≡ true
  same_self Void = refl
  same_self (Num s) = true_same the_type s s refl
  same_self (Pointer x) = same_self x
  same_self (Array x n) = and_both (n == n) (same x x) (eq-eqb n n refl) (same_self x)
  same_self (Struct k) = eq-eqb k k refl
  same_self (Function x xs a) = and_both (same x x && all_same xs xs) (same_bool a a) (and_both (same x x) (all_same xs xs) (same_self x) (all_self xs)) (bool_self a)
  same_self Floating = refl
  same_self (Qualified q x) = and_both (same_qualifiers q q) (same x x) (quals_self q.constant q.volatile) (same_self x)

  all_self : (xs : CTypes) → all_same xs xs ≡ true
  all_self no_types = refl
  all_self (a_type x xs) = and_both (same x x) (all_same xs xs) (same_self x) (all_self xs)
