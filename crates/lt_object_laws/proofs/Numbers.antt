-- Numbers among which further ones stand.
use Rattle.std.proofs.Common.{◌≡◌, ℕ, zero, suc, List, [], ◌∷◌, Bool, true, false, refl, sym, ap, ◌∙◌, arith, eq-eqb, eqb-true}
use Rattle.std.specs.Prelude.{nat_eq}
use Rattle.lt_object_laws.specs.Renamed.{renumbered}

pub same_only : (further : List Bool) (m n : ℕ) → renumbered further m ≡ renumbered further n → m ≡ n
same_only [] m n h = h
same_only (true ∷ further) m n h = same_only further m n (omega (arith, h))
same_only (false ∷ further) zero zero h = refl
same_only (false ∷ further) zero (suc n) h = absurd (omega (arith, h))
same_only (false ∷ further) (suc m) zero h = absurd (omega (arith, h))
same_only (false ∷ further) (suc m) (suc n) h = ap suc (same_only further m n (omega (arith, h)))

tests_by : (b c : Bool) (m n k j : ℕ) → nat_eq m n ≡ b → nat_eq k j ≡ c → (m ≡ n → k ≡ j) → (k ≡ j → m ≡ n) → c ≡ b
tests_by true true m n k j p q f g = refl
tests_by false false m n k j p q f g = refl
tests_by true false m n k j p q f g = sym q ∙ eq-eqb k j (f (eqb-true m n p))
tests_by false true m n k j p q f g = sym (eq-eqb m n (g (eqb-true k j q))) ∙ p

-- numbers are equal where those with further ones among them are
pub tests_same : (further : List Bool) (m n : ℕ) → nat_eq (renumbered further m) (renumbered further n) ≡ nat_eq m n
tests_same further m n =
    tests_by (nat_eq m n) (nat_eq (renumbered further m) (renumbered further n)) m n (renumbered further m) (renumbered further n) refl refl
    (λ e. ap (renumbered further) e) (λ e. same_only further m n e)

-- ---- further numbers

-- whether a number is one of the further ones
abbrev pub flag_at : List Bool → ℕ → Bool
flag_at [] n = false
flag_at (b ∷ further) zero = b
flag_at (b ∷ further) (suc n) = flag_at further n

others_only : (further : List Bool) (n : ℕ) → flag_at further (renumbered further n) ≡ false
others_only [] n = refl
others_only (true ∷ further) n = others_only further n
others_only (false ∷ further) zero = refl
others_only (false ∷ further) (suc n) = others_only further n

-- a further one is none of the others
pub none_of_the_others : (further : List Bool) (k n : ℕ) → flag_at further k ≡ true → nat_eq k (renumbered further n) ≡ false
none_of_the_others further k n h = by (nat_eq k (renumbered further n)) refl
  where
    by : (b : Bool) → nat_eq k (renumbered further n) ≡ b → b ≡ false
    by false e = refl
    by true e = sym h ∙ ap (flag_at further) (eqb-true k (renumbered further n) e) ∙ others_only further n

-- nor is one of the others a further one
pub no_further_one : (further : List Bool) (k n : ℕ) → flag_at further k ≡ true → nat_eq (renumbered further n) k ≡ false
no_further_one further k n h = by (nat_eq (renumbered further n) k) refl
  where
    by : (b : Bool) → nat_eq (renumbered further n) k ≡ b → b ≡ false
    by false e = refl
    by true e = sym h ∙ ap (flag_at further) (sym (eqb-true (renumbered further n) k e)) ∙ others_only further n
