-- Factors of variables among terms in order.
use Rattle.std.proofs.Common.{arith, ◌≡◌, refl, sym, ◌∙◌, ap, subst, ℕ, ℤ, pos, ◌+ℤ◌, ◌+◌, ◌<◌, ◌≤◌, ◌≢◌, List, [], ◌∷◌, ◌++◌, length, Bool, true, false, Some, None, inl, inr}
use Rattle.std.specs.Prelude.{if◌then◌else◌, nat_lt, ◌==◌}
use Rattle.std.proofs.lemmas.Int.{ints}
use Rattle.std.proofs.lemmas.Bool.{ne_eqb, eq-eqb}
use Rattle.std.proofs.lemmas.Bool.Decides.{eqb_tells}
use Rattle.lt_lin.specs.Terms.{Term, IsOrderedFrom, factor}
use Rattle.lt_lin.specs.Adding.{first_factor, past_variable, first_variable}

-- all variables are below n
abbrev pub AllBelow : ℕ → List Term → Type 0
AllBelow n [] = Unit {0}
AllBelow n (t ∷ ts) = (t.0 < n) × AllBelow n ts

pub AllBelow-mono : (m n : ℕ) (ts : List Term) → m ≤ n → AllBelow m ts → AllBelow n ts
AllBelow-mono m n [] h b = tt
AllBelow-mono m n (t ∷ ts) h b = (let k : t.0 < m = b.0 in omega arith, AllBelow-mono m n ts h b.1)

pub AllBelow-snoc : (n : ℕ) (ts : List Term) (t : Term) → AllBelow n ts → t.0 < n → AllBelow n (ts ++ t ∷ [])
AllBelow-snoc n [] t b h = (h, tt)
AllBelow-snoc n (s ∷ ts) t b h = (b.0, AllBelow-snoc n ts t b.1 h)

pub IsOrderedFrom-mono : (m n : ℕ) (ts : List Term) → m ≤ n → IsOrderedFrom n ts → IsOrderedFrom m ts
IsOrderedFrom-mono m n [] h o = tt
IsOrderedFrom-mono m n (t ∷ ts) h o = (let k : n ≤ t.0 = o.0 in omega arith, o.1, o.2)

pub IsOrderedFrom-snoc : (m x : ℕ) (c : ℤ) (ts : List Term) → IsOrderedFrom m ts → AllBelow x ts → m ≤ x → c ≢ pos 0 → IsOrderedFrom m (ts ++ (x, c) ∷ [])
IsOrderedFrom-snoc m x c [] o b h n = (h, n, tt)
IsOrderedFrom-snoc m x c (t ∷ ts) o b h n = (o.0, o.1, IsOrderedFrom-snoc (t.0 + 1) x c ts o.2 b.1 (let k : t.0 < x = b.0 in omega arith) n)

pub factor-append : (x : ℕ) (a b : List Term) → factor x (a ++ b) ≡ factor x a +ℤ factor x b
factor-append x [] b = nothing (factor x b)
  where
    nothing : (z : ℤ) → z ≡ pos 0 +ℤ z
    nothing z = omega (arith, ints)
factor-append x (t ∷ a) b = step (if x == t.0 then t.1 else pos 0) (factor x (a ++ b)) (factor x a) (factor x b) (factor-append x a b)
  where
    step : (c w u v : ℤ) → w ≡ u +ℤ v → c +ℤ w ≡ (c +ℤ u) +ℤ v
    step c w u v e = omega (arith, ints)

-- a term of another variable adds nothing
pub factor_other : (x : ℕ) (t : Term) (ts : List Term) → (x ≡ t.0 → ⊥) → factor x (t ∷ ts) ≡ factor x ts
factor_other x t ts h =
    let e : (x == t.0) ≡ false = ne_eqb x t.0 h in
    ap (λ (b : Bool). (if b then t.1 else pos 0) +ℤ factor x ts) e ∙ nothing (factor x ts)
  where
    nothing : (z : ℤ) → pos 0 +ℤ z ≡ z
    nothing z = omega (arith, ints)

pub factor_same : (x : ℕ) (t : Term) (ts : List Term) → x ≡ t.0 → factor x (t ∷ ts) ≡ t.1 +ℤ factor x ts
factor_same x t ts h =
    let e : (x == t.0) ≡ true = eq-eqb x t.0 h in
    ap (λ (b : Bool). (if b then t.1 else pos 0) +ℤ factor x ts) e

pub factor_below : (x m : ℕ) (ts : List Term) → IsOrderedFrom m ts → x < m → factor x ts ≡ pos 0
factor_below x m [] o h = refl
factor_below x m (t ∷ ts) o h =
    let k : m ≤ t.0 = o.0 in
    factor_other x t ts (λ e. omega arith) ∙ factor_below x (t.0 + 1) ts o.2 (omega arith)

pub factor_above : (x n : ℕ) (ts : List Term) → AllBelow n ts → n ≤ x → factor x ts ≡ pos 0
factor_above x n [] b h = refl
factor_above x n (t ∷ ts) b h =
    let k : t.0 < n = b.0 in
    factor_other x t ts (λ e. omega arith) ∙ factor_above x n ts b.1 h

right_zero : (z : ℤ) → z +ℤ pos 0 ≡ z
right_zero z = omega (arith, ints)

pub factor_head : (t : Term) (ts : List Term) (m : ℕ) → IsOrderedFrom m (t ∷ ts) → factor t.0 (t ∷ ts) ≡ t.1
factor_head t ts m o =
    factor_same t.0 t ts refl ∙ ap (λ z. t.1 +ℤ z) (factor_below t.0 (t.0 + 1) ts o.2 (omega arith)) ∙ right_zero t.1

-- ---- the first term
pub factor_first : (x : ℕ) (ts : List Term) → IsOrderedFrom x ts → factor x ts ≡ first_factor x ts
factor_first x [] o = refl
factor_first x (t ∷ ts) o =
    let k : x ≤ t.0 = o.0 in
    ap (λ z. (if x == t.0 then t.1 else pos 0) +ℤ z) (factor_below x (t.0 + 1) ts o.2 (omega arith)) ∙ right_zero (if x == t.0 then t.1 else pos 0)

pub past_same : (x : ℕ) (t : Term) (ts : List Term) → x ≡ t.0 → past_variable x (t ∷ ts) ≡ ts
past_same x t ts h = rw (eq-eqb x t.0 h) refl

pub past_other : (x : ℕ) (t : Term) (ts : List Term) → (x ≡ t.0 → ⊥) → past_variable x (t ∷ ts) ≡ t ∷ ts
past_other x t ts h = rw (ne_eqb x t.0 h) refl

pub past_ordered : (x : ℕ) (ts : List Term) → IsOrderedFrom x ts → IsOrderedFrom (x + 1) (past_variable x ts)
past_ordered x [] o = tt
past_ordered x (t ∷ ts) o = elim (eqb_tells x t.0) [
  | inl p ↦
      let a : t.0 + 1 ≡ x + 1 = omega (arith, p.1) in
      subst (IsOrderedFrom (x + 1)) (sym (past_same x t ts p.1)) (subst (λ (n : ℕ). IsOrderedFrom n ts) a o.2)
  | inr p ↦
      let k : x ≤ t.0 = o.0 in
      let n : x ≢ t.0 = p.1 in
      subst (IsOrderedFrom (x + 1)) (sym (past_other x t ts p.1)) (omega arith, o.1, o.2)
]

pub factor_past : (y x : ℕ) (ts : List Term) → (y ≡ x → ⊥) → factor y ts ≡ factor y (past_variable x ts)
factor_past y x [] h = refl
factor_past y x (t ∷ ts) h = elim (eqb_tells x t.0) [
  | inl p ↦ factor_other y t ts (λ e. h (e ∙ sym p.1)) ∙ ap (factor y) (sym (past_same x t ts p.1))
  | inr p ↦ ap (factor y) (sym (past_other x t ts p.1))
]

pub length-past : (x : ℕ) (ts : List Term) → length (past_variable x ts) ≤ length ts
length-past x [] = omega arith
length-past x (t ∷ ts) = elim (eqb_tells x t.0) [
  | inl p ↦ omega (arith, ap length (past_same x t ts p.1))
  | inr p ↦ omega (arith, ap length (past_other x t ts p.1))
]

-- ---- the lesser of two first variables
-- x is at most each variable of both lists, and the first of one
pub record IsFirst (x least : ℕ) (left right : List Term) : Type 0 where
  pub reached : least ≤ x
  pub left_ordered : IsOrderedFrom x left
  pub right_ordered : IsOrderedFrom x right
  pub shorter : length (past_variable x left) + length (past_variable x right) < length left + length right

pub first_variable_is : (left right : List Term) (least x : ℕ) → IsOrderedFrom least left → IsOrderedFrom least right → first_variable left right ≡ Some x → IsFirst x least left right
first_variable_is [] [] least x o p e = absurd (cc)
first_variable_is [] (t ∷ ts) least x o p e =
    let is : t.0 ≡ x = cc in
    subst (λ (y : ℕ). IsFirst y least [] (t ∷ ts)) is (record {
      reached = p.0;
      left_ordered = tt;
      right_ordered = (omega arith, p.1, p.2);
      shorter = omega (arith, ap length (past_same t.0 t ts refl));
    })
first_variable_is (s ∷ ss) [] least x o p e =
    let is : s.0 ≡ x = cc in
    subst (λ (y : ℕ). IsFirst y least (s ∷ ss) []) is (record {
      reached = o.0;
      left_ordered = (omega arith, o.1, o.2);
      right_ordered = tt;
      shorter = omega (arith, ap length (past_same s.0 s ss refl));
    })
first_variable_is (s ∷ ss) (t ∷ ts) least x o p e = by_test (nat_lt t.0 s.0) refl e
  where
    by_test : (b : Bool) → nat_lt t.0 s.0 ≡ b → Some (if b then t.0 else s.0) ≡ Some x → IsFirst x least (s ∷ ss) (t ∷ ts)
    by_test true q e =
        let is : t.0 ≡ x = cc in
        let less : t.0 < s.0 = grind arith in
        subst (λ (y : ℕ). IsFirst y least (s ∷ ss) (t ∷ ts)) is (record {
          reached = p.0;
          left_ordered = (omega arith, o.1, o.2);
          right_ordered = (omega arith, p.1, p.2);
          shorter = omega (arith, ap length (past_same t.0 t ts refl), length-past t.0 (s ∷ ss));
        })
    by_test false q e =
        let is : s.0 ≡ x = cc in
        let less : s.0 ≤ t.0 = grind arith in
        subst (λ (y : ℕ). IsFirst y least (s ∷ ss) (t ∷ ts)) is (record {
          reached = o.0;
          left_ordered = (omega arith, o.1, o.2);
          right_ordered = (omega arith, p.1, p.2);
          shorter = omega (arith, ap length (past_same s.0 s ss refl), length-past s.0 (t ∷ ts));
        })

pub first_variable_none : (left right : List Term) → first_variable left right ≡ None → (left ≡ []) × (right ≡ [])
first_variable_none [] [] e = (refl, refl)
first_variable_none [] (t ∷ ts) e = absurd (cc)
first_variable_none (s ∷ ss) [] e = absurd (cc)
first_variable_none (s ∷ ss) (t ∷ ts) e = absurd (cc)

-- ---- terms in order with the same factors are the same
pub same_terms : (m n : ℕ) (a b : List Term) → IsOrderedFrom m a → IsOrderedFrom n b → ((x : ℕ) → factor x a ≡ factor x b) → a ≡ b
same_terms m n [] [] o p h = refl
same_terms m n [] (t ∷ b) o p h = absurd (p.1 (sym (factor_head t b n p) ∙ sym (h t.0)))
same_terms m n (s ∷ a) [] o p h = absurd (o.1 (sym (factor_head s a m o) ∙ h s.0))
same_terms m n (s ∷ a) (t ∷ b) o p h =
    let ev : s.0 ≡ t.0 = same_variable in
    let ec : s.1 ≡ t.1 = sym (factor_head s a m o) ∙ h s.0 ∙ ap (λ y. factor y (t ∷ b)) ev ∙ factor_head t b n p in
    let e : s ≡ t = ap (λ (x : ℕ). (x, s.1)) ev ∙ ap (λ (c : ℤ). (t.0, c)) ec in
    let rest : a ≡ b = same_terms (s.0 + 1) (t.0 + 1) a b o.2 p.2 (λ x. same_later ev ec x) in
    cc
  where
    same_variable : s.0 ≡ t.0
    same_variable = by_order (s.0) (t.0) (λ l. o.1 (sym (factor_head s a m o) ∙ h s.0 ∙ factor_below s.0 t.0 (t ∷ b) (omega arith, p.1, p.2) l)) (λ l. p.1 (sym (factor_head t b n p) ∙ sym (h t.0) ∙ factor_below t.0 s.0 (s ∷ a) (omega arith, o.1, o.2) l))
      where
        by_order : (u v : ℕ) → (u < v → ⊥) → (v < u → ⊥) → u ≡ v
        by_order u v f g = omega arith

    same_later : s.0 ≡ t.0 → s.1 ≡ t.1 → (x : ℕ) → factor x a ≡ factor x b
    same_later ev ec x = elim (eqb_tells x s.0) [
      | inl q ↦
          factor_below x (s.0 + 1) a o.2 (omega (arith, q.1)) ∙ sym (factor_below x (t.0 + 1) b p.2 (omega (arith, q.1)))
      | inr q ↦ sym (factor_other x s a q.1) ∙ h x ∙ factor_other x t b (λ e. q.1 (e ∙ sym ev))
    ]
