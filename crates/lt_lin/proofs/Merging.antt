-- Two lists of terms are added while both are gone along.
use Rattle.std.proofs.Common.{arith, ◌≡◌, refl, sym, ◌∙◌, ap, subst, ℕ, ℤ, pos, ◌+ℤ◌, ◌*ℤ◌, ◌+◌, ◌<◌, ◌≤◌, List, [], ◌∷◌, ◌++◌, length, Bool, true, false, Some, None, inl, inr}
use Rattle.std.specs.Prelude.{if◌then◌else◌, nat_lt, ◌==◌}
use Rattle.std.specs.Ordering.{int_eq}
use Rattle.std.proofs.lemmas.Int.{ints}
use Rattle.std.proofs.lemmas.Bool.Decides.{eqb_tells, Decides-int_eq}
use Rattle.std.proofs.Math.IntN.{*ℤ-zero}
use Rattle.lt_lin.specs.Terms.{Term, IsOrderedFrom, IsOrdered, factor, Fits}
use Rattle.lt_lin.specs.Adding.{first_factor, past_variable, first_variable, CanAdd, IsAdded}
use Rattle.lt_lin.proofs.Factors.{AllBelow, AllBelow-mono, AllBelow-snoc, IsOrderedFrom-snoc, factor-append, factor_below, factor_above, factor_first, past_ordered, factor_past, IsFirst, first_variable_is, first_variable_none}

-- `next` is the sum below `least`; from there on left and right are what is to be added
pub record Merging (sum : List Term) (by : ℤ) (row left right next : List Term) (least : ℕ) : Type 0 where
  pub left_ordered : IsOrderedFrom least left
  pub right_ordered : IsOrderedFrom least right
  pub next_ordered : IsOrdered next
  pub below : AllBelow least next
  pub left_rest : (x : ℕ) → least ≤ x → factor x sum ≡ factor x left
  pub right_rest : (x : ℕ) → least ≤ x → factor x row ≡ factor x right
  pub fits : (x : ℕ) → x < least → Fits (by *ℤ factor x row) × Fits (factor x sum +ℤ by *ℤ factor x row)
  pub factors : (x : ℕ) → x < least → factor x next ≡ factor x sum +ℤ by *ℤ factor x row

pub start : (sum : List Term) (by : ℤ) (row : List Term) → IsOrdered sum → IsOrdered row → Merging sum by row sum row [] 0
start sum by row o p = record {
  left_ordered = o;
  right_ordered = p;
  next_ordered = tt;
  below = tt;
  left_rest = λ x h. refl;
  right_rest = λ x h. refl;
  fits = λ x h. absurd (omega arith);
  factors = λ x h. absurd (omega arith);
}

-- nothing is added to nothing
fits_zero : (a b by : ℤ) → a ≡ pos 0 → b ≡ pos 0 → Fits (by *ℤ b) × Fits (a +ℤ by *ℤ b)
fits_zero a b by e f =
    let z : by *ℤ b ≡ pos 0 = ap (λ k. by *ℤ k) f ∙ *ℤ-zero by in
    at_zero (by *ℤ b) a z e
  where
    at_zero : (p a : ℤ) → p ≡ pos 0 → a ≡ pos 0 → Fits p × Fits (a +ℤ p)
    at_zero p a e f = ((omega (arith, ints), omega (arith, ints)), (omega (arith, ints), omega (arith, ints)))

sum_zero : (n a b by : ℤ) → n ≡ pos 0 → a ≡ pos 0 → b ≡ pos 0 → n ≡ a +ℤ by *ℤ b
sum_zero n a b by d e f =
    let z : by *ℤ b ≡ pos 0 = ap (λ k. by *ℤ k) f ∙ *ℤ-zero by in
    at_zero (by *ℤ b) z
  where
    at_zero : (p : ℤ) → p ≡ pos 0 → n ≡ a +ℤ p
    at_zero p z = omega (arith, ints)

pub finish : (sum : List Term) (by : ℤ) (row next : List Term) (least : ℕ) → Merging sum by row [] [] next least → IsAdded sum by row next
finish sum by row next least m = record {
  ordered = m.next_ordered;
  fits = λ x. by_place x (λ h. m.fits x h) (λ h. fits_zero (factor x sum) (factor x row) by (m.left_rest x h) (m.right_rest x h));
  factors = λ x. by_place x (λ h. m.factors x h) (λ h. sum_zero (factor x next) (factor x sum) (factor x row) by (factor_above x least next m.below h) (m.left_rest x h) (m.right_rest x h));
}
  where
    by_place : {P : Type 0} (x : ℕ) → (x < least → P) → (least ≤ x → P) → P
    by_place {P = P} x f g = by_test (nat_lt x least) refl
      where
        by_test : (b : Bool) → nat_lt x least ≡ b → P
        by_test true e = f (grind arith)
        by_test false e = g (grind arith)

-- what is added at the first variable
pub here_left : (sum : List Term) (by : ℤ) (row left right next : List Term) (least x : ℕ) → Merging sum by row left right next least → IsFirst x least left right → factor x sum ≡ first_factor x left
here_left sum by row left right next least x m f = m.left_rest x f.reached ∙ factor_first x left f.left_ordered

pub here_right : (sum : List Term) (by : ℤ) (row left right next : List Term) (least x : ℕ) → Merging sum by row left right next least → IsFirst x least left right → factor x row ≡ first_factor x right
here_right sum by row left right next least x m f = m.right_rest x f.reached ∙ factor_first x right f.right_ordered

pub stop : (sum : List Term) (by : ℤ) (row left right next : List Term) (least x : ℕ) → Merging sum by row left right next least → IsFirst x least left right → ((Fits (by *ℤ first_factor x right) × Fits (first_factor x left +ℤ by *ℤ first_factor x right)) → ⊥) → CanAdd sum by row → ⊥
stop sum by row left right next least x m f no_fit can =
    let a : factor x sum ≡ first_factor x left = here_left sum by row left right next least x m f in
    let b : factor x row ≡ first_factor x right = here_right sum by row left right next least x m f in
    no_fit (subst (λ (z : ℤ). Fits (by *ℤ z) × Fits (first_factor x left +ℤ by *ℤ z)) b (subst (λ (z : ℤ). Fits (by *ℤ factor x row) × Fits (z +ℤ by *ℤ factor x row)) a (can x)))

-- the factor that was found is appended, unless it is 0
abbrev pub with_factor : ℕ → ℤ → List Term → List Term
with_factor x c next = if int_eq c (pos 0) then next else next ++ (x, c) ∷ []

factor_with : (y x : ℕ) (c : ℤ) (next : List Term) → factor y (with_factor x c next) ≡ factor y next +ℤ (if y == x then c else pos 0)
factor_with y x c next = by_test (int_eq c (pos 0)) refl
  where
    zeros : (z w : ℤ) → w ≡ pos 0 → z ≡ z +ℤ w
    zeros z w e = omega (arith, ints)

    right_zero : (z w : ℤ) → z +ℤ (w +ℤ pos 0) ≡ z +ℤ w
    right_zero z w = omega (arith, ints)

    either : (b : Bool) (c : ℤ) → c ≡ pos 0 → (if b then c else pos 0) ≡ pos 0
    either true c e = e
    either false c e = refl

    by_test : (b : Bool) → int_eq c (pos 0) ≡ b → factor y (if b then next else next ++ (x, c) ∷ []) ≡ factor y next +ℤ (if y == x then c else pos 0)
    by_test true e = zeros (factor y next) (if y == x then c else pos 0) (either (y == x) c ((Decides-int_eq c (pos 0)).0 e))
    by_test false e = factor-append y next ((x, c) ∷ []) ∙ right_zero (factor y next) (if y == x then c else pos 0)

pub turn : (sum : List Term) (by : ℤ) (row left right next : List Term) (least x : ℕ) (c : ℤ) → Merging sum by row left right next least → IsFirst x least left right → Fits (by *ℤ first_factor x right) × Fits (first_factor x left +ℤ by *ℤ first_factor x right) → first_factor x left +ℤ by *ℤ first_factor x right ≡ c → Merging sum by row (past_variable x left) (past_variable x right) (with_factor x c next) (x + 1)
turn sum by row left right next least x c m f fit e = record {
  left_ordered = past_ordered x left f.left_ordered;
  right_ordered = past_ordered x right f.right_ordered;
  next_ordered = next_in_order (int_eq c (pos 0)) refl;
  below = next_below (int_eq c (pos 0));
  left_rest = λ y h. m.left_rest y (omega (arith, f.reached)) ∙ factor_past y x left (λ k. omega arith);
  right_rest = λ y h. m.right_rest y (omega (arith, f.reached)) ∙ factor_past y x right (λ k. omega arith);
  fits = λ y h. by_place y h (λ k. m.fits y k) (λ k l. fits_zero (factor y sum) (factor y row) by (gone_left y k l) (gone_right y k l)) (λ k. subst (λ (z : ℕ). Fits (by *ℤ factor z row) × Fits (factor z sum +ℤ by *ℤ factor z row)) (sym k) here_fits);
  factors = λ y h. factor_with y x c next ∙ by_place y h
      (λ k. ap (λ z. factor y next +ℤ z) (other y (λ q. omega (arith, f.reached))) ∙ right_zero (factor y next) ∙ m.factors y k)
      (λ k l. ap (λ z. factor y next +ℤ z) (other y (λ q. omega arith)) ∙ right_zero (factor y next) ∙ sum_zero (factor y next) (factor y sum) (factor y row) by (factor_above y least next m.below k) (gone_left y k l) (gone_right y k l))
      (λ k. subst (λ (z : ℕ). factor z next +ℤ (if z == x then c else pos 0) ≡ factor z sum +ℤ by *ℤ factor z row) (sym k) here_factor);
}
  where
    by_place : {P : Type 0} (y : ℕ) → y < x + 1 → (y < least → P) → (least ≤ y → y < x → P) → (y ≡ x → P) → P
    by_place {P = P} y h p q r = by_test (nat_lt y least) refl
      where
        by_same : (b : Bool) → (y == x) ≡ b → least ≤ y → P
        by_same true e k = r (grind arith)
        by_same false e k = q k (grind arith)

        by_test : (b : Bool) → nat_lt y least ≡ b → P
        by_test true e = p (grind arith)
        by_test false e = by_same (y == x) refl (grind arith)

    right_zero : (z : ℤ) → z +ℤ pos 0 ≡ z
    right_zero z = omega (arith, ints)

    other : (y : ℕ) → (y ≡ x → ⊥) → (if y == x then c else pos 0) ≡ pos 0
    other y h = elim (eqb_tells y x) [ inl p ↦ absurd (h p.1) | inr p ↦ ap (λ (b : Bool). if b then c else pos 0) p.0 ]

    gone_left : (y : ℕ) → least ≤ y → y < x → factor y sum ≡ pos 0
    gone_left y k l = m.left_rest y k ∙ factor_below y x left f.left_ordered l

    gone_right : (y : ℕ) → least ≤ y → y < x → factor y row ≡ pos 0
    gone_right y k l = m.right_rest y k ∙ factor_below y x right f.right_ordered l

    a : factor x sum ≡ first_factor x left
    a = here_left sum by row left right next least x m f

    b : factor x row ≡ first_factor x right
    b = here_right sum by row left right next least x m f

    here_fits : Fits (by *ℤ factor x row) × Fits (factor x sum +ℤ by *ℤ factor x row)
    here_fits = subst (λ (z : ℤ). Fits (by *ℤ z) × Fits (factor x sum +ℤ by *ℤ z)) (sym b) (subst (λ (z : ℤ). Fits (by *ℤ first_factor x right) × Fits (z +ℤ by *ℤ first_factor x right)) (sym a) fit)

    here_is : factor x sum +ℤ by *ℤ factor x row ≡ c
    here_is = ap (λ z. z +ℤ by *ℤ factor x row) a ∙ ap (λ z. first_factor x left +ℤ by *ℤ z) b ∙ e

    here_factor : factor x next +ℤ (if x == x then c else pos 0) ≡ factor x sum +ℤ by *ℤ factor x row
    here_factor = elim (eqb_tells x x) [
      | inl p ↦ ap (λ (b : Bool). factor x next +ℤ (if b then c else pos 0)) p.0 ∙ ap (λ z. z +ℤ c) (factor_above x least next m.below f.reached) ∙ left_zero c ∙ sym here_is
      | inr p ↦ absurd (p.1 refl)
    ]
      where
        left_zero : (z : ℤ) → pos 0 +ℤ z ≡ z
        left_zero z = omega (arith, ints)

    next_in_order : (b : Bool) → int_eq c (pos 0) ≡ b → IsOrdered (if b then next else next ++ (x, c) ∷ [])
    next_in_order true q = m.next_ordered
    next_in_order false q = IsOrderedFrom-snoc 0 x c next m.next_ordered (AllBelow-mono least x next f.reached m.below) (omega arith) (λ z. absurd (cc (sym q ∙ (Decides-int_eq c (pos 0)).1 z)))

    next_below : (b : Bool) → AllBelow (x + 1) (if b then next else next ++ (x, c) ∷ [])
    next_below true = AllBelow-mono least (x + 1) next (omega (arith, f.reached)) m.below
    next_below false = AllBelow-snoc (x + 1) next (x, c) (AllBelow-mono least (x + 1) next (omega (arith, f.reached)) m.below) (omega arith)

-- `turn`, where the code names its parts
pub turned : (sum : List Term) (by : ℤ) (row left right next : List Term) (least x : ℕ) (old factor c : ℤ) (left_after right_after next_after : List Term) → Merging sum by row left right next least → Some x ≡ first_variable left right → old ≡ first_factor x left → factor ≡ first_factor x right → left_after ≡ past_variable x left → right_after ≡ past_variable x right → (Fits (by *ℤ factor) × Fits (old +ℤ by *ℤ factor)) × (c ≡ old +ℤ by *ℤ factor) → next_after ≡ (if int_eq c (pos 0) then next else next ++ (x, c) ∷ []) → Merging sum by row left_after right_after next_after (x + 1)
turned sum by row left right next least x old factor c left_after right_after next_after m e eo ef el er h en =
    let f : IsFirst x least left right = first_variable_is left right least x m.left_ordered m.right_ordered (sym e) in
    let g = rw (eo, ef) at h in
    rw (el, er, en) (turn sum by row left right next least x c m f g.0 (sym g.1))

pub shorter_after : (sum : List Term) (by : ℤ) (row left right next : List Term) (least x : ℕ) (left_after right_after : List Term) → Merging sum by row left right next least → Some x ≡ first_variable left right → left_after ≡ past_variable x left → right_after ≡ past_variable x right → length left_after + length right_after < length left + length right
shorter_after sum by row left right next least x left_after right_after m e el er =
    let f : IsFirst x least left right = first_variable_is left right least x m.left_ordered m.right_ordered (sym e) in
    rw (el, er) f.shorter

pub stopped : (sum : List Term) (by : ℤ) (row left right next : List Term) (least x : ℕ) (old factor : ℤ) → Merging sum by row left right next least → Some x ≡ first_variable left right → old ≡ first_factor x left → factor ≡ first_factor x right → ((Fits (by *ℤ factor) × Fits (old +ℤ by *ℤ factor)) → ⊥) → CanAdd sum by row → ⊥
stopped sum by row left right next least x old factor m e eo ef h =
    let f : IsFirst x least left right = first_variable_is left right least x m.left_ordered m.right_ordered (sym e) in
    let g = rw (eo, ef) at h in
    stop sum by row left right next least x m f g

pub finished : (sum : List Term) (by : ℤ) (row left right next : List Term) (least : ℕ) → Merging sum by row left right next least → None ≡ first_variable left right → IsAdded sum by row next
finished sum by row left right next least m e =
    let n : (left ≡ []) × (right ≡ []) = first_variable_none left right (sym e) in
    let k = rw (n.0, n.1) at m in
    finish sum by row next least k
