-- Rows of a difference system are edges of a graph: vertex 0 stands for 0, and vertex x + 1 for the variable x.
use Rattle.std.proofs.Common.{arith, ◌≡◌, refl, sym, ◌∙◌, ap, subst, ℕ, suc, zero, ℤ, pos, negsuc, ◌+ℤ◌, ◌-ℤ◌, ◌*ℤ◌, ◌+◌, ◌<◌, ◌≤◌, ◌≢◌, List, [], ◌∷◌, ◌++◌, ◌⊎◌, inl, inr, Bool, true, false, div-one}
use Rattle.std.specs.Prelude.{◌==◌, if◌then◌else◌, map, unsigned_abs}
use Rattle.std.specs.Ordering.{int_eq}
use Rattle.std.proofs.lemmas.Int.{ints}
use Rattle.std.proofs.lemmas.Bool.{eq-eqb, ne_eqb, cases_lt}
use Rattle.std.proofs.lemmas.Bool.Decides.{eqb_tells, Decides-int_eq}
use Rattle.lt_lin.specs.declared.row.Row.{Row}
use Rattle.lt_lin.specs.Terms.{Term, IsOrdered, IsOrderedFrom, factor}
use Rattle.lt_lin.proofs.Factors.{AllBelow, AllBelow-mono, AllBelow-snoc, IsOrderedFrom-snoc, factor-append, factor_above, factor_head, factor_other, same_terms as equal_terms}
use Rattle.lt_elim.specs.Divisor.{gcd_of, content, quotient}
use Rattle.lt_elim.specs.Combination.{divided, normalised, with_term, terms_below, Multipliers, multipliers_of, multipliers, sum_of, combination}

-- 1 where the vertex stands for the variable
abbrev pub mark : ℕ → ℕ → ℤ
mark x i = if suc x == i then pos 1 else pos 0

pub data Marks (x i : ℕ) : Type 0 where
  marked : suc x ≡ i → mark x i ≡ pos 1 → Marks x i
  unmarked : (suc x ≡ i → ⊥) → mark x i ≡ pos 0 → Marks x i

pub marks : (x i : ℕ) → Marks x i
marks x i = elim (eqb_tells (suc x) i) [
  | inl e ↦ marked e.1 (ap (λ (b : Bool). if b then pos 1 else pos 0) e.0)
  | inr e ↦ unmarked e.1 (ap (λ (b : Bool). if b then pos 1 else pos 0) e.0)
]

pub mark_own : (x : ℕ) → mark x (suc x) ≡ pos 1
mark_own x = ap (λ (b : Bool). if b then pos 1 else pos 0) (eq-eqb (suc x) (suc x) refl)

pub mark_other : (x i : ℕ) → (suc x ≡ i → ⊥) → mark x i ≡ pos 0
mark_other x i h = ap (λ (b : Bool). if b then pos 1 else pos 0) (ne_eqb (suc x) i h)

-- The row's factors are those of an edge from i to j: 1 at i, -1 at j, none where these are one.
pub record IsLike (r : Row) (i j : ℕ) : Type 0 where
  pub ordered : IsOrdered r.terms
  pub factors : (x : ℕ) → factor x r.terms ≡ mark x i -ℤ mark x j

pub like_terms : (q r : Row) (i j : ℕ) → IsLike r i j → q.terms ≡ r.terms → IsLike q i j
like_terms q r i j h e = record {
  ordered = subst IsOrdered (sym e) h.ordered;
  factors = λ x. ap (factor x) e ∙ h.factors x;
}

pub like_same_terms : (q r : Row) (i j : ℕ) → IsLike q i j → IsLike r i j → q.terms ≡ r.terms
like_same_terms q r i j h k = equal_terms 0 0 q.terms r.terms h.ordered k.ordered (λ x. h.factors x ∙ sym (k.factors x))

pub like_none : (r : Row) (i : ℕ) → IsLike r i i → r.terms ≡ []
like_none r i h = equal_terms 0 0 r.terms [] h.ordered tt (λ x. h.factors x ∙ nothing (mark x i))
  where
    nothing : (z : ℤ) → z -ℤ z ≡ pos 0
    nothing z = omega (arith, ints)

-- ---- the ends of an edge
plus_end : (x i j : ℕ) → mark x i -ℤ mark x j ≡ pos 1 → suc x ≡ i
plus_end x i j e = elim (marks x i) [
  | marked p q ↦ p
  | unmarked p q ↦ elim (marks x j) [
    | marked r s ↦ absurd (clash (mark x i) (mark x j) e q s)
    | unmarked r s ↦ absurd (clash' (mark x i) (mark x j) e q s)
  ]
]
  where
    clash : (a b : ℤ) → a -ℤ b ≡ pos 1 → a ≡ pos 0 → b ≡ pos 1 → ⊥
    clash a b e p q = omega (arith, ints)

    clash' : (a b : ℤ) → a -ℤ b ≡ pos 1 → a ≡ pos 0 → b ≡ pos 0 → ⊥
    clash' a b e p q = omega (arith, ints)

same_first : (i j k l : ℕ) → ((x : ℕ) → mark x i -ℤ mark x j ≡ mark x k -ℤ mark x l) → (i ≡ j → ⊥) → i ≡ k
same_first (suc x) j k l h o = plus_end x k l (sym (h x) ∙ one (mark x (suc x)) (mark x j) (mark_own x) (mark_other x j o))
  where
    one : (a b : ℤ) → a ≡ pos 1 → b ≡ pos 0 → a -ℤ b ≡ pos 1
    one a b e f = omega (arith, ints)
same_first zero zero k l h o = absurd (o refl)
same_first zero (suc y) zero l h o = refl
same_first zero (suc y) (suc x) l h o = elim (marks x l) [
  | marked p q ↦ absurd (let e : mark y zero -ℤ mark y (suc y) ≡ mark y (suc x) -ℤ mark y (suc x) = subst (λ (z : ℕ). mark y zero -ℤ mark y (suc y) ≡ mark y (suc x) -ℤ mark y z) (sym p) (h y) in
      clash (mark y zero) (mark y (suc y)) (mark y (suc x)) e (mark_other y zero (λ z. cc)) (mark_own y))
  | unmarked p q ↦ sym (plus_end x zero (suc y) (h x ∙ one (mark x (suc x)) (mark x l) (mark_own x) q))
]
  where
    clash : (a b c : ℤ) → a -ℤ b ≡ c -ℤ c → a ≡ pos 0 → b ≡ pos 1 → ⊥
    clash a b c e p q = omega (arith, ints)

    one : (a b : ℤ) → a ≡ pos 1 → b ≡ pos 0 → a -ℤ b ≡ pos 1
    one a b e f = omega (arith, ints)

-- An edge has one start and one end.
pub same_ends : (r : Row) (i j k l : ℕ) → IsLike r i j → IsLike r k l → (i ≡ j → ⊥) → (i ≡ k) × (j ≡ l)
same_ends r i j k l h m o = (
  same_first i j k l (λ x. sym (h.factors x) ∙ m.factors x) o,
  same_first j i l k (λ x. turned (mark x i) (mark x j) (mark x k) (mark x l) (sym (h.factors x) ∙ m.factors x)) (λ e. o (sym e)),
)
  where
    turned : (a b c d : ℤ) → a -ℤ b ≡ c -ℤ d → b -ℤ a ≡ d -ℤ c
    turned a b c d e = omega (arith, ints)

pub none_like : (r : Row) (i j : ℕ) → IsLike r i j → (i ≡ j → ⊥) → r.terms ≡ [] → ⊥
none_like r i j h o e =
    let z : IsLike r zero zero = record {
      ordered = h.ordered;
      factors = λ x. ap (factor x) e ∙ nothing (mark x zero);
    } in
    let s = same_ends r i j zero zero h z o in
    o (s.0 ∙ sym s.1)
  where
    nothing : (z : ℤ) → pos 0 ≡ z -ℤ z
    nothing z = omega (arith, ints)

-- ---- what the factor of a variable tells
pub data Touch (r : Row) (v i j : ℕ) : Type 0 where
  starts : i ≡ suc v → (j ≡ suc v → ⊥) → factor v r.terms ≡ pos 1 → Touch r v i j
  stops : (i ≡ suc v → ⊥) → j ≡ suc v → factor v r.terms ≡ negsuc 0 → Touch r v i j
  leaves : (i ≡ suc v → ⊥) → (j ≡ suc v → ⊥) → factor v r.terms ≡ pos 0 → Touch r v i j

pub touch : (r : Row) (v i j : ℕ) → IsLike r i j → (i ≡ j → ⊥) → Touch r v i j
touch r v i j h o = elim (marks v i) [
  | marked p q ↦ elim (marks v j) [
    | marked s t ↦ absurd (o (sym p ∙ s))
    | unmarked s t ↦ starts (sym p) (λ e. s (sym e)) (h.factors v ∙ one (mark v i) (mark v j) q t)
  ]
  | unmarked p q ↦ elim (marks v j) [
    | marked s t ↦ stops (λ e. p (sym e)) (sym s) (h.factors v ∙ minus (mark v i) (mark v j) q t)
    | unmarked s t ↦ leaves (λ e. p (sym e)) (λ e. s (sym e)) (h.factors v ∙ nothing (mark v i) (mark v j) q t)
  ]
]
  where
    one : (a b : ℤ) → a ≡ pos 1 → b ≡ pos 0 → a -ℤ b ≡ pos 1
    one a b e f = omega (arith, ints)

    minus : (a b : ℤ) → a ≡ pos 0 → b ≡ pos 1 → a -ℤ b ≡ negsuc 0
    minus a b e f = omega (arith, ints)

    nothing : (a b : ℤ) → a ≡ pos 0 → b ≡ pos 0 → a -ℤ b ≡ pos 0
    nothing a b e f = omega (arith, ints)

-- ---- normalising changes nothing
abbrev pub AllUnits : List Term → Type 0
AllUnits [] = Unit {0}
AllUnits (t ∷ ts) = (unsigned_abs t.1 ≡ 1) × AllUnits ts

abs_one : (z : ℤ) → unsigned_abs z ≤ 1 → (z ≡ pos 0 → ⊥) → unsigned_abs z ≡ 1
abs_one (pos zero) h o = absurd (o refl)
abs_one (pos (suc n)) h o = omega arith
abs_one (negsuc n) h o = omega arith

units_from : (m : ℕ) (ts : List Term) (f : ℕ → ℤ) → IsOrderedFrom m ts → ((x : ℕ) → m ≤ x → factor x ts ≡ f x) → ((x : ℕ) → unsigned_abs (f x) ≤ 1) → AllUnits ts
units_from m [] f o h s = tt
units_from m (t ∷ ts) f o h s =
    let e : t.1 ≡ f t.0 = sym (factor_head t ts m o) ∙ h t.0 o.0 in
    let k : unsigned_abs t.1 ≤ 1 = subst (λ (z : ℤ). unsigned_abs z ≤ 1) (sym e) (s t.0) in
    let l : m ≤ t.0 = o.0 in
    (abs_one t.1 k o.1, units_from (t.0 + 1) ts f o.2 (λ x g. sym (factor_other x t ts (λ q. omega arith)) ∙ h x (omega arith)) s)

pub like_units : (r : Row) (i j : ℕ) → IsLike r i j → AllUnits r.terms
like_units r i j h = units_from 0 r.terms (λ x. mark x i -ℤ mark x j) h.ordered (λ x l. h.factors x) small
  where
    both : (a b : ℤ) → ((a ≡ pos 1) ⊎ (a ≡ pos 0)) → ((b ≡ pos 1) ⊎ (b ≡ pos 0)) → unsigned_abs (a -ℤ b) ≤ 1
    both a b (inl e) (inl f) = rw (e, f) (omega arith)
    both a b (inl e) (inr f) = rw (e, f) (omega arith)
    both a b (inr e) (inl f) = rw (e, f) (omega arith)
    both a b (inr e) (inr f) = rw (e, f) (omega arith)

    value : (x k : ℕ) → (mark x k ≡ pos 1) ⊎ (mark x k ≡ pos 0)
    value x k = elim (marks x k) [ marked p q ↦ inl q | unmarked p q ↦ inr q ]

    small : (x : ℕ) → unsigned_abs (mark x i -ℤ mark x j) ≤ 1
    small x = both (mark x i) (mark x j) (value x i) (value x j)

gcd_one : (c : ℕ) → (c ≡ 0) ⊎ (c ≡ 1) → gcd_of 1 c ≡ 1
unfolding gcd_of
gcd_one c (inl e) = subst (λ (k : ℕ). gcd_of 1 k ≡ 1) (sym e) refl
gcd_one c (inr e) = subst (λ (k : ℕ). gcd_of 1 k ≡ 1) (sym e) refl

pub content_units : (ts : List Term) → AllUnits ts → (content ts ≡ 0) ⊎ (content ts ≡ 1)
content_units [] u = inl refl
content_units (t ∷ ts) u = inr (ap (λ a. gcd_of a (content ts)) u.0 ∙ gcd_one (content ts) (content_units ts u.1))

pub quotient_one : (z : ℤ) → quotient z 1 ≡ z
quotient_one (pos a) = ap pos (div-one a)
quotient_one (negsuc a) = ap negsuc (div-one a)

pub divided_one : (r : Row) → divided 1 r ≡ r
divided_one r = ap (λ (ts : List Term). record { terms = ts; constant = quotient r.constant 1 }) (terms_one r.terms) ∙ ap (λ (c : ℤ). record { terms = r.terms; constant = c }) (quotient_one r.constant)
  where
    terms_one : (ts : List Term) → map (λ t. (t.0, quotient t.1 1)) ts ≡ ts
    terms_one [] = refl
    terms_one (t ∷ ts) = ap (λ (c : ℤ). (t.0, c) ∷ map (λ u. (u.0, quotient u.1 1)) ts) (quotient_one t.1) ∙ ap (λ (x : List Term). t ∷ x) (terms_one ts)

pub like_normal : (r : Row) (i j : ℕ) → IsLike r i j → normalised r ≡ r
like_normal r i j h = elim (content_units r.terms (like_units r i j h)) [
  | inl e ↦ ap (λ d. divided d r) e
  | inr e ↦ ap (λ d. divided d r) e ∙ divided_one r
]

-- ---- the terms of a combination
pub below_all : (n : ℕ) (f : ℕ → ℤ) → AllBelow n (terms_below n f)
below_all zero f = tt
below_all (suc n) f = by_test (int_eq (f n) (pos 0)) (below_all n f)
  where
    by_test : (b : Bool) → AllBelow n (terms_below n f) → AllBelow (suc n) (if b then terms_below n f else terms_below n f ++ (n, f n) ∷ [])
    by_test true h = AllBelow-mono n (suc n) (terms_below n f) (omega arith) h
    by_test false h = AllBelow-snoc (suc n) (terms_below n f) (n, f n) (AllBelow-mono n (suc n) (terms_below n f) (omega arith) h) (omega arith)

pub below_ordered : (n : ℕ) (f : ℕ → ℤ) → IsOrdered (terms_below n f)
below_ordered zero f = tt
below_ordered (suc n) f = by_test (int_eq (f n) (pos 0)) refl (below_ordered n f)
  where
    by_test : (b : Bool) → int_eq (f n) (pos 0) ≡ b → IsOrdered (terms_below n f) → IsOrdered (if b then terms_below n f else terms_below n f ++ (n, f n) ∷ [])
    by_test true e h = h
    by_test false e h = IsOrderedFrom-snoc 0 n (f n) (terms_below n f) h (below_all n f) (omega arith) (λ z. let y : int_eq (f n) (pos 0) ≡ true = (Decides-int_eq (f n) (pos 0)).1 z in absurd (cc))

factor_term : (x n : ℕ) (c : ℤ) (ts : List Term) → factor x (with_term ts n c) ≡ factor x ts +ℤ (if x == n then c else pos 0)
factor_term x n c ts = by_test (int_eq c (pos 0)) refl
  where
    right_zero : (z y : ℤ) → y ≡ pos 0 → z ≡ z +ℤ y
    right_zero z y e = omega (arith, ints)

    nothing : (z : ℤ) → z +ℤ pos 0 ≡ z
    nothing z = omega (arith, ints)

    either : (b : Bool) → c ≡ pos 0 → (if b then c else pos 0) ≡ pos 0
    either true e = e
    either false e = refl

    by_test : (b : Bool) → int_eq c (pos 0) ≡ b → factor x (if b then ts else ts ++ (n, c) ∷ []) ≡ factor x ts +ℤ (if x == n then c else pos 0)
    by_test true e = right_zero (factor x ts) (if x == n then c else pos 0) (either (x == n) ((Decides-int_eq c (pos 0)).0 e))
    by_test false e = factor-append x ts ((n, c) ∷ []) ∙ ap (λ z. factor x ts +ℤ z) (nothing (if x == n then c else pos 0))

pub above_factor : (n : ℕ) (f : ℕ → ℤ) (x : ℕ) → n ≤ x → factor x (terms_below n f) ≡ pos 0
above_factor n f x h = factor_above x n (terms_below n f) (below_all n f) h

pub below_factor : (n : ℕ) (f : ℕ → ℤ) (x : ℕ) → x < n → factor x (terms_below n f) ≡ f x
below_factor zero f x h = absurd (omega arith)
below_factor (suc n) f x h = by_place (below_factor n f x) (eqb_tells x n)
  where
    sum : (a b c : ℤ) → a ≡ pos 0 → b ≡ c → a +ℤ b ≡ c
    sum a b c e g = omega (arith, ints)

    sum' : (a b c : ℤ) → a ≡ c → b ≡ pos 0 → a +ℤ b ≡ c
    sum' a b c e g = omega (arith, ints)

    pick : (b : Bool) → b ≡ true → (if b then f n else pos 0) ≡ f n
    pick true e = refl
    pick false e = absurd (cc)

    pass : (b : Bool) → b ≡ false → (if b then f n else pos 0) ≡ pos 0
    pass true e = absurd (cc)
    pass false e = refl

    by_place : (x < n → factor x (terms_below n f) ≡ f x) → (((x == n) ≡ true) × (x ≡ n)) ⊎ (((x == n) ≡ false) × (x ≢ n)) → factor x (terms_below (suc n) f) ≡ f x
    by_place rest (inl p) =
        factor_term x n (f n) (terms_below n f) ∙ sum (factor x (terms_below n f)) (if x == n then f n else pos 0) (f x) (above_factor n f x (omega (arith, p.1))) (pick (x == n) p.0 ∙ ap f (sym p.1))
    by_place rest (inr p) =
        factor_term x n (f n) (terms_below n f) ∙ sum' (factor x (terms_below n f)) (if x == n then f n else pos 0) (f x) (rest (let o : x ≡ n → ⊥ = p.1 in omega arith)) (pass (x == n) p.0)

-- ---- edges over a vertex
pub multipliers_one : (v : ℕ) (p n : Row) → factor v p.terms ≡ pos 1 → factor v n.terms ≡ negsuc 0 → multipliers v p n ≡ record { of_raising = pos 1; of_lowering = pos 1 }
unfolding gcd_of
multipliers_one v p n e f = ap (λ (z : ℤ). multipliers_of (unsigned_abs z) (unsigned_abs (factor v n.terms))) e ∙ ap (λ (z : ℤ). multipliers_of 1 (unsigned_abs z)) f

sum_ones : (a b : ℤ) → pos 1 *ℤ a +ℤ pos 1 *ℤ b ≡ a +ℤ b
sum_ones a b = omega (arith, ints)

pub combination_sum : (v : ℕ) (p n : Row) → factor v p.terms ≡ pos 1 → factor v n.terms ≡ negsuc 0 → (combination v p n).constant ≡ p.constant +ℤ n.constant
unfolding combination
combination_sum v p n e f = ap (λ (m : Multipliers). sum_of m p.constant n.constant) (multipliers_one v p n e f) ∙ sum_ones p.constant n.constant

-- An edge that starts at a vertex and one that stops there give an edge past it.
pub combination_like : (v i j : ℕ) (p n : Row) → IsLike p (suc v) j → IsLike n i (suc v) → i ≤ v → j ≤ v → IsLike (combination v p n) i j
unfolding combination
combination_like v i j p n h k li lj = record {
  ordered = below_ordered v (λ x. sum_of (multipliers v p n) (factor x p.terms) (factor x n.terms));
  factors = λ x. by_order x (cases_lt x v);
}
  where
    one : (a b : ℤ) → a ≡ pos 1 → b ≡ pos 0 → a -ℤ b ≡ pos 1
    one a b e f = omega (arith, ints)

    minus : (a b : ℤ) → a ≡ pos 0 → b ≡ pos 1 → a -ℤ b ≡ negsuc 0
    minus a b e f = omega (arith, ints)

    raises : factor v p.terms ≡ pos 1
    raises = h.factors v ∙ one (mark v (suc v)) (mark v j) (mark_own v) (mark_other v j (λ e. omega arith))

    lowers : factor v n.terms ≡ negsuc 0
    lowers = k.factors v ∙ minus (mark v i) (mark v (suc v)) (mark_other v i (λ e. omega arith)) (mark_own v)

    cancel : (a b m i j : ℤ) → a ≡ m -ℤ j → b ≡ i -ℤ m → a +ℤ b ≡ i -ℤ j
    cancel a b m i j e f = omega (arith, ints)

    nothing : (a b : ℤ) → a ≡ pos 0 → b ≡ pos 0 → pos 0 ≡ a -ℤ b
    nothing a b e f = omega (arith, ints)

    by_order : (x : ℕ) → (x < v) ⊎ (v ≤ x) → factor x (terms_below v (λ x. sum_of (multipliers v p n) (factor x p.terms) (factor x n.terms))) ≡ mark x i -ℤ mark x j
    by_order x (inl l) = below_factor v (λ x. sum_of (multipliers v p n) (factor x p.terms) (factor x n.terms)) x l ∙ ap (λ (m : Multipliers). sum_of m (factor x p.terms) (factor x n.terms)) (multipliers_one v p n raises lowers) ∙ sum_ones (factor x p.terms) (factor x n.terms) ∙ cancel (factor x p.terms) (factor x n.terms) (mark x (suc v)) (mark x i) (mark x j) (h.factors x) (k.factors x)
    by_order x (inr l) = above_factor v (λ x. sum_of (multipliers v p n) (factor x p.terms) (factor x n.terms)) x l ∙ nothing (mark x i) (mark x j) (mark_other x i (λ e. omega arith)) (mark_other x j (λ e. omega arith))
