-- Lines that refute rows leave them no solution.
use Rattle.std.proofs.Common.{arith, ◌≡◌, refl, sym, ◌∙◌, ap, subst, ℕ, suc, zero, ℤ, pos, negsuc, ◌+ℤ◌, ◌*ℤ◌, ◌≤ℤ◌, ◌<ℤ◌, ◌+◌, ◌<◌, ◌≤◌, ◌≢◌, List, [], ◌∷◌, ◌++◌, Bool, false, Some, ◌⊎◌, inl, inr}
use Rattle.std.specs.Prelude.{neg_ℤ, if◌then◌else◌, slice_get, ◌==◌, IsTrue}
use Rattle.std.proofs.lemmas.Int.{ints, by_lt_z}
use Rattle.std.proofs.lemmas.Bool.Decides.{eqb_tells}
use Rattle.std.proofs.Math.IntN.{zero-*ℤ, *ℤ-zero}
use Rattle.std.proofs.lemmas.Option.{slice_get_within, get_or_from_slice_get}
use Rattle.std.proofs.lemmas.List.Elements.{All-append, All-nil, All-cons}
use Rattle.lt_lin.specs.declared.row.Row.{Row}
use Rattle.lt_lin.specs.Terms.{Term, sum_at, factor, negated, scaled}
use Rattle.lt_lin.specs.Rows.{IsTrueAt, Satisfies, IsContradiction, HasContradiction}
use Rattle.lt_lin.specs.Lines.{Lines, last, combination, division, split}
use Rattle.lt_lin.specs.Refutation.{SumsTo, IsCombination, IsDivision, low_row, high_row, RefutesAfter, Refutes}
use Rattle.lt_model.proofs.Whole.{mul_assoc_ℤ, mul-add_ℤ, add-mul_ℤ, mul-≤ℤ, neg-mul_ℤ}
use Rattle.lt_lin.proofs.Factors.{AllBelow, AllBelow-mono}
use Rattle.lt_lin.proofs.Sums.{first_pair}

-- ---- sums over the variables below a number
abbrev pub upto : (ℕ → ℤ) → ℕ → (ℕ → ℤ) → ℤ
upto v zero f = pos 0
upto v (suc n) f = f n *ℤ v n +ℤ upto v n f

pub upto_same : (v : ℕ → ℤ) (n : ℕ) (f g : ℕ → ℤ) → ((x : ℕ) → f x ≡ g x) → upto v n f ≡ upto v n g
upto_same v zero f g h = refl
upto_same v (suc n) f g h = ap (λ z. z *ℤ v n +ℤ upto v n f) (h n) ∙ ap (λ z. g n *ℤ v n +ℤ z) (upto_same v n f g h)

pub upto_zero : (v : ℕ → ℤ) (n : ℕ) (f : ℕ → ℤ) → ((x : ℕ) → x < n → f x ≡ pos 0) → upto v n f ≡ pos 0
upto_zero v zero f h = refl
upto_zero v (suc n) f h =
    let z : f n *ℤ v n ≡ pos 0 = ap (λ k. k *ℤ v n) (h n (omega arith)) ∙ zero-*ℤ (v n) in
    none (f n *ℤ v n) (upto v n f) z (upto_zero v n f (λ x l. h x (omega arith)))
  where
    none : (a b : ℤ) → a ≡ pos 0 → b ≡ pos 0 → a +ℤ b ≡ pos 0
    none a b e f = omega (arith, ints)

pub upto_plus : (v : ℕ → ℤ) (n : ℕ) (f g : ℕ → ℤ) → upto v n (λ x. f x +ℤ g x) ≡ upto v n f +ℤ upto v n g
upto_plus v zero f g = refl
upto_plus v (suc n) f g = join ((f n +ℤ g n) *ℤ v n) (f n *ℤ v n) (g n *ℤ v n) (upto v n (λ x. f x +ℤ g x)) (upto v n f) (upto v n g) (add-mul_ℤ (f n) (g n) (v n)) (upto_plus v n f g)
  where
    join : (a b c s t u : ℤ) → a ≡ b +ℤ c → s ≡ t +ℤ u → a +ℤ s ≡ (b +ℤ t) +ℤ (c +ℤ u)
    join a b c s t u e f = omega (arith, ints)

pub upto_scale : (v : ℕ → ℤ) (n : ℕ) (m : ℤ) (g : ℕ → ℤ) → upto v n (λ x. m *ℤ g x) ≡ m *ℤ upto v n g
upto_scale v zero m g = sym (*ℤ-zero m)
upto_scale v (suc n) m g = join ((m *ℤ g n) *ℤ v n) (m *ℤ (g n *ℤ v n)) (upto v n (λ x. m *ℤ g x)) (m *ℤ upto v n g) (m *ℤ (g n *ℤ v n +ℤ upto v n g)) (mul_assoc_ℤ m (g n) (v n)) (upto_scale v n m g) (mul-add_ℤ m (g n *ℤ v n) (upto v n g))
  where
    join : (a b s t w : ℤ) → a ≡ b → s ≡ t → w ≡ b +ℤ t → a +ℤ s ≡ w
    join a b s t w e f g = omega (arith, ints)

-- a term alone
alone : ℕ → ℤ → ℕ → ℤ
alone y c x = if x == y then c else pos 0

alone_same : (x : ℕ) (c : ℤ) → alone x c x ≡ c
unfolding alone
alone_same x c = elim (eqb_tells x x) [ inl p ↦ ap (λ (b : Bool). if b then c else pos 0) p.0 | inr p ↦ absurd (p.1 refl) ]

alone_other : (y x : ℕ) (c : ℤ) → (x ≡ y → ⊥) → alone y c x ≡ pos 0
unfolding alone
alone_other y x c h = elim (eqb_tells x y) [ inl p ↦ absurd (h p.1) | inr p ↦ ap (λ (b : Bool). if b then c else pos 0) p.0 ]

upto_alone : (v : ℕ → ℤ) (n y : ℕ) (c : ℤ) → y < n → upto v n (alone y c) ≡ c *ℤ v y
upto_alone v zero y c h = absurd (omega arith)
upto_alone v (suc n) y c h = elim (eqb_tells y n) [
  | inl p ↦
      let head : alone y c n *ℤ v n ≡ c *ℤ v y = ap (λ z. alone z c n *ℤ v n) p.1 ∙ ap (λ z. z *ℤ v n) (alone_same n c) ∙ ap (λ z. c *ℤ v z) (sym p.1) in
      let e : y ≡ n = p.1 in
      left (alone y c n *ℤ v n) (upto v n (alone y c)) (c *ℤ v y) head (upto_zero v n (alone y c) (λ x l. alone_other y x c (λ q. omega arith)))
  | inr p ↦
      let ne : y ≢ n = p.1 in
      let head : alone y c n *ℤ v n ≡ pos 0 = ap (λ z. z *ℤ v n) (alone_other y n c (λ q. p.1 (sym q))) ∙ zero-*ℤ (v n) in
      right (alone y c n *ℤ v n) (upto v n (alone y c)) (c *ℤ v y) head (upto_alone v n y c (omega arith))
]
  where
    left : (a b w : ℤ) → a ≡ w → b ≡ pos 0 → a +ℤ b ≡ w
    left a b w e f = omega (arith, ints)

    right : (a b w : ℤ) → a ≡ pos 0 → b ≡ w → a +ℤ b ≡ w
    right a b w e f = omega (arith, ints)

-- what terms come to, variable by variable
pub sum_by_variable : (v : ℕ → ℤ) (n : ℕ) (ts : List Term) → AllBelow n ts → sum_at v ts ≡ upto v n (λ x. factor x ts)
unfolding alone
sum_by_variable v n [] b = sym (upto_zero v n (λ x. pos 0) (λ x l. refl))
sum_by_variable v n (t ∷ ts) b =
    ap (λ z. z +ℤ sum_at v ts) (sym (upto_alone v n t.0 t.1 b.0)) ∙ ap (λ z. upto v n (alone t.0 t.1) +ℤ z) (sum_by_variable v n ts b.1) ∙ sym (upto_plus v n (alone t.0 t.1) (λ x. factor x ts))

-- a number above all variables
abbrev bound : List Term → ℕ
bound [] = 0
bound (t ∷ ts) = t.0 + 1 + bound ts

below_bound : (ts : List Term) → AllBelow (bound ts) ts
below_bound [] = tt
below_bound (t ∷ ts) = (omega arith, AllBelow-mono (bound ts) (t.0 + 1 + bound ts) ts (omega arith) (below_bound ts))

abbrev bound_rows : List Row → ℕ
bound_rows [] = 0
bound_rows (r ∷ rs) = bound r.terms + bound_rows rs

bound_row : (rows : List Row) (i : ℕ) (r : Row) → slice_get rows i ≡ Some r → bound r.terms ≤ bound_rows rows
bound_row [] i r e = absurd (cc)
bound_row (q ∷ rows) zero r e = let is : q ≡ r = cc in omega (arith, ap (λ (k : Row). bound k.terms) is)
bound_row (q ∷ rows) (suc i) r e = omega (arith, bound_row rows i r e)

-- ---- combinations
true_at : (v : ℕ → ℤ) (rows : List Row) (i : ℕ) (r : Row) → Satisfies v rows → slice_get rows i ≡ Some r → IsTrueAt v r
true_at v rows i r all e = subst (IsTrueAt v) (get_or_from_slice_get rows i r r e) (all i r (slice_get_within rows i r e))

sums_hold : (v : ℕ → ℤ) (n : ℕ) (known : List Row) (pairs : List (ℕ × ℤ)) (f g : ℕ → ℤ) (k l : ℤ) → Satisfies v known → bound_rows known ≤ n → ((x : ℕ) → SumsTo (λ q. factor x q.terms) known (f x) pairs (g x)) → SumsTo (λ q. q.constant) known k pairs l → pos 0 ≤ℤ (upto v n f +ℤ k) → pos 0 ≤ℤ (upto v n g +ℤ l)
sums_hold v n known [] f g k l all b fs ks h = same (upto v n f) (upto v n g) k l (upto_same v n f g fs) ks h
  where
    same : (a b k l : ℤ) → a ≡ b → k ≡ l → pos 0 ≤ℤ (a +ℤ k) → pos 0 ≤ℤ (b +ℤ l)
    same a b k l e f h = omega (arith, ints)
sums_hold v n known (p ∷ ps) f g k l all b fs ks h =
    let q : Row = ks.0 in
    let m : ℤ = p.1 in
    let qf : ℕ → ℤ = λ x. factor x q.terms in
    let t : IsTrueAt v q = true_at v known p.0 q all ks.1 in
    let scaled_up : (m *ℤ pos 0) ≤ℤ (m *ℤ (sum_at v q.terms +ℤ q.constant)) = mul-≤ℤ (pos 0) (sum_at v q.terms +ℤ q.constant) m ks.2 t.holds in
    let z : m *ℤ pos 0 ≡ pos 0 = *ℤ-zero m in
    let d : m *ℤ (sum_at v q.terms +ℤ q.constant) ≡ m *ℤ sum_at v q.terms +ℤ m *ℤ q.constant = mul-add_ℤ m (sum_at v q.terms) q.constant in
    let s : m *ℤ sum_at v q.terms ≡ m *ℤ upto v n qf = ap (λ w. m *ℤ w) (sum_by_variable v n q.terms (AllBelow-mono (bound q.terms) n q.terms (omega (arith, bound_row known p.0 q ks.1)) (below_bound q.terms))) in
    let u : upto v n (λ x. f x +ℤ m *ℤ qf x) ≡ upto v n f +ℤ m *ℤ upto v n qf = upto_plus v n f (λ x. m *ℤ qf x) ∙ ap (λ w. upto v n f +ℤ w) (upto_scale v n m qf) in
    let next : pos 0 ≤ℤ (upto v n (λ x. f x +ℤ m *ℤ qf x) +ℤ (k +ℤ m *ℤ q.constant)) = step (upto v n f) k (m *ℤ pos 0) (m *ℤ (sum_at v q.terms +ℤ q.constant)) (m *ℤ sum_at v q.terms) (m *ℤ q.constant) (m *ℤ upto v n qf) (upto v n (λ x. f x +ℤ m *ℤ qf x)) h scaled_up z d s u in
    sums_hold v n known ps (λ x. f x +ℤ m *ℤ qf x) g (k +ℤ m *ℤ q.constant) l all b (λ x. (first_pair (λ q. factor x q.terms) known (f x) p ps (g x) q (fs x) ks.1).3) ks.5 next
  where
    step : (a k o w s c t u : ℤ) → pos 0 ≤ℤ (a +ℤ k) → o ≤ℤ w → o ≡ pos 0 → w ≡ s +ℤ c → s ≡ t → u ≡ a +ℤ t → pos 0 ≤ℤ (u +ℤ (k +ℤ c))
    step a k o w s c t u h p z d e f = omega (arith, ints)

combination_true : (v : ℕ → ℤ) (known : List Row) (pairs : List (ℕ × ℤ)) (r : Row) → Satisfies v known → IsCombination known pairs r → IsTrueAt v r
combination_true v known pairs r all is =
    let n : ℕ = bound_rows known + bound r.terms in
    let h : pos 0 ≤ℤ (upto v n (λ x. factor x r.terms) +ℤ r.constant) = sums_hold v n known pairs (λ x. pos 0) (λ x. factor x r.terms) (pos 0) r.constant all (omega arith) is.factors is.constant (start (upto v n (λ x. pos 0)) (upto_zero v n (λ x. pos 0) (λ x l. refl))) in
    let e : sum_at v r.terms ≡ upto v n (λ x. factor x r.terms) = sum_by_variable v n r.terms (AllBelow-mono (bound r.terms) n r.terms (omega arith) (below_bound r.terms)) in
    record { holds = subst (λ (z : ℤ). pos 0 ≤ℤ (z +ℤ r.constant)) (sym e) h }
  where
    start : (a : ℤ) → a ≡ pos 0 → pos 0 ≤ℤ (a +ℤ pos 0)
    start a e = omega (arith, ints)

-- ---- divisions
sum-scaled : (v : ℕ → ℤ) (d : ℤ) (ts : List Term) → sum_at v (scaled d ts) ≡ d *ℤ sum_at v ts
sum-scaled v d [] = sym (*ℤ-zero d)
sum-scaled v d (t ∷ ts) = join ((d *ℤ t.1) *ℤ v t.0) (d *ℤ (t.1 *ℤ v t.0)) (sum_at v (scaled d ts)) (d *ℤ sum_at v ts) (d *ℤ (t.1 *ℤ v t.0 +ℤ sum_at v ts)) (mul_assoc_ℤ d t.1 (v t.0)) (sum-scaled v d ts) (mul-add_ℤ d (t.1 *ℤ v t.0) (sum_at v ts))
  where
    join : (a b s t w : ℤ) → a ≡ b → s ≡ t → w ≡ b +ℤ t → a +ℤ s ≡ w
    join a b s t w e f g = omega (arith, ints)

-- a sum that is at least 0 is so after a division that rounds down
rounded : (s k c d : ℤ) → pos 0 <ℤ d → c <ℤ (d *ℤ k +ℤ d) → pos 0 ≤ℤ (d *ℤ s +ℤ c) → pos 0 ≤ℤ (s +ℤ k)
rounded s k c d up above h = by_lt_z (s +ℤ k) (pos 0)
    (λ less.
    let m : (d *ℤ (s +ℤ k)) ≤ℤ (d *ℤ negsuc 0) = mul-≤ℤ (s +ℤ k) (negsuc 0) d (omega (arith, ints)) (omega (arith, ints)) in
    let e : d *ℤ (s +ℤ k) ≡ d *ℤ s +ℤ d *ℤ k = mul-add_ℤ d s k in
    let one : d *ℤ negsuc 0 ≡ neg_ℤ d = minus_one d in
    absurd (clash (d *ℤ s) (d *ℤ k) (d *ℤ (s +ℤ k)) (d *ℤ negsuc 0) m e one above h))
    (λ ok. ok)
  where
    minus_one : (d : ℤ) → d *ℤ negsuc 0 ≡ neg_ℤ d
    minus_one d = omega (arith, ints)

    clash : (ds dk both m : ℤ) → both ≤ℤ m → both ≡ ds +ℤ dk → m ≡ neg_ℤ d → c <ℤ (dk +ℤ d) → pos 0 ≤ℤ (ds +ℤ c) → ⊥
    clash ds dk both m p e f g h = omega (arith, ints)

division_true : (v : ℕ → ℤ) (known : List Row) (i : ℕ) (d : ℤ) (r : Row) → Satisfies v known → IsDivision known i d r → IsTrueAt v r
division_true v known i d r all is =
    let q : Row = is.0 in
    let t : IsTrueAt v q = true_at v known i q all is.1 in
    let e : sum_at v q.terms ≡ d *ℤ sum_at v r.terms = ap (sum_at v) is.2.terms ∙ sum-scaled v d r.terms in
    record { holds = rounded (sum_at v r.terms) r.constant q.constant d is.2.positive is.2.above (subst (λ (z : ℤ). pos 0 ≤ℤ (z +ℤ q.constant)) e t.holds) }

-- ---- splits
sum-negated : (v : ℕ → ℤ) (ts : List Term) → sum_at v (negated ts) ≡ neg_ℤ (sum_at v ts)
sum-negated v [] = refl
sum-negated v (t ∷ ts) = step (t.1 *ℤ v t.0) (neg_ℤ t.1 *ℤ v t.0) (sum_at v (negated ts)) (sum_at v ts) (neg-mul_ℤ t.1 (v t.0)) (sum-negated v ts)
  where
    step : (t n m s : ℤ) → n ≡ neg_ℤ t → m ≡ neg_ℤ s → n +ℤ m ≡ neg_ℤ (t +ℤ s)
    step t n m s e f = omega (arith, ints)

either_side : (v : ℕ → ℤ) (ts : List Term) (k : ℤ) → IsTrueAt v (low_row ts k) ⊎ IsTrueAt v (high_row ts k)
either_side v ts k = by_lt_z k (sum_at v ts)
    (λ less. inr (record { holds = omega (arith, ints) }))
    (λ more. inl (record { holds = omega (arith, ints, sum-negated v ts) }))

-- ---- lines
contradiction_fails : (v : ℕ → ℤ) (r : Row) → IsTrueAt v r → IsContradiction r → ⊥
contradiction_fails v r t c =
    let e : sum_at v r.terms ≡ pos 0 = ap (sum_at v) c.0 in
    clash (sum_at v r.terms) r.constant e t.holds c.1
  where
    clash : (s k : ℤ) → s ≡ pos 0 → pos 0 ≤ℤ (s +ℤ k) → k <ℤ pos 0 → ⊥
    clash s k e h l = omega (arith, ints)

no_contradiction : (v : ℕ → ℤ) (rows : List Row) → Satisfies v rows → HasContradiction rows → ⊥
no_contradiction v [] all h = h
no_contradiction v (r ∷ rs) all h = elim h [
  | inl c ↦ contradiction_fails v r (all 0 r (omega arith)) c
  | inr c ↦ no_contradiction v rs (λ k d l. all (suc k) d (omega arith)) c
]

satisfies_more : (v : ℕ → ℤ) (rows : List Row) (r : Row) → Satisfies v rows → IsTrueAt v r → Satisfies v (rows ++ r ∷ [])
satisfies_more v rows r all t = All-append (IsTrueAt v) rows (r ∷ []) all (All-cons (IsTrueAt v) r [] t (All-nil (IsTrueAt v)))

not_true : IsTrue false → ⊥
not_true h = absurd (cc h)

unsatisfied_after : (v : ℕ → ℤ) (b : Bool) (known : List Row) (lines : Lines) → Satisfies v known → (IsTrue b → ⊥) → RefutesAfter b known lines → ⊥
unsatisfied_after v b known last all still h = elim h [ inl k ↦ still k | inr k ↦ no_contradiction v known all k ]
unsatisfied_after v b known (combination pairs rest) all still h =
    unsatisfied_after v b (known ++ h.0 ∷ []) rest (satisfies_more v known h.0 all (combination_true v known pairs h.0 all h.1)) still h.2
unsatisfied_after v b known (division i d rest) all still h =
    unsatisfied_after v b (known ++ h.0 ∷ []) rest (satisfies_more v known h.0 all (division_true v known i d h.0 all h.1)) still h.2
unsatisfied_after v b known (split ts k low high rest) all still h = elim (either_side v ts k) [
  | inl t ↦ unsatisfied_after v false (known ++ low_row ts k ∷ []) low (satisfies_more v known (low_row ts k) all t) not_true h.1
  | inr t ↦ unsatisfied_after v false (known ++ high_row ts k ∷ []) high (satisfies_more v known (high_row ts k) all t) not_true h.2
]

pub unsatisfied : (rows : List Row) (lines : Lines) → Refutes rows lines → (v : ℕ → ℤ) → Satisfies v rows → ⊥
unsatisfied rows lines h v all = unsatisfied_after v false rows lines all not_true h
