-- Stages set bounds, and those of a difference system have bounds that fit.
use Rattle.std.proofs.Common.{arith, ◌≡◌, refl, sym, ◌∙◌, ap, subst, ℕ, suc, zero, ℤ, pos, negsuc, ◌+ℤ◌, ◌-ℤ◌, ◌*ℤ◌, ◌≤ℤ◌, ◌+◌, ◌*◌, ◌/◌, ◌^◌, ◌<◌, ◌≤◌, List, [], ◌∷◌, ◌++◌, length, ◌⊎◌, inl, inr, Bool, true, false, Option, Some, None}
use Rattle.std.specs.Prelude.{neg_ℤ, int_lt, ◌==◌, if◌then◌else◌, unsigned_abs, slice_index_or}
use Rattle.std.proofs.lemmas.Int.{ints}
use Rattle.std.proofs.lemmas.Bool.{cases_lt}
use Rattle.std.proofs.lemmas.List.{get_or_past, get_or_append_left}
use Rattle.lt_lin.specs.declared.row.Row.{Row}
use Rattle.lt_lin.specs.Terms.{Term, IsOrderedFrom, factor, Fits}
use Rattle.lt_lin.proofs.Factors.{factor_head, factor_other}
use Rattle.lt_elim.specs.declared.stage.Stage.{Stage}
use Rattle.lt_elim.specs.Divisor.{gcd_of, quotient}
use Rattle.lt_elim.specs.Elimination.{raising, lowering}
use Rattle.lt_elim.specs.Fraction.{Fraction, fraction, whole, times, plus, reduced_by}
use Rattle.lt_elim.specs.Decision.{Verdict, stops, point, if_some, terms_added, least_allowed, with_value}
use Rattle.lt_elim.specs.Condition.{CanDecide}
use Rattle.lt_elim.specs.Reckoning.{CanTimes, CanPlus, CanNegate, term_added, CanAddTerm, CanAddTerms, CanBound, CanBoundAll, IsBounding, AreBounding}
use Rattle.lt_elim.specs.Stages.{AreStages, staged, under}
use Rattle.lt_elim.specs.Values.{HaveBounds, CanReckon}
use Rattle.lt_elim.proofs.Keeping.{In, filter_in}
use Rattle.lt_elim.proofs.Edges.{mark, Marks, marked, unmarked, marks, IsLike, AllUnits, like_units, quotient_one, Touch, starts, stops as stops_at, leaves, touch}
use Rattle.lt_elim.proofs.Walks.{IsSized}
use Rattle.lt_elim.proofs.Laws.{gcd_with_one, touched_unit}
use Rattle.lt_elim.proofs.Reckoning.{step_is}
use Rattle.lt_elim.proofs.Conditions.{IsReached, reached_next, reached_sized, factor_within}
use Rattle.lt_elim.specs.Tracing.{bare}

-- ---- rows that set bounds
row_small : (limited : Bool) (rows : List Row) (v : ℕ) (kept : List Row) → IsReached limited rows (suc v) kept → (r : Row) → In r kept → unsigned_abs (factor v r.terms) < 2 ^ 127
row_small true rows v kept i r h = let l : unsigned_abs (factor v r.terms) ≤ 2 ^ 125 = factor_within (2 ^ 125) 0 v r.terms (i.form r h).0 (i.within refl r h) in omega arith
row_small false rows v kept i r h =
    let e = (i.edges refl).edges r h in
    by_touch (touch r v e.0 e.1 e.2 e.3)
  where
    small : (z w : ℤ) → z ≡ w → unsigned_abs w < 2 ^ 127 → unsigned_abs z < 2 ^ 127
    small z w e l = subst (λ (k : ℤ). unsigned_abs k < 2 ^ 127) (sym e) l

    by_touch : {i j : ℕ} → Touch r v i j → unsigned_abs (factor v r.terms) < 2 ^ 127
    by_touch (starts a b c) = small (factor v r.terms) (pos 1) c (omega arith)
    by_touch (stops_at a b c) = small (factor v r.terms) (negsuc 0) c (omega arith)
    by_touch (leaves a b c) = small (factor v r.terms) (pos 0) c (omega arith)

not_zero_up : (z : ℤ) → int_lt (pos 0) z ≡ true → z ≡ pos 0 → ⊥
not_zero_up z t e = grind (arith, ints)

not_zero_down : (z : ℤ) → int_lt z (pos 0) ≡ true → z ≡ pos 0 → ⊥
not_zero_down z t e = grind (arith, ints)

bounding_from : (v : ℕ) (rows : List Row) → ((r : Row) → In r rows → IsBounding v r) → AreBounding v rows
bounding_from v [] h = tt
bounding_from v (r ∷ rs) h = (h r (inl refl), bounding_from v rs (λ q k. h q (inr k)))

raising_bounds : (limited : Bool) (rows : List Row) (v : ℕ) (kept : List Row) → IsReached limited rows (suc v) kept → AreBounding v (raising v kept)
raising_bounds limited rows v kept i = bounding_from v (raising v kept) (λ r h. let f = filter_in (λ q. int_lt (pos 0) (factor v q.terms)) r kept h in record { some = not_zero_up (factor v r.terms) f.1; small = row_small limited rows v kept i r f.0 })

lowering_bounds : (limited : Bool) (rows : List Row) (v : ℕ) (kept : List Row) → IsReached limited rows (suc v) kept → AreBounding v (lowering v kept)
lowering_bounds limited rows v kept i = bounding_from v (lowering v kept) (λ r h. let f = filter_in (λ q. int_lt (factor v q.terms) (pos 0)) r kept h in record { some = not_zero_down (factor v r.terms) f.1; small = row_small limited rows v kept i r f.0 })

pub have_bounds : (limited : Bool) (rows : List Row) (n : ℕ) (kept : List Row) (ss : List Stage) → IsReached limited rows n kept → AreStages limited n kept ss → HaveBounds n ss
have_bounds limited rows n kept [] i a = tt
have_bounds limited rows zero kept (s ∷ ss) i a = absurd a
have_bounds limited rows (suc v) kept (s ∷ ss) i a = (
  subst (AreBounding v) (sym a.0) (raising_bounds limited rows v kept i),
  subst (AreBounding v) (sym a.1) (lowering_bounds limited rows v kept i),
  have_bounds limited rows v a.2.0 ss (reached_next limited rows v kept a.2.0 i a.2.1) a.2.2,
)

-- ---- whole numbers
times_whole : (c b : ℤ) → times false c (whole b) ≡ Some (whole (c *ℤ b))
times_whole c b =
    ap (λ (g : ℕ). Some (fraction (quotient c g *ℤ b) (1 / g))) (gcd_with_one (unsigned_abs c))
    ∙ ap (λ (z : ℤ). Some (fraction (z *ℤ b) 1)) (quotient_one c)

can_times : (c b : ℤ) → Fits (c *ℤ b) → CanTimes c (whole b)
can_times c b f = subst Fits (sym (ap (λ (g : ℕ). quotient c g *ℤ b) (gcd_with_one (unsigned_abs c)) ∙ ap (λ (z : ℤ). z *ℤ b) (quotient_one c))) f

once : (z : ℤ) → z *ℤ pos 1 ≡ z
once z = omega (arith, ints)

plus_whole : (a b : ℤ) → plus false (whole a) (whole b) ≡ Some (whole (a +ℤ b))
unfolding gcd_of
plus_whole a b =
    ap (λ (z : ℤ). Some (reduced_by (gcd_of (unsigned_abs z) 1) z 1)) (ap (λ (z : ℤ). z +ℤ b *ℤ pos 1) (once a) ∙ ap (λ (z : ℤ). a +ℤ z) (once b))
    ∙ ap (λ (g : ℕ). Some (reduced_by g (a +ℤ b) 1)) (gcd_with_one (unsigned_abs (a +ℤ b)))
    ∙ ap (λ (z : ℤ). Some (whole z)) (quotient_one (a +ℤ b))

can_plus : (a b : ℤ) → Fits a → Fits b → Fits (a +ℤ b) → CanPlus (whole a) (whole b)
unfolding gcd_of
can_plus a b fa fb fs = (
  omega arith,
  subst Fits (sym (once a)) fa,
  subst Fits (sym (once b)) fb,
  subst Fits (sym (ap (λ (z : ℤ). z +ℤ b *ℤ pos 1) (once a) ∙ ap (λ (z : ℤ). a +ℤ z) (once b))) fs,
)

can_negate : (s d : ℤ) → unsigned_abs d ≡ 1 → Fits s → Fits (neg_ℤ s) → CanNegate (whole s) d
can_negate s d u f n = (
  subst (λ (g : ℕ). Fits (if int_lt (pos 0) d then neg_ℤ (quotient s g) else quotient s g)) (sym is)
      (subst (λ (z : ℤ). Fits (if int_lt (pos 0) d then neg_ℤ z else z)) (sym (quotient_one s)) (by_test (int_lt (pos 0) d))),
  subst (λ (k : ℕ). 1 * (k / gcd_of (unsigned_abs s) k) < 2 ^ 127) (sym u) (subst (λ (g : ℕ). 1 * (1 / g) < 2 ^ 127) (sym (gcd_with_one (unsigned_abs s))) (omega arith)),
)
  where
    is : gcd_of (unsigned_abs s) (unsigned_abs d) ≡ 1
    is = ap (gcd_of (unsigned_abs s)) u ∙ gcd_with_one (unsigned_abs s)

    by_test : (b : Bool) → Fits (if b then neg_ℤ s else s)
    by_test true = n
    by_test false = f

-- ---- sizes
-- a whole number no greater than m
pub record IsSmall (m : ℕ) (f : Fraction) : Type 0 where
  pub number : ℤ
  pub is : f ≡ whole number
  pub low : neg_ℤ (pos m) ≤ℤ number
  pub high : number ≤ℤ pos m

abbrev pub AreSmall : List Fraction → Type 0
AreSmall values = (x : ℕ) → IsSmall (2 ^ 125) (slice_index_or values x (whole (pos 0)))

-- ---- terms of an edge
-- the product of a unit and a small number is small
data UnitTimes (c b : ℤ) : Type 0 where
  same : c *ℤ b ≡ b → UnitTimes c b
  negated : c *ℤ b ≡ neg_ℤ b → UnitTimes c b

unit_times : (c b : ℤ) → unsigned_abs c ≡ 1 → UnitTimes c b
unit_times (pos zero) b e = absurd (omega arith)
unit_times (pos (suc zero)) b e = same (let p : (z : ℤ) → pos 1 *ℤ z ≡ z = first in p b)
  where
    first : (z : ℤ) → pos 1 *ℤ z ≡ z
    first z = omega (arith, ints)
unit_times (pos (suc (suc n))) b e = absurd (omega arith)
unit_times (negsuc zero) b e = negated (second b)
  where
    second : (z : ℤ) → negsuc 0 *ℤ z ≡ neg_ℤ z
    second z = omega (arith, ints)
unit_times (negsuc (suc n)) b e = absurd (omega arith)

small_times : (c b : ℤ) (m : ℕ) → unsigned_abs c ≡ 1 → neg_ℤ (pos m) ≤ℤ b → b ≤ℤ pos m → (neg_ℤ (pos m) ≤ℤ (c *ℤ b)) × ((c *ℤ b) ≤ℤ pos m)
small_times c b m u l h = by_unit (unit_times c b u)
  where
    turned : (x y : ℤ) → x ≡ neg_ℤ y → neg_ℤ (pos m) ≤ℤ y → y ≤ℤ pos m → (neg_ℤ (pos m) ≤ℤ x) × (x ≤ℤ pos m)
    turned x y e l h = (omega (arith, ints), omega (arith, ints))

    by_unit : UnitTimes c b → (neg_ℤ (pos m) ≤ℤ (c *ℤ b)) × ((c *ℤ b) ≤ℤ pos m)
    by_unit (same e) = subst (λ (z : ℤ). (neg_ℤ (pos m) ≤ℤ z) × (z ≤ℤ pos m)) (sym e) (l, h)
    by_unit (negated e) = turned (c *ℤ b) b e l h

-- what can be added, and what comes of it
record Adds (v : ℕ) (values : List Fraction) (ts : List Term) (b : ℤ) : Type 0 where
  can : CanAddTerms v values ts (whole b)
  sum : ℤ
  is : terms_added false v values ts (whole b) ≡ Some (whole sum)
  low : neg_ℤ (pos (2 ^ 126)) ≤ℤ sum
  high : sum ≤ℤ pos (2 ^ 126)

within_fits : (m : ℕ) (z : ℤ) → m ≤ 3 * 2 ^ 125 → neg_ℤ (pos m) ≤ℤ z → z ≤ℤ pos m → Fits z
within_fits m z k l h = (omega (arith, ints), omega (arith, ints))

both_within : (m n : ℕ) (a b : ℤ) → neg_ℤ (pos m) ≤ℤ a → a ≤ℤ pos m → neg_ℤ (pos n) ≤ℤ b → b ≤ℤ pos n → (neg_ℤ (pos (m + n)) ≤ℤ (a +ℤ b)) × ((a +ℤ b) ≤ℤ pos (m + n))
both_within m n a b al ah bl bh = (omega (arith, ints), omega (arith, ints))

can_add : (v : ℕ) (values : List Fraction) → AreSmall values → (ts : List Term) → AllUnits ts → (n : ℕ) (b : ℤ) → neg_ℤ (pos n) ≤ℤ b → b ≤ℤ pos n → n + 2 ^ 125 * length ts ≤ 2 ^ 126 → Adds v values ts b
can_add v values small [] u n b l h k = record { can = tt; sum = b; is = refl; low = (widen n b (omega arith) l h).0; high = (widen n b (omega arith) l h).1 }
  where
    widen : (n : ℕ) (b : ℤ) → n ≤ 2 ^ 126 → neg_ℤ (pos n) ≤ℤ b → b ≤ℤ pos n → (neg_ℤ (pos (2 ^ 126)) ≤ℤ b) × (b ≤ℤ pos (2 ^ 126))
    widen n b k l h = (omega (arith, ints), omega (arith, ints))
can_add v values small (t ∷ ts) u n b l h k = by_test (t.0 == v) refl (λ m x lx hx g. can_add v values small ts u.1 m x lx hx g)
  where
    joined : (x : ℤ) → term_added false v values t (whole b) ≡ Some (whole x) → CanAddTerm v values t (whole b) → Adds v values ts x → Adds v values (t ∷ ts) b
    joined x e c a = record {
      can = (c, λ sum q. subst (CanAddTerms v values ts) (same (whole x) sum (sym e ∙ q)) a.can);
      sum = a.sum;
      is = step_is false v values t ts (whole b) ∙ ap (λ (o : Option Fraction). if_some o (λ s. terms_added false v values ts s)) e ∙ a.is;
      low = a.low;
      high = a.high;
    }
      where
        same : (e f : Fraction) → Some e ≡ Some f → e ≡ f
        same e f q = cc

    s : IsSmall (2 ^ 125) (slice_index_or values t.0 (whole (pos 0)))
    s = small t.0

    p : (neg_ℤ (pos (2 ^ 125)) ≤ℤ (t.1 *ℤ s.number)) × ((t.1 *ℤ s.number) ≤ℤ pos (2 ^ 125))
    p = small_times t.1 s.number (2 ^ 125) u.0 s.low s.high

    product : times false t.1 (slice_index_or values t.0 (whole (pos 0))) ≡ Some (whole (t.1 *ℤ s.number))
    product = ap (times false t.1) s.is ∙ times_whole t.1 s.number

    q : (neg_ℤ (pos (n + 2 ^ 125)) ≤ℤ (b +ℤ t.1 *ℤ s.number)) × ((b +ℤ t.1 *ℤ s.number) ≤ℤ pos (n + 2 ^ 125))
    q = both_within n (2 ^ 125) b (t.1 *ℤ s.number) l h p.0 p.1

    added : CanAddTerm v values t (whole b)
    added = λ o. (
      subst (CanTimes t.1) (sym s.is) (can_times t.1 s.number (within_fits (2 ^ 125) (t.1 *ℤ s.number) (omega arith) p.0 p.1)),
      λ f e. subst (CanPlus (whole b)) (same (whole (t.1 *ℤ s.number)) f (sym product ∙ e)) (can_plus b (t.1 *ℤ s.number) (within_fits n b (omega arith) l h) (within_fits (2 ^ 125) (t.1 *ℤ s.number) (omega arith) p.0 p.1) (within_fits (n + 2 ^ 125) (b +ℤ t.1 *ℤ s.number) (omega arith) q.0 q.1)),
    )
      where
        same : (e f : Fraction) → Some e ≡ Some f → e ≡ f
        same e f q = cc

    by_test : (c : Bool) → (t.0 == v) ≡ c → ((m : ℕ) (x : ℤ) → neg_ℤ (pos m) ≤ℤ x → x ≤ℤ pos m → m + 2 ^ 125 * length ts ≤ 2 ^ 126 → Adds v values ts x) → Adds v values (t ∷ ts) b
    by_test true e rest =
        joined b (ap (λ (c : Bool). if c then Some (whole b) else if_some (times false t.1 (slice_index_or values t.0 (whole (pos 0)))) (λ f. plus false (whole b) f)) e) added (rest n b l h (omega arith))
    by_test false e rest =
        joined (b +ℤ t.1 *ℤ s.number)
        (ap (λ (c : Bool). if c then Some (whole b) else if_some (times false t.1 (slice_index_or values t.0 (whole (pos 0)))) (λ f. plus false (whole b) f)) e ∙ ap (λ (o : Option Fraction). if_some o (λ f. plus false (whole b) f)) product ∙ plus_whole b (t.1 *ℤ s.number))
        added (rest (n + 2 ^ 125) (b +ℤ t.1 *ℤ s.number) q.0 q.1 (omega arith))

-- ---- an edge has two terms at most
abbrev AllEnds : ℕ → ℕ → List Term → Type 0
AllEnds i j [] = Unit {0}
AllEnds i j (t ∷ ts) = ((suc t.0 ≡ i) ⊎ (suc t.0 ≡ j)) × AllEnds i j ts

ends_from : (i j m : ℕ) (ts : List Term) → IsOrderedFrom m ts → ((x : ℕ) → m ≤ x → factor x ts ≡ mark x i -ℤ mark x j) → AllEnds i j ts
ends_from i j m [] o h = tt
ends_from i j m (t ∷ ts) o h =
    let l : m ≤ t.0 = o.0 in
    (by_marks (marks t.0 i) (marks t.0 j), ends_from i j (t.0 + 1) ts o.2 (λ x g. sym (factor_other x t ts (λ q. omega arith)) ∙ h x (omega arith)))
  where
    nothing : (a b : ℤ) → a ≡ pos 0 → b ≡ pos 0 → a -ℤ b ≡ pos 0
    nothing a b e f = omega (arith, ints)

    by_marks : Marks t.0 i → Marks t.0 j → (suc t.0 ≡ i) ⊎ (suc t.0 ≡ j)
    by_marks (marked p q) y = inl p
    by_marks (unmarked p q) (marked r s) = inr r
    by_marks (unmarked p q) (unmarked r s) = absurd (o.1 (sym (factor_head t ts m o) ∙ h t.0 o.0 ∙ nothing (mark t.0 i) (mark t.0 j) q s))

three : (a b c i j : ℕ) → a < b → b < c → (suc a ≡ i) ⊎ (suc a ≡ j) → (suc b ≡ i) ⊎ (suc b ≡ j) → (suc c ≡ i) ⊎ (suc c ≡ j) → ⊥
three a b c i j l k (inl e) (inl f) g = omega arith
three a b c i j l k (inl e) (inr f) (inl g) = omega arith
three a b c i j l k (inl e) (inr f) (inr g) = omega arith
three a b c i j l k (inr e) (inr f) g = omega arith
three a b c i j l k (inr e) (inl f) (inl g) = omega arith
three a b c i j l k (inr e) (inl f) (inr g) = omega arith

at_most_two : (i j m : ℕ) (ts : List Term) → IsOrderedFrom m ts → AllEnds i j ts → length ts ≤ 2
at_most_two i j m [] o h = omega arith
at_most_two i j m (t ∷ []) o h = omega arith
at_most_two i j m (s ∷ t ∷ []) o h = omega arith
at_most_two i j m (s ∷ t ∷ q ∷ ts) o h =
    let l : s.0 + 1 ≤ t.0 = o.2.0 in
    let k : t.0 + 1 ≤ q.0 = o.2.2.0 in
    absurd (three s.0 t.0 q.0 i j (omega arith) (omega arith) h.0 h.1.0 h.1.1.0)

-- ---- bounds of edges
can_bound : (v : ℕ) (values : List Fraction) → AreSmall values → (r : Row) (i j : ℕ) → IsLike r i j → unsigned_abs (factor v r.terms) ≡ 1 → IsSized (2 ^ 125) r.constant → CanBound v values r
can_bound v values small r i j like u c = record {
  terms = a.can;
  constant = λ sum q. subst (λ (f : Fraction). CanPlus f (whole r.constant)) (same (whole a.sum) sum (sym a.is ∙ q)) (can_plus a.sum r.constant (within_fits (2 ^ 126) a.sum (omega arith) a.low a.high) (within_fits (2 ^ 125) r.constant (omega arith) c.low c.high) (within_fits (2 ^ 126 + 2 ^ 125) (a.sum +ℤ r.constant) (omega arith) s.0 s.1));
  negated = λ terms sum q p. subst (λ (f : Fraction). CanNegate f (factor v r.terms)) (same (whole (a.sum +ℤ r.constant)) sum (sym (plus_whole a.sum r.constant) ∙ ap (λ (f : Fraction). plus false f (whole r.constant)) (same (whole a.sum) terms (sym a.is ∙ q)) ∙ p)) (can_negate (a.sum +ℤ r.constant) (factor v r.terms) u (within_fits (2 ^ 126 + 2 ^ 125) (a.sum +ℤ r.constant) (omega arith) s.0 s.1) (opposite_fits (a.sum +ℤ r.constant) s.0 s.1));
}
  where
    a : Adds v values r.terms (pos 0)
    a = let k : length r.terms ≤ 2 = at_most_two i j 0 r.terms like.ordered (ends_from i j 0 r.terms like.ordered (λ x l. like.factors x)) in can_add v values small r.terms (like_units r i j like) 0 (pos 0) (omega (arith, ints)) (omega (arith, ints)) (omega arith)

    s : (neg_ℤ (pos (2 ^ 126 + 2 ^ 125)) ≤ℤ (a.sum +ℤ r.constant)) × ((a.sum +ℤ r.constant) ≤ℤ pos (2 ^ 126 + 2 ^ 125))
    s = both_within (2 ^ 126) (2 ^ 125) a.sum r.constant a.low a.high c.low c.high

    opposite_fits : (z : ℤ) → neg_ℤ (pos (2 ^ 126 + 2 ^ 125)) ≤ℤ z → z ≤ℤ pos (2 ^ 126 + 2 ^ 125) → Fits (neg_ℤ z)
    opposite_fits z l h = (omega (arith, ints), omega (arith, ints))

    same : (e f : Fraction) → Some e ≡ Some f → e ≡ f
    same e f q = cc

can_bound_all : (v : ℕ) (values : List Fraction) (rows : List Row) → ((r : Row) → In r rows → CanBound v values r) → CanBoundAll v values rows
can_bound_all v values [] h = tt
can_bound_all v values (r ∷ rs) h = (h r (inl refl), can_bound_all v values rs (λ q k. h q (inr k)))

-- ---- all variables of a difference system
small_prefix : (values : List Fraction) (f : Fraction) → AreSmall (values ++ f ∷ []) → AreSmall values
small_prefix values f small x = elim (cases_lt x (length values)) [
  | inl l ↦ subst (IsSmall (2 ^ 125)) (get_or_append_left values (f ∷ []) (whole (pos 0)) x l) (small x)
  | inr l ↦ subst (IsSmall (2 ^ 125)) (sym (get_or_past values x (whole (pos 0)) l)) (record { number = pos 0; is = refl; low = omega (arith, ints); high = omega (arith, ints) })
]

edge_bounds : (rows : List Row) (v : ℕ) (kept : List Row) (values : List Fraction) → CanDecide rows → IsReached false rows (suc v) kept → AreSmall values → (r : Row) → In r kept → (factor v r.terms ≡ pos 0 → ⊥) → CanBound v values r
edge_bounds rows v kept values c i small r h o =
    let e = (i.edges refl).edges r h in
    can_bound v values small r e.0 e.1 e.2 (touched_unit v r e.0 e.1 (touch r v e.0 e.1 e.2 e.3) o) (reached_sized rows (suc v) kept c i r h)

pub can_reckon : (rows : List Row) → CanDecide rows → (n : ℕ) (kept : List Row) (ss : List Stage) (all : List Fraction) → IsReached false rows n kept → AreStages false n kept ss → under false n ss (point []) ≡ point all → AreSmall all → CanReckon n ss
can_reckon rows c n kept [] all i a e small = tt
can_reckon rows c zero kept (s ∷ ss) all i a e small = absurd a
can_reckon rows c (suc v) kept (s ∷ ss) all i a e small = by_rest (under false v ss (point [])) refl e (λ vs u k. can_reckon rows c v a.2.0 ss vs (reached_next false rows v kept a.2.0 i a.2.1) a.2.2 u k)
  where
    bounds : (values : List Fraction) → AreSmall values → CanBoundAll v values (bare s.raising.items) × CanBoundAll v values (bare s.lowering.items)
    bounds values k = (
      subst (CanBoundAll v values) (sym a.0) (can_bound_all v values (raising v kept) (λ r h. let f = filter_in (λ q. int_lt (pos 0) (factor v q.terms)) r kept h in edge_bounds rows v kept values c i k r f.0 (not_zero_up (factor v r.terms) f.1))),
      subst (CanBoundAll v values) (sym a.1) (can_bound_all v values (lowering v kept) (λ r h. let f = filter_in (λ q. int_lt (factor v q.terms) (pos 0)) r kept h in edge_bounds rows v kept values c i k r f.0 (not_zero_down (factor v r.terms) f.1))),
    )

    same : (x y : List Fraction) → point x ≡ point y → x ≡ y
    same x y q = cc

    by_value : (vs : List Fraction) → under false v ss (point []) ≡ point vs → (o : Option Fraction) → with_value v vs o ≡ point all → ((vs : List Fraction) → under false v ss (point []) ≡ point vs → AreSmall vs → CanReckon v ss) → CanReckon (suc v) (s ∷ ss)
    by_value vs u None q rest = absurd (cc)
    by_value vs u (Some f) q rest =
        let k = small_prefix vs f (subst AreSmall (sym (same (vs ++ f ∷ []) all q)) small) in
        ((λ values g. subst (λ (x : List Fraction). CanBoundAll v x (bare s.raising.items) × CanBoundAll v x (bare s.lowering.items)) (same vs values (sym u ∙ g)) (bounds vs k)), rest vs u k)

    by_rest : (w : Verdict) → under false v ss (point []) ≡ w → staged false v s w ≡ point all → ((vs : List Fraction) → under false v ss (point []) ≡ point vs → AreSmall vs → CanReckon v ss) → CanReckon (suc v) (s ∷ ss)
    by_rest (stops event) u q rest = absurd (cc)
    by_rest (point vs) u q rest = by_value vs u (least_allowed false v vs (bare s.raising.items) (bare s.lowering.items)) q rest
