-- A point of a difference system stays as small as its constants and the count of its variables let it.
use Rattle.std.proofs.Common.{arith, ◌≡◌, refl, sym, ◌∙◌, ap, subst, ℕ, suc, zero, ℤ, pos, negsuc, ◌+ℤ◌, ◌-ℤ◌, ◌*ℤ◌, ◌≤ℤ◌, ◌<ℤ◌, ◌+◌, ◌-◌, ◌*◌, ◌<◌, ◌≤◌, List, [], ◌∷◌, ◌++◌, length, ◌⊎◌, inl, inr, Bool, true, false, not, Option, Some, None, suc-mul, zero-mul}
use Rattle.std.specs.Prelude.{neg_ℤ, slice_index_or}
use Rattle.std.proofs.lemmas.Int.{ints}
use Rattle.std.proofs.lemmas.Bool.{cases_lt}
use Rattle.std.proofs.lemmas.List.{get_or_append_left, get_or_default, get_or_push, get_or_past}
use Rattle.std.proofs.Math.IntN.{*ℤ_comm, zero-*ℤ}
use Rattle.lt_model.proofs.Whole.{add-mul_ℤ, neg-mul_ℤ, mul_assoc_ℤ}
use Rattle.lt_lin.specs.declared.row.Row.{Row}
use Rattle.lt_lin.specs.Terms.{IsOrdered, factor, sum_at}
use Rattle.lt_lin.proofs.Factors.{AllBelow}
use Rattle.lt_lin.proofs.Soundness.{upto, upto_same, upto_zero, sum_by_variable}
use Rattle.lt_elim.specs.Elimination.{Kept, keeps, ends, keep_all, eliminated}
use Rattle.lt_elim.specs.Fraction.{Fraction, whole}
use Rattle.lt_elim.specs.Difference.{are_differences}
use Rattle.lt_elim.specs.Decision.{Verdict, stops, point, value_of, with_value, and_value, unless_ended, decided, variables, verdict_within, verdict}
use Rattle.lt_elim.specs.Law.{IsWholeVerdict, is_whole, DifferencePointsStaySmall}
use Rattle.lt_elim.proofs.Ring.{cancelled, not_negative_from}
use Rattle.lt_elim.proofs.Values.{IsNegatedOver, AreWorth, total}
use Rattle.lt_elim.proofs.Keeping.{In}
use Rattle.lt_elim.proofs.Paths.{UpTo}
use Rattle.lt_elim.proofs.Walks.{Walk, IsSized}
use Rattle.lt_elim.proofs.Edges.{mark, Marks, marked, unmarked, marks, mark_other, IsLike, Touch, starts, stops as stops_at, leaves, touch, same_ends}
use Rattle.lt_elim.proofs.Differences.{HasEdge, IsKept, kept_first, kept_next, row_like}
use Rattle.lt_elim.proofs.Points.{InForm, next_form, first_form, elimination, Solved, decided_solved, value_past, ValueOrigin, free, bound_of, value_origin, verdict_solved, row_below}
use Rattle.lt_elim.proofs.Laws.{in_all, Sized, AllWhole, value_at, value_whole, decided_whole, differences_are_whole}
use Rattle.lt_elim.proofs.Sizes.{Chain, at_zero, times, chain_sized, EdgesHold, chain_back, chain_on}

-- ---- values of vertices
abbrev at : (ℕ → ℤ) → ℕ → ℤ
at num zero = pos 0
at num (suc x) = num x

abbrev pub vertex_value : List Fraction → ℕ → ℤ
vertex_value values zero = pos 0
vertex_value values (suc x) = (slice_index_or values x (whole (pos 0))).over

at_is : (values : List Fraction) (num : ℕ → ℤ) (d : ℤ) → AllWhole values → AreWorth values num d → (u : ℕ) → at num u ≡ vertex_value values u *ℤ d
at_is values num d h ws zero = sym (zero-*ℤ d)
at_is values num d h ws (suc x) =
    once (num x) ∙ ap (λ (k : ℕ). num x *ℤ pos k) (sym (value_at values h x)) ∙ (ws x).value
  where
    once : (z : ℤ) → z ≡ z *ℤ pos 1
    once z = omega (arith, ints)

upto_mark : (num : ℕ → ℤ) (n i : ℕ) → i ≤ n → upto num n (λ x. mark x i) ≡ at num i
upto_mark num zero zero h = refl
upto_mark num zero (suc i) h = absurd (omega arith)
upto_mark num (suc n) i h = by_mark (marks n i) (upto_mark num n i)
  where
    first : (a b c : ℤ) → a ≡ c → b ≡ pos 0 → a +ℤ b ≡ c
    first a b c e f = omega (arith, ints)

    second : (a b c : ℤ) → a ≡ pos 0 → b ≡ c → a +ℤ b ≡ c
    second a b c e f = omega (arith, ints)

    once : (z : ℤ) → pos 1 *ℤ z ≡ z
    once z = omega (arith, ints)

    by_mark : Marks n i → (i ≤ n → upto num n (λ x. mark x i) ≡ at num i) → mark n i *ℤ num n +ℤ upto num n (λ x. mark x i) ≡ at num i
    by_mark (marked e q) rest =
        first (mark n i *ℤ num n) (upto num n (λ x. mark x i)) (at num i) (ap (λ z. z *ℤ num n) q ∙ once (num n) ∙ ap (at num) e)
        (upto_zero num n (λ x. mark x i) (λ x l. mark_other x i (λ k. omega arith)))
    by_mark (unmarked o q) rest = second (mark n i *ℤ num n) (upto num n (λ x. mark x i)) (at num i) (ap (λ z. z *ℤ num n) q ∙ zero-*ℤ (num n)) (rest (omega arith))

sub-mul : (a b c : ℤ) → (a -ℤ b) *ℤ c ≡ a *ℤ c -ℤ b *ℤ c
sub-mul a b c = ap (λ z. z *ℤ c) (minus a b) ∙ add-mul_ℤ a (neg_ℤ b) c ∙ ap (λ z. a *ℤ c +ℤ z) (neg-mul_ℤ b c) ∙ sym (minus (a *ℤ c) (b *ℤ c))
  where
    minus : (x y : ℤ) → x -ℤ y ≡ x +ℤ neg_ℤ y
    minus x y = omega (arith, ints)

upto_minus : (num : ℕ → ℤ) (n : ℕ) (f g : ℕ → ℤ) → upto num n (λ x. f x -ℤ g x) ≡ upto num n f -ℤ upto num n g
upto_minus num zero f g = refl
upto_minus num (suc n) f g = join ((f n -ℤ g n) *ℤ num n) (f n *ℤ num n) (g n *ℤ num n) (upto num n (λ x. f x -ℤ g x)) (upto num n f) (upto num n g) (sub-mul (f n) (g n) (num n)) (upto_minus num n f g)
  where
    join : (a b c s t u : ℤ) → a ≡ b -ℤ c → s ≡ t -ℤ u → a +ℤ s ≡ (b +ℤ t) -ℤ (c +ℤ u)
    join a b c s t u e f = omega (arith, ints)

-- what the terms of an edge come to
edge_sum : (num : ℕ → ℤ) (n i j : ℕ) (r : Row) → IsLike r i j → AllBelow n r.terms → i ≤ n → j ≤ n → sum_at num r.terms ≡ at num i -ℤ at num j
edge_sum num n i j r h b li lj =
    sum_by_variable num n r.terms b
    ∙ upto_same num n (λ x. factor x r.terms) (λ x. mark x i -ℤ mark x j) h.factors
    ∙ upto_minus num n (λ x. mark x i) (λ x. mark x j)
    ∙ ap (λ z. z -ℤ upto num n (λ x. mark x j)) (upto_mark num n i li)
    ∙ ap (λ z. at num i -ℤ z) (upto_mark num n j lj)

edge_total : (values : List Fraction) (num : ℕ → ℤ) (d : ℤ) (n i j : ℕ) (r : Row) → AllWhole values → AreWorth values num d → IsLike r i j → AllBelow n r.terms → i ≤ n → j ≤ n → total num d r ≡ (vertex_value values i -ℤ vertex_value values j +ℤ r.constant) *ℤ d
edge_total values num d n i j r w ws h b li lj =
    ap (λ z. z +ℤ r.constant *ℤ d) (edge_sum num n i j r h b li lj ∙ ap (λ z. z -ℤ at num j) (at_is values num d w ws i) ∙ ap (λ z. vertex_value values i *ℤ d -ℤ z) (at_is values num d w ws j) ∙ sym (sub-mul (vertex_value values i) (vertex_value values j) d))
    ∙ sym (add-mul_ℤ (vertex_value values i -ℤ vertex_value values j) r.constant d)

-- ---- what sets the value of a variable
data Determined (edge : ℕ → ℕ → ℤ → Type 0) (n : ℕ) (value : ℕ → ℤ) (v : ℕ) : Type 0 where
  none : value (suc v) ≡ pos 0 → Determined edge n value v
  onward : (j : ℕ) (p : List ℕ) (c : ℤ) → j ≤ v → Walk edge (suc v) p j c → UpTo n p → value (suc v) -ℤ value j +ℤ c ≡ pos 0 → Determined edge n value v
  backward : (i : ℕ) (p : List ℕ) (c : ℤ) → i ≤ v → Walk edge i p (suc v) c → UpTo n p → value i -ℤ value (suc v) +ℤ c ≡ pos 0 → Determined edge n value v

same_determined : (edge : ℕ → ℕ → ℤ → Type 0) (n : ℕ) (f g : ℕ → ℤ) (v : ℕ) → ((u : ℕ) → u ≤ suc v → f u ≡ g u) → Determined edge n f v → Determined edge n g v
same_determined edge n f g v h (none e) = none (sym (h (suc v) (omega arith)) ∙ e)
same_determined edge n f g v h (onward j p c l w u e) = onward j p c l w u (ap (λ z. z -ℤ g j +ℤ c) (sym (h (suc v) (omega arith))) ∙ ap (λ z. f (suc v) -ℤ z +ℤ c) (sym (h j (omega arith))) ∙ e)
same_determined edge n f g v h (backward i p c l w u e) = backward i p c l w u (ap (λ z. z -ℤ g (suc v) +ℤ c) (sym (h i (omega arith))) ∙ ap (λ z. f i -ℤ z +ℤ c) (sym (h (suc v) (omega arith))) ∙ e)

chain_upto : (edge : ℕ → ℕ → ℤ → Type 0) (value : ℕ → ℤ) (n m : ℕ) → ((i j : ℕ) (c : ℤ) → edge i j c → IsSized m c) → EdgesHold edge value → value 0 ≡ pos 0 → ((v : ℕ) → v < n → Determined edge n value v) → (k : ℕ) → k ≤ n → (u : ℕ) → u ≤ k → Chain value n m u
chain_upto edge value n m s h z det zero l u b = at_zero u (ap value (zero_is u b) ∙ z)
  where
    zero_is : (u : ℕ) → u ≤ 0 → u ≡ 0
    zero_is u b = omega arith
chain_upto edge value n m s h z det (suc k) l u b = by_order (cases_lt u (suc k)) (chain_upto edge value n m s h z det k (omega arith))
  where
    by_last : ((w : ℕ) → w ≤ k → Chain value n m w) → Determined edge n value k → Chain value n m (suc k)
    by_last rest (none e) = at_zero (suc k) e
    by_last rest (onward j p c lj w up e) = chain_back edge value n m s h (suc k) j p c w l up e (rest j lj)
    by_last rest (backward i p c li w up e) = chain_on edge value n m s h i (suc k) p c w l up e (rest i li)

    by_order : (u < suc k) ⊎ (suc k ≤ u) → ((w : ℕ) → w ≤ k → Chain value n m w) → Chain value n m u
    by_order (inl h) rest = rest u (omega arith)
    by_order (inr h) rest = let e : suc k ≡ u = omega arith in subst (Chain value n m) e (by_last rest (det k (omega arith)))

-- ---- one variable more
vertex_same : (values : List Fraction) (f : Fraction) (v : ℕ) → length values ≡ v → (u : ℕ) → u ≤ v → vertex_value values u ≡ vertex_value (values ++ f ∷ []) u
vertex_same values f v l zero h = refl
vertex_same values f v l (suc x) h = ap (λ (g : Fraction). g.over) (sym (get_or_append_left values (f ∷ []) (whole (pos 0)) x (omega arith)))

vertex_last : (values : List Fraction) (f : Fraction) (v : ℕ) → length values ≡ v → vertex_value (values ++ f ∷ []) (suc v) ≡ f.over
vertex_last values f v l = ap (λ (g : Fraction). g.over) (get_or_push values f (whole (pos 0)) v l)

value_beyond : (values : List Fraction) (v : ℕ) → length values ≡ v → vertex_value values (suc v) ≡ pos 0
value_beyond values v l = ap (λ (g : Fraction). g.over) (get_or_past values v (whole (pos 0)) (omega arith))

-- the value is what leaves the row nothing to spare
value_is : (f : Fraction) (a x d t : ℤ) → pos 0 <ℤ d → f.under ≡ 1 → t ≡ x *ℤ d → IsNegatedOver f a t d → d *ℤ (f.over *ℤ a) ≡ d *ℤ neg_ℤ x
value_is f a x d t pd u e b =
    *ℤ_comm d (f.over *ℤ a)
    ∙ mul_assoc_ℤ f.over a d
    ∙ b.value
    ∙ ap (λ (k : ℕ). neg_ℤ (t *ℤ pos k)) u
    ∙ ap neg_ℤ (once t ∙ e)
    ∙ sym (neg-mul_ℤ x d)
    ∙ *ℤ_comm (neg_ℤ x) d
  where
    once : (z : ℤ) → z *ℤ pos 1 ≡ z
    once z = omega (arith, ints)

bound_determined : (edge : ℕ → ℕ → ℤ → Type 0) (n v : ℕ) (values : List Fraction) (num : ℕ → ℤ) (d : ℤ) (f : Fraction) (r : Row) (i j : ℕ) (p : List ℕ) → AllBelow (suc v) r.terms → pos 0 <ℤ d → length values ≡ v → AllWhole values → f.under ≡ 1 → AreWorth values num d → IsLike r i j → (i ≡ j → ⊥) → i ≤ suc v → j ≤ suc v → Walk edge i p j r.constant → UpTo n p → IsNegatedOver f (factor v r.terms) (total num d r) d → (factor v r.terms ≡ pos 0 → ⊥) → Touch r v i j → Determined edge n (vertex_value (values ++ f ∷ [])) v
bound_determined edge n v values num d f r i j p bel pd l w fw ws like o li lj wk up b nz (leaves x y z) = absurd (nz z)
bound_determined edge n v values num d f r i j p bel pd l w fw ws like o li lj wk up b nz (starts x y z) =
    onward j p r.constant (omega arith) (subst (λ (k : ℕ). Walk edge k p j r.constant) x wk) up
    (ap (λ k. k -ℤ vertex_value (values ++ f ∷ []) j +ℤ r.constant) (vertex_last values f v l)
    ∙ ap (λ k. f.over -ℤ k +ℤ r.constant) (sym (vertex_same values f v l j (omega arith)))
    ∙ linear (f.over *ℤ factor v r.terms) f.over (vertex_value values i) (vertex_value values j) r.constant
    (cancelled d (f.over *ℤ factor v r.terms) (neg_ℤ (vertex_value values i -ℤ vertex_value values j +ℤ r.constant)) pd (value_is f (factor v r.terms) (vertex_value values i -ℤ vertex_value values j +ℤ r.constant) d (total num d r) pd fw (edge_total values num d (suc v) i j r w ws like bel li lj) b))
    (ap (λ k. f.over *ℤ k) z ∙ once f.over) (ap (vertex_value values) x ∙ value_beyond values v l))
  where
    once : (k : ℤ) → k *ℤ pos 1 ≡ k
    once k = omega (arith, ints)

    linear : (q s a c e : ℤ) → q ≡ neg_ℤ (a -ℤ c +ℤ e) → q ≡ s → a ≡ pos 0 → s -ℤ c +ℤ e ≡ pos 0
    linear q s a c e f g h = omega (arith, ints)
bound_determined edge n v values num d f r i j p bel pd l w fw ws like o li lj wk up b nz (stops_at x y z) =
    backward i p r.constant (omega arith) (subst (λ (k : ℕ). Walk edge i p k r.constant) y wk) up
    (ap (λ k. k -ℤ vertex_value (values ++ f ∷ []) (suc v) +ℤ r.constant) (sym (vertex_same values f v l i (omega arith)))
    ∙ ap (λ k. vertex_value values i -ℤ k +ℤ r.constant) (vertex_last values f v l)
    ∙ linear (f.over *ℤ factor v r.terms) f.over (vertex_value values i) (vertex_value values j) r.constant
    (cancelled d (f.over *ℤ factor v r.terms) (neg_ℤ (vertex_value values i -ℤ vertex_value values j +ℤ r.constant)) pd (value_is f (factor v r.terms) (vertex_value values i -ℤ vertex_value values j +ℤ r.constant) d (total num d r) pd fw (edge_total values num d (suc v) i j r w ws like bel li lj) b))
    (ap (λ k. f.over *ℤ k) z ∙ minus f.over) (ap (vertex_value values) y ∙ value_beyond values v l))
  where
    minus : (k : ℤ) → k *ℤ negsuc 0 ≡ neg_ℤ k
    minus k = omega (arith, ints)

    linear : (q s a c e : ℤ) → q ≡ neg_ℤ (a -ℤ c +ℤ e) → q ≡ neg_ℤ s → c ≡ pos 0 → a -ℤ s +ℤ e ≡ pos 0
    linear q s a c e f g h = omega (arith, ints)

value_determined : (edge : ℕ → ℕ → ℤ → Type 0) (n v : ℕ) (rows : List Row) (values : List Fraction) (num : ℕ → ℤ) (d : ℤ) (f : Fraction) → IsKept edge n (suc v) rows → InForm (suc v) rows → pos 0 <ℤ d → length values ≡ v → AllWhole values → f.under ≡ 1 → AreWorth values num d → ValueOrigin num d v rows f → Determined edge n (vertex_value (values ++ f ∷ [])) v
value_determined edge n v rows values num d f k form pd l w fw ws (free e) = none (vertex_last values f v l ∙ ap (λ (g : Fraction). g.over) e)
value_determined edge n v rows values num d f k form pd l w fw ws (bound_of r h b nz) =
    let e = k.edges r h in
    let g = k.stage.walks e.0 e.1 r.constant (r, h, e.2, e.3, refl) in
    bound_determined edge n v values num d f r e.0 e.1 g.0 (form r h).1 pd l w fw ws e.2 e.3 e.4 e.5 g.1 g.3 b nz (touch r v e.0 e.1 e.2 e.3)

point_whole : (values : List Fraction) → IsWholeVerdict (point values) → AllWhole values
point_whole values (is_whole vs h) = h

decided_determined : (edge : ℕ → ℕ → ℤ → Type 0) (n v : ℕ) (rows : List Row) (values : List Fraction) → v ≤ n → IsKept edge n v rows → InForm v rows → decided false v rows ≡ point values → (w : ℕ) → w < v → Determined edge n (vertex_value values) w
decided_determined edge n zero rows values l k form e w h = absurd (omega arith)
decided_determined edge n (suc v) rows values l k form e w h = by_kept (eliminated false v rows) refl e (λ next vs kn fn g u b. decided_determined edge n v next vs (omega arith) kn fn g u b)
  where
    by_value : (next : List Row) (vs : List Fraction) → IsKept edge n v next → InForm v next → decided false v next ≡ point vs → ((u : ℕ) → u < v → Determined edge n (vertex_value vs) u) → (o : Option Fraction) → value_of false v vs rows ≡ o → with_value v vs o ≡ point values → Determined edge n (vertex_value values) w
    by_value next vs kn fn g rest None q e = absurd (cc)
    by_value next vs kn fn g rest (Some f) q e =
        let is : vs ++ f ∷ [] ≡ values = cc in
        subst (λ (xs : List Fraction). Determined edge n (vertex_value xs) w) is (by_order (cases_lt w v))
      where
        s : Solved v vs next
        s = decided_solved false v next vs fn g

        whole_vs : AllWhole vs
        whole_vs = point_whole vs (subst IsWholeVerdict g (decided_whole edge n v next (omega arith) kn))

        f_whole : f.under ≡ 1
        f_whole =
            let x = value_whole v vs rows k.edges whole_vs in
            let same : Some f ≡ Some x.0 = sym q ∙ x.1 in
            let is : f ≡ x.0 = cc in
            ap (λ (y : Fraction). y.under) is ∙ x.2

        own : Determined edge n (vertex_value (vs ++ f ∷ [])) v
        own = value_determined edge n v rows vs s.num s.d f k form s.positive s.length_is whole_vs f_whole s.worth (value_origin false v vs rows s.num s.d f s.positive s.worth (value_past vs s.num s.d v s.length_is s.worth) q)

        by_order : (w < v) ⊎ (v ≤ w) → Determined edge n (vertex_value (vs ++ f ∷ [])) w
        by_order (inl b) = same_determined edge n (vertex_value vs) (vertex_value (vs ++ f ∷ [])) w (λ u c. vertex_same vs f v s.length_is u (omega arith)) (rest w b)
        by_order (inr b) = let e : v ≡ w = omega arith in subst (λ (x : ℕ). Determined edge n (vertex_value (vs ++ f ∷ [])) x) e own

    by_verdict : (next : List Row) → eliminated false v rows ≡ keeps next → (x : Verdict) → decided false v next ≡ x → and_value false v rows x ≡ point values → ((next : List Row) (vs : List Fraction) → IsKept edge n v next → InForm v next → decided false v next ≡ point vs → (u : ℕ) → u < v → Determined edge n (vertex_value vs) u) → Determined edge n (vertex_value values) w
    by_verdict next q (stops event) g e rest = absurd (cc)
    by_verdict next q (point vs) g e rest =
        let kn = kept_next edge n v rows next l k q in
        let fn = next_form v rows next form (elimination false v rows next q) in
        by_value next vs kn fn g (rest next vs kn fn g) (value_of false v vs rows) refl e

    by_kept : (x : Kept) → eliminated false v rows ≡ x → unless_ended x (λ next. and_value false v rows (decided false v next)) ≡ point values → ((next : List Row) (vs : List Fraction) → IsKept edge n v next → InForm v next → decided false v next ≡ point vs → (u : ℕ) → u < v → Determined edge n (vertex_value vs) u) → Determined edge n (vertex_value values) w
    by_kept (keeps next) q e rest = by_verdict next q (decided false v next) refl e rest
    by_kept (ends event) q e rest = absurd (cc)

-- ---- the whole system
times_is : (m n : ℕ) → times m n ≡ n * m
times_is m zero = sym (zero-mul m)
times_is m (suc n) = ap (λ k. k + m) (times_is m n) ∙ sym (suc-mul n m)

edges_hold : (rows : List Row) (values : List Fraction) → ((r : Row) → In r rows → IsOrdered r.terms) → are_differences rows ≡ true → AllWhole values → Solved (variables rows) values rows → EdgesHold (HasEdge rows) (vertex_value values)
edges_hold rows values ordered diff w s i j c h =
    let l = row_like rows ordered diff h.0 h.1 in
    let e = same_ends h.0 i j l.start l.end h.2 l.like h.3 in
    let li : i ≤ variables rows = subst (λ (z : ℕ). z ≤ variables rows) (sym e.0) l.start_upto in
    let lj : j ≤ variables rows = subst (λ (z : ℕ). z ≤ variables rows) (sym e.1) l.end_upto in
    let t : total s.num s.d h.0 ≡ (vertex_value values i -ℤ vertex_value values j +ℤ h.0.constant) *ℤ s.d = edge_total values s.num s.d (variables rows) i j h.0 w s.worth h.2 (row_below rows h.0 h.1) li lj in
    let p : pos 0 ≤ℤ (s.d *ℤ (vertex_value values i -ℤ vertex_value values j +ℤ h.0.constant)) = subst (λ (z : ℤ). pos 0 ≤ℤ z) (t ∙ *ℤ_comm (vertex_value values i -ℤ vertex_value values j +ℤ h.0.constant) s.d) (s.holds h.0 h.1) in
    subst (λ (z : ℤ). pos 0 ≤ℤ (vertex_value values i -ℤ vertex_value values j +ℤ z)) h.4 (not_negative_from s.d (vertex_value values i -ℤ vertex_value values j +ℤ h.0.constant) s.positive p)

pub difference_points_stay_small : DifferencePointsStaySmall
unfolding verdict
difference_points_stay_small rows o diff m small values e = λ x f h. sized x f h
  where
    ordered : (r : Row) → In r rows → IsOrdered r.terms
    ordered r h = in_all (λ q. IsOrdered q.terms) rows o r h

    s : Solved (variables rows) values rows
    s = verdict_solved rows values ordered e

    all_whole : AllWhole values
    all_whole = point_whole values (subst IsWholeVerdict e (differences_are_whole rows o diff))

    edge_sized : (i j : ℕ) (c : ℤ) → HasEdge rows i j c → IsSized m c
    edge_sized i j c h = let k = in_all (Sized m) rows small h.0 h.1 in subst (IsSized m) h.4 (record { low = k.0; high = k.1 })

    by_kept : (x : Kept) → keep_all false (variables rows - 1) [] rows ≡ x → unless_ended x (λ kept. decided false (variables rows) kept) ≡ point values → (w : ℕ) → w < variables rows → Determined (HasEdge rows) (variables rows) (vertex_value values) w
    by_kept (ends event) q g w h = absurd (cc)
    by_kept (keeps kept) q g w h = decided_determined (HasEdge rows) (variables rows) (variables rows) kept values (omega arith) (kept_first rows kept (variables rows - 1) ordered diff q) (first_form false (variables rows - 1) rows kept ordered q) g w h

    determined : (w : ℕ) → w < variables rows → Determined (HasEdge rows) (variables rows) (vertex_value values) w
    determined = by_kept (keep_all false (variables rows - 1) [] rows) refl (subst (λ (b : Bool). verdict_within (not b) rows ≡ point values) diff e)

    vertex_sized : (x : ℕ) → x < variables rows → IsSized (variables rows * m) (vertex_value values (suc x))
    vertex_sized x h =
        subst (λ (n : ℕ). IsSized n (vertex_value values (suc x))) (times_is m (variables rows))
        (chain_sized (vertex_value values) (variables rows) m (suc x) refl
        (chain_upto (HasEdge rows) (vertex_value values) (variables rows) m edge_sized (edges_hold rows values ordered diff all_whole s) refl determined (variables rows) (omega arith) (suc x) h))

    sized : (x : ℕ) (f : Fraction) → x < length values → (neg_ℤ (pos (variables rows * m)) ≤ℤ (slice_index_or values x f).over) × ((slice_index_or values x f).over ≤ℤ pos (variables rows * m))
    sized x f h =
        let k = vertex_sized x (let l : length values ≡ variables rows = s.length_is in omega arith) in
        let same : slice_index_or values x (whole (pos 0)) ≡ slice_index_or values x f = get_or_default values x (whole (pos 0)) f h in
        subst (λ (g : Fraction). (neg_ℤ (pos (variables rows * m)) ≤ℤ g.over) × (g.over ≤ℤ pos (variables rows * m))) same (k.low, k.high)
