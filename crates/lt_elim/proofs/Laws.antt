-- The laws of difference systems.
use Rattle.std.proofs.Common.{arith, ◌≡◌, refl, sym, ◌∙◌, ap, subst, ℕ, suc, zero, ℤ, pos, ◌+ℤ◌, ◌*ℤ◌, ◌≤ℤ◌, ◌+◌, ◌-◌, ◌*◌, ◌/◌, ◌^◌, ◌<◌, ◌≤◌, List, [], ◌∷◌, ◌++◌, length, ◌⊎◌, inl, inr, Bool, true, false, ◌&&◌, not, div-one, suc-mul, zero-mul, add_comm, Option, Some}
use native.Mathlib.Nat.{mod-one}
use Rattle.std.specs.Prelude.{neg_ℤ, int_lt, ◌==◌, if◌then◌else◌, unsigned_abs, All, slice_index_or}
use Rattle.std.proofs.lemmas.Int.{ints}
use Rattle.std.proofs.lemmas.List.Elements.{All-nil, All-cons, All-append, All-head, All-tail}
use Rattle.std.proofs.lemmas.Bool.{cases_lt}
use Rattle.std.proofs.lemmas.List.{get_or_past}
use Rattle.lt_lin.specs.declared.row.Row.{Row}
use Rattle.lt_lin.specs.Terms.{Term, IsOrdered, factor}
use Rattle.lt_elim.specs.Divisor.{gcd_by, gcd_of, quotient}
use Rattle.lt_elim.specs.Combination.{normalised, combination}
use Rattle.lt_elim.specs.Elimination.{refuted, Kept, keeps, ends, and_next, is_constant, with_row, keep, keep_normalised, keep_all, combine_with, combine_all, without, raising, lowering, eliminated}
use Rattle.lt_elim.specs.Fraction.{Fraction, fraction, whole, times, reduced, plus, negated_over, is_at_most, greater, lesser}
use Rattle.lt_elim.specs.Difference.{are_differences}
use Rattle.lt_elim.specs.Decision.{Verdict, stops, if_some, terms_added, bound, best_after, best_of, least_allowed, value_of, with_value, and_value, unless_ended, decided, variables, verdict_within, verdict}
use Rattle.lt_elim.specs.Law.{AreOrdered, IsWholeVerdict, is_refuted, is_whole, DifferencesAreWhole, Reaches, at_first, after_next, AreSized, DifferencesStaySmall, PointsSatisfy, RefutationsHaveLines}
use Rattle.lt_elim.proofs.Walks.{IsSized, steps}
use Rattle.lt_elim.proofs.Keeping.{In, filter_in}
use Rattle.lt_elim.proofs.Edges.{touch, Touch, starts, stops, leaves}
use Rattle.lt_lin.specs.Lines.{Lines}
use Rattle.lt_lin.specs.Refutation.{Refutes}
use Rattle.lt_lin.proofs.Soundness.{unsatisfied}
use Rattle.lt_elim.proofs.Refuting.{Follows, verdict_traced, edges_fit}
use Rattle.lt_elim.proofs.Points.{verdict_solved}
use Rattle.lt_elim.proofs.Values.{total}
use Rattle.lt_elim.proofs.Differences.{HasEdge, AreEdges, IsKept, kept_first, kept_next, kept_sized}

-- ---- small constants
pub in_all : (P : Row → Type 0) (rows : List Row) → All P rows → (r : Row) → In r rows → P r
in_all P [] a r h = absurd h
in_all P (q ∷ qs) a r (inl e) = subst P e (All-head P q qs a)
in_all P (q ∷ qs) a r (inr h) = in_all P qs (All-tail P q qs a) r h

pub all_in : (P : Row → Type 0) (rows : List Row) → ((r : Row) → In r rows → P r) → All P rows
all_in P [] h = All-nil P
all_in P (q ∷ qs) h = All-cons P q qs (h q (inl refl)) (all_in P qs (λ r k. h r (inr k)))

pub steps_times : (m n : ℕ) → steps m n ≡ n * m
steps_times m zero = sym (zero-mul m)
steps_times m (suc n) = ap (λ k. m + k) (steps_times m n) ∙ add_comm m (n * m) ∙ sym (suc-mul n m)

record ReachedKept (rows : List Row) (v : ℕ) (kept : List Row) : Type 0 where
  upto : v ≤ variables rows
  is_kept : IsKept (HasEdge rows) (variables rows) v kept

reached_kept : (rows : List Row) → ((r : Row) → In r rows → IsOrdered r.terms) → are_differences rows ≡ true → (v : ℕ) (kept : List Row) → Reaches rows v kept → ReachedKept rows v kept
reached_kept rows o d v kept (at_first last k e) = record { upto = omega arith; is_kept = kept_first rows kept last o d e }
reached_kept rows o d v kept (after_next w k next h e) =
    let r = reached_kept rows o d (suc v) k h in
    record { upto = let l : suc v ≤ variables rows = r.upto in omega arith; is_kept = kept_next (HasEdge rows) (variables rows) v k kept r.upto r.is_kept e }

abbrev pub Sized : ℕ → Row → Type 0
Sized m r = (neg_ℤ (pos m) ≤ℤ r.constant) × (r.constant ≤ℤ pos m)

pub differences_stay_small : DifferencesStaySmall
differences_stay_small rows o d m s v kept h =
    let ordered = λ (r : Row). λ (k : In r rows). in_all (λ q. IsOrdered q.terms) rows o r k in
    let k = reached_kept rows ordered d v kept h in
    let small = λ (r : Row). λ (g : In r rows). as_sized r (in_all (Sized m) rows s r g) in
    all_in (Sized (suc (variables rows) * m)) kept (λ r g. from_sized r (kept_sized rows (variables rows) v m kept small k.is_kept r g))
  where
    as_sized : (r : Row) → Sized m r → IsSized m r.constant
    as_sized r h = record { low = h.0; high = h.1 }

    from_sized : (r : Row) → IsSized (steps m (suc (variables rows))) r.constant → Sized (suc (variables rows) * m) r
    from_sized r h =
        let k = subst (λ (n : ℕ). IsSized n r.constant) (steps_times m (suc (variables rows))) h in
        (k.low, k.high)

-- ---- no limit comes
-- rows are kept, or the event is a refutation
data IsUnlimited : Kept → Type 0 where
  goes : (kept : List Row) → IsUnlimited (keeps kept)
  refutes : IsUnlimited (ends refuted)

keep_unlimited : (v : ℕ) (kept : List Row) (r : Row) → IsUnlimited (keep_normalised false v kept r)
keep_unlimited v kept r = by_tests (is_constant r) (int_lt r.constant (pos 0))
  where
    by_tests : (c l : Bool) → IsUnlimited (if c && l then ends refuted else (if c then keeps kept else keeps (with_row kept r)))
    by_tests true true = refutes
    by_tests true false = goes kept
    by_tests false l = goes (with_row kept r)

and_next_unlimited : (k : Kept) (next : List Row → Kept) → IsUnlimited k → ((kept : List Row) → IsUnlimited (next kept)) → IsUnlimited (and_next k next)
and_next_unlimited k next (goes kept) h = h kept
and_next_unlimited k next refutes h = refutes

keep_all_unlimited : (v : ℕ) (kept rows : List Row) → IsUnlimited (keep_all false v kept rows)
keep_all_unlimited v kept [] = goes kept
keep_all_unlimited v kept (r ∷ rs) = and_next_unlimited (keep false v kept r) (λ more. keep_all false v more rs) (keep_unlimited v kept (normalised r)) (λ more. keep_all_unlimited v more rs)

combine_with_unlimited : (v : ℕ) (p : Row) (kept ns : List Row) → IsUnlimited (combine_with false v p kept ns)
combine_with_unlimited v p kept [] = goes kept
combine_with_unlimited v p kept (n ∷ ns) = and_next_unlimited (keep false v kept (combination v p n)) (λ more. combine_with false v p more ns) (keep_unlimited v kept (normalised (combination v p n))) (λ more. combine_with_unlimited v p more ns)

combine_all_unlimited : (v : ℕ) (kept ps ns : List Row) → IsUnlimited (combine_all false v kept ps ns)
combine_all_unlimited v kept [] ns = goes kept
combine_all_unlimited v kept (p ∷ ps) ns = and_next_unlimited (combine_with false v p kept ns) (λ more. combine_all false v more ps ns) (combine_with_unlimited v p kept ns) (λ more. combine_all_unlimited v more ps ns)

eliminated_unlimited : (v : ℕ) (rows : List Row) → IsUnlimited (eliminated false v rows)
unfolding eliminated
eliminated_unlimited v rows = combine_all_unlimited v (without v rows) (raising v rows) (lowering v rows)

-- ---- whole values
-- a value that there is and that is whole
abbrev pub GivesWhole : Option Fraction → Type 0
GivesWhole o = (f : Fraction) × (o ≡ Some f) × (f.under ≡ 1)

pub gcd_with_one : (k : ℕ) → gcd_of k 1 ≡ 1
unfolding gcd_of
gcd_with_one k = ap (λ (r : ℕ). gcd_by 1 1 r) (mod-one k)

times_whole : (a : ℤ) (f : Fraction) → f.under ≡ 1 → GivesWhole (times false a f)
times_whole a f u = (fraction (quotient a g *ℤ f.over) (f.under / g), refl, ap (λ (z : ℕ). f.under / z) is ∙ div-one f.under ∙ u)
  where
    g : ℕ
    g = gcd_of (unsigned_abs a) f.under

    is : g ≡ 1
    is = ap (λ (z : ℕ). gcd_of (unsigned_abs a) z) u ∙ gcd_with_one (unsigned_abs a)

reduced_whole : (p : ℤ) (q : ℕ) → q ≡ 1 → (reduced p q).under ≡ 1
reduced_whole p q u = ap (λ (z : ℕ). q / z) (ap (λ (z : ℕ). gcd_of (unsigned_abs p) z) u ∙ gcd_with_one (unsigned_abs p)) ∙ div-one q ∙ u

plus_whole : (e f : Fraction) → e.under ≡ 1 → f.under ≡ 1 → GivesWhole (plus false e f)
plus_whole e f u w = (reduced (e.over *ℤ pos (f.under / g) +ℤ f.over *ℤ pos (e.under / g)) (e.under / g * f.under), refl, reduced_whole (e.over *ℤ pos (f.under / g) +ℤ f.over *ℤ pos (e.under / g)) (e.under / g * f.under) one)
  where
    g : ℕ
    g = gcd_of e.under f.under

    is : g ≡ 1
    is = ap (λ (z : ℕ). gcd_of e.under z) w ∙ gcd_with_one e.under

    one : e.under / g * f.under ≡ 1
    one = ap (λ (z : ℕ). e.under / z * f.under) is ∙ ap (λ (z : ℕ). z * f.under) (div-one e.under ∙ u) ∙ ap (λ (z : ℕ). 1 * z) w

negated_whole : (f : Fraction) (d : ℤ) → f.under ≡ 1 → unsigned_abs d ≡ 1 → GivesWhole (negated_over false f d)
negated_whole f d u w = (fraction (if int_lt (pos 0) d then neg_ℤ (quotient f.over g) else quotient f.over g) (f.under * (unsigned_abs d / g)), refl, ap (λ (z : ℕ). f.under * (unsigned_abs d / z)) is ∙ ap (λ (z : ℕ). f.under * z) (div-one (unsigned_abs d) ∙ w) ∙ ap (λ (z : ℕ). z * 1) u)
  where
    g : ℕ
    g = gcd_of (unsigned_abs f.over) (unsigned_abs d)

    is : g ≡ 1
    is = ap (λ (z : ℕ). gcd_of (unsigned_abs f.over) z) w ∙ gcd_with_one (unsigned_abs f.over)

if_some_whole : (o : Option Fraction) (next : Fraction → Option Fraction) → GivesWhole o → ((f : Fraction) → f.under ≡ 1 → GivesWhole (next f)) → GivesWhole (if_some o next)
if_some_whole o next h k = subst (λ (z : Option Fraction). GivesWhole (if_some z next)) (sym h.1) (k h.0 h.2)

abbrev pub AllWhole : List Fraction → Type 0
AllWhole values = All (λ f. f.under ≡ 1) values

pub value_at : (values : List Fraction) → AllWhole values → (x : ℕ) → (slice_index_or values x (whole (pos 0))).under ≡ 1
value_at values h x = by_place (cases_lt x (length values))
  where
    by_place : (x < length values) ⊎ (length values ≤ x) → (slice_index_or values x (whole (pos 0))).under ≡ 1
    by_place (inl l) = h x (whole (pos 0)) l
    by_place (inr l) = ap (λ (f : Fraction). f.under) (get_or_past values x (whole (pos 0)) l)

added_whole : (v : ℕ) (values : List Fraction) (ts : List Term) (before : Fraction) → AllWhole values → before.under ≡ 1 → GivesWhole (terms_added false v values ts before)
added_whole v values [] before h u = (before, refl, u)
added_whole v values (t ∷ ts) before h u = by_test (t.0 == v) (λ f w. added_whole v values ts f h w)
  where
    by_test : (b : Bool) → ((f : Fraction) → f.under ≡ 1 → GivesWhole (terms_added false v values ts f)) → GivesWhole (if b then terms_added false v values ts before else if_some (times false t.1 (slice_index_or values t.0 (whole (pos 0)))) (λ product. if_some (plus false before product) (λ sum. terms_added false v values ts sum)))
    by_test true rest = rest before u
    by_test false rest =
        if_some_whole (times false t.1 (slice_index_or values t.0 (whole (pos 0)))) (λ product. if_some (plus false before product) (λ sum. terms_added false v values ts sum)) (times_whole t.1 (slice_index_or values t.0 (whole (pos 0))) (value_at values h t.0))
        (λ product w. if_some_whole (plus false before product) (λ sum. terms_added false v values ts sum) (plus_whole before product u w) rest)

bound_whole : (v : ℕ) (values : List Fraction) (r : Row) → AllWhole values → unsigned_abs (factor v r.terms) ≡ 1 → GivesWhole (bound false v values r)
bound_whole v values r h w =
    if_some_whole (terms_added false v values r.terms (whole (pos 0))) (λ terms. if_some (plus false terms (whole r.constant)) (λ sum. negated_over false sum (factor v r.terms))) (added_whole v values r.terms (whole (pos 0)) h refl)
    (λ terms u. if_some_whole (plus false terms (whole r.constant)) (λ sum. negated_over false sum (factor v r.terms)) (plus_whole terms (whole r.constant) u refl)
    (λ sum k. negated_whole sum (factor v r.terms) k w))

abbrev Keeps : (Fraction → Fraction → Fraction) → Type 0
Keeps better = (e f : Fraction) → (better e f ≡ e) ⊎ (better e f ≡ f)

better_whole : (better : Fraction → Fraction → Fraction) → Keeps better → (e f : Fraction) → e.under ≡ 1 → f.under ≡ 1 → (better e f).under ≡ 1
better_whole better k e f u w = elim (k e f) [ inl h ↦ ap (λ (z : Fraction). z.under) h ∙ u | inr h ↦ ap (λ (z : Fraction). z.under) h ∙ w ]

abbrev UnitAt : ℕ → List Row → Type 0
UnitAt v rows = (r : Row) → In r rows → unsigned_abs (factor v r.terms) ≡ 1

best_after_whole : (better : Fraction → Fraction → Fraction) → Keeps better → (v : ℕ) (values : List Fraction) (best : Fraction) (rows : List Row) → AllWhole values → best.under ≡ 1 → UnitAt v rows → GivesWhole (best_after better false v values best rows)
best_after_whole better k v values best [] h u one = (best, refl, u)
best_after_whole better k v values best (r ∷ rs) h u one =
    if_some_whole (bound false v values r) (λ b. best_after better false v values (better best b) rs) (bound_whole v values r h (one r (inl refl)))
    (λ b w. best_after_whole better k v values (better best b) rs h (better_whole better k best b u w) (λ q g. one q (inr g)))

best_of_whole : (better : Fraction → Fraction → Fraction) → Keeps better → (v : ℕ) (values : List Fraction) (r : Row) (rows : List Row) → AllWhole values → UnitAt v (r ∷ rows) → GivesWhole (best_of better false v values r rows)
best_of_whole better k v values r rows h one =
    if_some_whole (bound false v values r) (λ b. best_after better false v values b rows) (bound_whole v values r h (one r (inl refl)))
    (λ b w. best_after_whole better k v values b rows h w (λ q g. one q (inr g)))

greater_keeps : Keeps greater
greater_keeps e f = by_test (is_at_most f e)
  where
    by_test : (b : Bool) → ((if b then e else f) ≡ e) ⊎ ((if b then e else f) ≡ f)
    by_test true = inl refl
    by_test false = inr refl

lesser_keeps : Keeps lesser
lesser_keeps e f = by_test (is_at_most e f)
  where
    by_test : (b : Bool) → ((if b then e else f) ≡ e) ⊎ ((if b then e else f) ≡ f)
    by_test true = inl refl
    by_test false = inr refl

allowed_whole : (v : ℕ) (values : List Fraction) (lower upper : List Row) → AllWhole values → UnitAt v lower → UnitAt v upper → GivesWhole (least_allowed false v values lower upper)
allowed_whole v values [] [] h l u = (whole (pos 0), refl, refl)
allowed_whole v values [] (r ∷ rs) h l u = best_of_whole lesser lesser_keeps v values r rs h u
allowed_whole v values (r ∷ rs) upper h l u = best_of_whole greater greater_keeps v values r rs h l

pub touched_unit : (v : ℕ) (r : Row) (i j : ℕ) → Touch r v i j → (factor v r.terms ≡ pos 0 → ⊥) → unsigned_abs (factor v r.terms) ≡ 1
touched_unit v r i j (starts a b c) o = ap unsigned_abs c
touched_unit v r i j (stops a b c) o = ap unsigned_abs c
touched_unit v r i j (leaves a b c) o = absurd (o c)

pub value_whole : (v : ℕ) (values : List Fraction) (rows : List Row) → AreEdges (suc v) rows → AllWhole values → GivesWhole (value_of false v values rows)
unfolding value_of
value_whole v values rows edges h = allowed_whole v values (raising v rows) (lowering v rows) h raise lower
  where
    not_zero : (z : ℤ) → int_lt (pos 0) z ≡ true → z ≡ pos 0 → ⊥
    not_zero z t e = grind (arith, ints)

    not_zero' : (z : ℤ) → int_lt z (pos 0) ≡ true → z ≡ pos 0 → ⊥
    not_zero' z t e = grind (arith, ints)

    raise : UnitAt v (raising v rows)
    raise r k =
        let f = filter_in (λ q. int_lt (pos 0) (factor v q.terms)) r rows k in
        let e = edges r f.0 in
        touched_unit v r e.0 e.1 (touch r v e.0 e.1 e.2 e.3) (not_zero (factor v r.terms) f.1)

    lower : UnitAt v (lowering v rows)
    lower r k =
        let f = filter_in (λ q. int_lt (factor v q.terms) (pos 0)) r rows k in
        let e = edges r f.0 in
        touched_unit v r e.0 e.1 (touch r v e.0 e.1 e.2 e.3) (not_zero' (factor v r.terms) f.1)

-- ---- verdicts
with_value_whole : (v : ℕ) (values : List Fraction) (o : Option Fraction) → AllWhole values → GivesWhole o → IsWholeVerdict (with_value v values o)
with_value_whole v values o h g =
    subst (λ (z : Option Fraction). IsWholeVerdict (with_value v values z)) (sym g.1)
    (is_whole (values ++ g.0 ∷ []) (All-append (λ f. f.under ≡ 1) values (g.0 ∷ []) h (All-cons (λ f. f.under ≡ 1) g.0 [] g.2 (All-nil (λ f. f.under ≡ 1)))))

and_value_whole : (v : ℕ) (rows : List Row) (rest : Verdict) → AreEdges (suc v) rows → IsWholeVerdict rest → IsWholeVerdict (and_value false v rows rest)
and_value_whole v rows rest edges is_refuted = is_refuted
and_value_whole v rows rest edges (is_whole values h) = with_value_whole v values (value_of false v values rows) h (value_whole v values rows edges h)

pub decided_whole : (edge : ℕ → ℕ → ℤ → Type 0) (n v : ℕ) (rows : List Row) → v ≤ n → IsKept edge n v rows → IsWholeVerdict (decided false v rows)
decided_whole edge n zero rows l k = is_whole [] (All-nil (λ f. f.under ≡ 1))
decided_whole edge n (suc v) rows l k = by_kept (eliminated false v rows) refl (eliminated_unlimited v rows) (λ next h. decided_whole edge n v next (omega arith) h)
  where
    by_kept : (e : Kept) → eliminated false v rows ≡ e → IsUnlimited e → ((next : List Row) → IsKept edge n v next → IsWholeVerdict (decided false v next)) → IsWholeVerdict (unless_ended e (λ next. and_value false v rows (decided false v next)))
    by_kept e q (goes next) rest = and_value_whole v rows (decided false v next) k.edges (rest next (kept_next edge n v rows next l k q))
    by_kept e q refutes rest = is_refuted

pub differences_are_whole : DifferencesAreWhole
unfolding verdict
differences_are_whole rows o d = subst (λ (b : Bool). IsWholeVerdict (verdict_within (not b) rows)) (sym d) (by_kept (keep_all false (variables rows - 1) [] rows) refl (keep_all_unlimited (variables rows - 1) [] rows))
  where
    by_kept : (e : Kept) → keep_all false (variables rows - 1) [] rows ≡ e → IsUnlimited e → IsWholeVerdict (unless_ended e (λ kept. decided false (variables rows) kept))
    by_kept e q (goes kept) = decided_whole (HasEdge rows) (variables rows) (variables rows) kept (omega arith) (kept_first rows kept (variables rows - 1) (λ r h. in_all (λ q. IsOrdered q.terms) rows o r h) d q)
    by_kept e q refutes = is_refuted

-- ---- points
pub points_satisfy : PointsSatisfy
points_satisfy rows o values e =
    let s = verdict_solved rows values (λ r h. in_all (λ q. IsOrdered q.terms) rows o r h) e in (
      s.length_is,
      record {
        denominator = s.d;
        numerators = s.num;
        positive = s.positive;
        unders_positive = λ x. (s.worth x).positive;
        values_are = λ x. (s.worth x).value;
        rows_hold = all_in (λ r. pos 0 ≤ℤ total s.num s.d r) rows s.holds;
      },
    )

-- ---- refutations
has_lines : (rows : List Row) → AreOrdered rows → (m : ℕ) → AreSized m rows → suc (variables rows) * m ≤ 2 ^ 125 → verdict rows ≡ stops refuted → (lines : Lines) × Refutes rows lines
unfolding verdict
has_lines rows o m s small e = by_test (are_differences rows) refl e
  where
    ordered : (r : Row) → In r rows → IsOrdered r.terms
    ordered r h = in_all (λ q. IsOrdered q.terms) rows o r h

    sized : (r : Row) → In r rows → IsSized m r.constant
    sized r h = let k = in_all (Sized m) rows s r h in record { low = k.0; high = k.1 }

    without_limit : Follows rows false (λ v kept. IsKept (HasEdge rows) (variables rows) v kept × (v ≤ variables rows))
    without_limit = record {
      fits = λ v kept i f p n hp hn. edges_fit v kept i.0.edges (λ r h. wider r.constant (kept_sized rows (variables rows) (suc v) m kept sized i.0 r h)) p n hp hn;
      next = λ v kept more i f. (kept_next (HasEdge rows) (variables rows) v kept more i.1 i.0 f, let l : suc v ≤ variables rows = i.1 in omega arith);
    }
      where
        wider : (c : ℤ) → IsSized (steps m (suc (variables rows))) c → IsSized (2 ^ 125) c
        wider c h =
            let k : IsSized (suc (variables rows) * m) c = subst (λ (n : ℕ). IsSized n c) (steps_times m (suc (variables rows))) h in
            widen (suc (variables rows) * m) (2 ^ 125) c small k.low k.high
          where
            widen : (x y : ℕ) (c : ℤ) → x ≤ y → neg_ℤ (pos x) ≤ℤ c → c ≤ℤ pos x → IsSized y c
            widen x y c l a b = record { low = omega (arith, ints); high = omega (arith, ints) }

    with_limit : Follows rows true (λ v kept. Unit {0})
    with_limit = record { fits = λ v kept i f p n hp hn. absurd (cc); next = λ v kept more i f. tt }

    by_test : (d : Bool) → are_differences rows ≡ d → verdict_within (not d) rows ≡ stops refuted → (lines : Lines) × Refutes rows lines
    by_test true d e = verdict_traced rows false (λ v kept. IsKept (HasEdge rows) (variables rows) v kept × (v ≤ variables rows)) without_limit ordered (λ kept f. (kept_first rows kept (variables rows - 1) ordered d f, omega arith)) e
    by_test false d e = verdict_traced rows true (λ v kept. Unit {0}) with_limit ordered (λ kept f. tt) e

pub refutations_have_lines : RefutationsHaveLines
refutations_have_lines rows o m s small e =
    let l = has_lines rows o m s small e in
    (l, λ numbers h. unsatisfied rows l.0 l.1 numbers h)
