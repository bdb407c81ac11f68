-- What the condition on a system says of its rows, and of those that are kept of it.
use Rattle.std.proofs.Common.{arith, ◌≡◌, refl, sym, ◌∙◌, ap, subst, ℕ, suc, zero, ℤ, pos, negsuc, ◌*ℤ◌, ◌≤ℤ◌, ◌+◌, ◌-◌, ◌*◌, ◌/◌, ◌^◌, ◌<◌, ◌≤◌, List, [], ◌∷◌, ◌++◌, length, ◌⊎◌, inl, inr, Bool, true, false, ◌&&◌, ◌||◌, not, Option, Some, None, suc-mul}
use Rattle.std.specs.Prelude.{neg_ℤ, int_lt, nat_lt, if◌then◌else◌, map, unsigned_abs, nat_le, IsTrue}
use Rattle.std.specs.Ordering.{int_eq}
use Rattle.std.proofs.Math.Nat.{div-le_self}
use Rattle.std.proofs.lemmas.Int.{ints}
use Rattle.std.proofs.lemmas.Bool.{cases_lt}
use Rattle.lt_lin.specs.declared.row.Row.{Row}
use Rattle.lt_lin.specs.Terms.{Term, IsOrderedFrom, IsOrdered, factor}
use Rattle.lt_lin.proofs.Factors.{factor_above}
use Rattle.lt_elim.specs.Divisor.{content, quotient, passes}
use Rattle.lt_elim.specs.Combination.{divided, normalised, terms_below, multipliers, sum_of, combination, passes_in, any_below, is_wide}
use Rattle.lt_elim.specs.Elimination.{Kept, keeps, ends, coeff, and_next, is_constant, keep, keep_all, keep_combination, combine_with, combine_all, without, raising, lowering, eliminated}
use Rattle.lt_elim.specs.Difference.{are_differences}
use Rattle.lt_elim.specs.Decision.{unless_ended, decided, variables, verdict_within, verdict}
use Rattle.lt_elim.specs.Progress.{AllInOrder, HaveContents}
use Rattle.lt_elim.specs.Summing.{part, PartsFit, CanCombine, CombineWith, CombineAll}
use Rattle.lt_elim.specs.declared.stage.Stage.{Stage}
use Rattle.lt_elim.specs.Stages.{CanEliminate, AreStages, AreStagesOf}
use Rattle.lt_elim.specs.Law.{AreSized}
use Rattle.lt_elim.specs.Condition.{greatest_factor, greatest, CanDecide}
use Rattle.lt_elim.proofs.Keeping.{In, filter_in, offered_of}
use Rattle.lt_elim.proofs.Edges.{like_units, content_units, combination_like}
use Rattle.lt_elim.proofs.Walks.{IsSized}
use Rattle.lt_elim.proofs.Differences.{HasEdge, AreEdges, IsKept, kept_first, kept_next, kept_sized, raising_is, lowering_is, Raising, Lowering}
use Rattle.lt_elim.proofs.Refuting.{either_false, none_below, CombinationFits, PartFits, nothing_fits, edges_fit}
use Rattle.lt_elim.proofs.Points.{InForm, next_form, first_form, elimination}
use Rattle.lt_elim.proofs.Combining.{same_factor, content_bound}
use Rattle.lt_elim.proofs.Laws.{all_in, steps_times}

-- ---- sizes
-- no factor is greater than m
abbrev pub AllWithin : ℕ → List Term → Type 0
AllWithin m [] = Unit {0}
AllWithin m (t ∷ ts) = (unsigned_abs t.1 ≤ m) × AllWithin m ts

within_more : (m n : ℕ) (ts : List Term) → m ≤ n → AllWithin m ts → AllWithin n ts
within_more m n [] l w = tt
within_more m n (t ∷ ts) l w = let k : unsigned_abs t.1 ≤ m = w.0 in (omega arith, within_more m n ts l w.1)

within_snoc : (m : ℕ) (ts : List Term) (t : Term) → AllWithin m ts → unsigned_abs t.1 ≤ m → AllWithin m (ts ++ t ∷ [])
within_snoc m [] t w l = (l, tt)
within_snoc m (s ∷ ts) t w l = (w.0, within_snoc m ts t w.1 l)

greatest_within : (ts : List Term) → AllWithin (greatest_factor ts) ts
greatest_within [] = tt
greatest_within (t ∷ ts) = (omega arith, within_more (greatest_factor ts) (greatest_factor (t ∷ ts)) ts (omega arith) (greatest_within ts))

pub factor_within : (m l x : ℕ) (ts : List Term) → IsOrderedFrom l ts → AllWithin m ts → unsigned_abs (factor x ts) ≤ m
factor_within m l x [] o w = omega arith
factor_within m l x (t ∷ ts) o w = elim (same_factor x t ts l o) [
  | inl h ↦ subst (λ (z : ℤ). unsigned_abs z ≤ m) (sym (ap (λ (y : ℕ). factor y (t ∷ ts)) refl ∙ h.1)) w.0
  | inr h ↦ subst (λ (z : ℤ). unsigned_abs z ≤ m) (sym h) (factor_within m (t.0 + 1) x ts o.2 w.1)
]

pub content_within : (m : ℕ) (ts : List Term) → IsOrdered ts → AllWithin m ts → content ts ≤ m
content_within m ts o w = content_bound m ts o (λ x. factor_within m 0 x ts o w)

-- a row's numbers are no greater than m
pub record IsWithin (m : ℕ) (r : Row) : Type 0 where
  pub terms : AllWithin m r.terms
  pub constant : unsigned_abs r.constant ≤ m

pub greatest_in : (rows : List Row) (r : Row) → In r rows → IsWithin (greatest rows) r
greatest_in [] r h = absurd h
greatest_in (q ∷ qs) r (inl e) = subst (IsWithin (greatest (q ∷ qs))) e (record { terms = within_more (greatest_factor q.terms) (greatest (q ∷ qs)) q.terms (omega arith) (greatest_within q.terms); constant = omega arith })
greatest_in (q ∷ qs) r (inr h) =
    let w = greatest_in qs r h in
    let l : unsigned_abs r.constant ≤ greatest qs = w.constant in
    record { terms = within_more (greatest qs) (greatest (q ∷ qs)) r.terms (omega arith) w.terms; constant = omega arith }

pub size_bound : (rows : List Row) → CanDecide rows → suc (variables rows) * greatest rows ≤ 2 ^ 125
unfolding CanDecide
size_bound rows c = let e : variables rows + 1 ≡ suc (variables rows) = omega arith in subst (λ (n : ℕ). n * greatest rows ≤ 2 ^ 125) e c

pub greatest_small : (rows : List Row) → CanDecide rows → greatest rows ≤ 2 ^ 125
greatest_small rows c = part_of (variables rows * greatest rows) (greatest rows) (suc (variables rows) * greatest rows) (2 ^ 125) (suc-mul (variables rows) (greatest rows)) (size_bound rows c)
  where
    part_of : (a b c k : ℕ) → c ≡ a + b → c ≤ k → b ≤ k
    part_of a b c k e l = omega arith

abs_sized : (m : ℕ) (z : ℤ) → unsigned_abs z ≤ m → (neg_ℤ (pos m) ≤ℤ z) × (z ≤ℤ pos m)
abs_sized m (pos n) l = (omega (arith, ints), omega (arith, ints))
abs_sized m (negsuc n) l = (omega (arith, ints), omega (arith, ints))

-- constants of the size that the laws speak of
pub greatest_sized : (rows : List Row) → AreSized (greatest rows) rows
greatest_sized rows = all_in (λ r. (neg_ℤ (pos (greatest rows)) ≤ℤ r.constant) × (r.constant ≤ℤ pos (greatest rows))) rows (λ r h. abs_sized (greatest rows) r.constant (greatest_in rows r h).constant)

-- ---- the system's own rows
pub small_within : (rows : List Row) → CanDecide rows → (r : Row) → In r rows → AllWithin (2 ^ 125) r.terms
small_within rows c r h = within_more (greatest rows) (2 ^ 125) r.terms (greatest_small rows c) (greatest_in rows r h).terms

contents_from : (rows : List Row) → ((r : Row) → In r rows → IsOrdered r.terms) → ((r : Row) → In r rows → AllWithin (2 ^ 125) r.terms) → HaveContents rows
contents_from [] o w = tt
contents_from (r ∷ rs) o w =
    let l : content r.terms ≤ 2 ^ 125 = content_within (2 ^ 125) r.terms (o r (inl refl)) (w r (inl refl)) in
    (omega arith, contents_from rs (λ q h. o q (inr h)) (λ q h. w q (inr h)))

pub have_contents : (rows : List Row) → ((r : Row) → In r rows → IsOrdered r.terms) → CanDecide rows → HaveContents rows
have_contents rows o c = contents_from rows o (small_within rows c)

-- ---- rows that are kept where there is a limit
abbrev pub RowsWithin : ℕ → List Row → Type 0
RowsWithin m rows = (r : Row) → In r rows → AllWithin m r.terms

quotient_within : (k : ℕ) (z : ℤ) → unsigned_abs (quotient z (suc k)) ≤ unsigned_abs z
quotient_within k (pos a) = div-le_self a (suc k)
quotient_within k (negsuc a) = let l : a / suc k ≤ a = div-le_self a (suc k) in omega arith

quotients_within : (m k : ℕ) (ts : List Term) → AllWithin m ts → AllWithin m (map (λ t. (t.0, quotient t.1 (suc k))) ts)
quotients_within m k [] w = tt
quotients_within m k (t ∷ ts) w = (lesser (unsigned_abs (quotient t.1 (suc k))) (unsigned_abs t.1) m (quotient_within k t.1) w.0, quotients_within m k ts w.1)
  where
    lesser : (a b c : ℕ) → a ≤ b → b ≤ c → a ≤ c
    lesser a b c h l = omega arith

divided_within : (m d : ℕ) (r : Row) → AllWithin m r.terms → AllWithin m (divided d r).terms
divided_within m zero r w = w
divided_within m (suc k) r w = quotients_within m k r.terms w

keep_within : (b : Bool) (m v : ℕ) (kept : List Row) (r : Row) (next : List Row) → keep b v kept r ≡ keeps next → RowsWithin m kept → AllWithin m r.terms → RowsWithin m next
keep_within b m v kept r next e ws w q h = by_from ((offered_of b v kept (r ∷ []) next (ap (λ (k : Kept). and_next k (λ more. keeps more)) e)).from q h)
  where
    by_from : In q kept ⊎ ((p : Row) × In p (r ∷ []) × (q ≡ normalised p) × (is_constant q ≡ false)) → AllWithin m q.terms
    by_from (inl x) = ws q x
    by_from (inr x) = elim x.1 [
      | inl i ↦ subst (λ (z : Row). AllWithin m z.terms) (sym (x.2 ∙ ap normalised (sym i))) (divided_within m (content r.terms) r w)
      | inr i ↦ absurd i
    ]

terms_within : (m n : ℕ) (f : ℕ → ℤ) → ((x : ℕ) → x < n → unsigned_abs (f x) ≤ m) → AllWithin m (terms_below n f)
terms_within m zero f h = tt
terms_within m (suc n) f h = by_test (int_eq (f n) (pos 0)) (terms_within m n f (λ x l. h x (omega arith)))
  where
    by_test : (b : Bool) → AllWithin m (terms_below n f) → AllWithin m (if b then terms_below n f else terms_below n f ++ (n, f n) ∷ [])
    by_test true w = w
    by_test false w = within_snoc m (terms_below n f) (n, f n) w (h n (omega arith))

not_passing : (z : ℤ) → passes z ≡ false → unsigned_abs z ≤ 2 ^ 125
not_passing z e = bound (unsigned_abs z) e
  where
    bound : (n : ℕ) → nat_lt (2 ^ 120) n ≡ false → n ≤ 2 ^ 125
    bound n e = let l : n ≤ 2 ^ 120 = grind arith in omega arith

combination_within : (v : ℕ) (p n : Row) → is_wide v p n ≡ false → AllWithin (2 ^ 125) (combination v p n).terms
unfolding combination is_wide
combination_within v p n e =
    let both = either_false (any_below (suc v) (λ x. passes_in (multipliers v p n) (factor x p.terms) (factor x n.terms))) (passes_in (multipliers v p n) p.constant n.constant) e in
    terms_within (2 ^ 125) v (λ x. sum_of (multipliers v p n) (factor x p.terms) (factor x n.terms))
    (λ x l. not_passing (sum_of (multipliers v p n) (factor x p.terms) (factor x n.terms)) (sum_within x (none_below (suc v) (λ x. passes_in (multipliers v p n) (factor x p.terms) (factor x n.terms)) both.0 x (omega arith))))
  where
    sum_within : (x : ℕ) → passes_in (multipliers v p n) (factor x p.terms) (factor x n.terms) ≡ false → passes (sum_of (multipliers v p n) (factor x p.terms) (factor x n.terms)) ≡ false
    sum_within x e = (either_false (passes ((multipliers v p n).of_raising *ℤ factor x p.terms) || passes ((multipliers v p n).of_lowering *ℤ factor x n.terms)) (passes (sum_of (multipliers v p n) (factor x p.terms) (factor x n.terms))) e).1

combined_within : (v : ℕ) (p : Row) (kept : List Row) (n : Row) (next : List Row) → keep_combination true v p kept n ≡ keeps next → RowsWithin (2 ^ 125) kept → RowsWithin (2 ^ 125) next
combined_within v p kept n next e ws = by_test (is_wide v p n) refl e
  where
    by_test : (w : Bool) → is_wide v p n ≡ w → (if true && w then ends (coeff v) else keep true v kept (combination v p n)) ≡ keeps next → RowsWithin (2 ^ 125) next
    by_test true f e = absurd (cc)
    by_test false f e = keep_within true (2 ^ 125) v kept (combination v p n) next e ws (combination_within v p n f)

and_next_is : (k : Kept) (step : List Row → Kept) (next : List Row) → and_next k step ≡ keeps next → (mid : List Row) × (k ≡ keeps mid) × (step mid ≡ keeps next)
and_next_is (keeps mid) step next e = (mid, refl, e)
and_next_is (ends event) step next e = absurd (cc)

with_within : (v : ℕ) (p : Row) (kept ns next : List Row) → combine_with true v p kept ns ≡ keeps next → RowsWithin (2 ^ 125) kept → RowsWithin (2 ^ 125) next
with_within v p kept [] next e ws = let is : kept ≡ next = cc in subst (RowsWithin (2 ^ 125)) is ws
with_within v p kept (n ∷ ns) next e ws =
    let s = and_next_is (keep_combination true v p kept n) (λ more. combine_with true v p more ns) next e in
    with_within v p s.0 ns next s.2 (combined_within v p kept n s.0 s.1 ws)

all_within : (v : ℕ) (kept ps ns next : List Row) → combine_all true v kept ps ns ≡ keeps next → RowsWithin (2 ^ 125) kept → RowsWithin (2 ^ 125) next
all_within v kept [] ns next e ws = let is : kept ≡ next = cc in subst (RowsWithin (2 ^ 125)) is ws
all_within v kept (p ∷ ps) ns next e ws =
    let s = and_next_is (combine_with true v p kept ns) (λ more. combine_all true v more ps ns) next e in
    all_within v s.0 ps ns next s.2 (with_within v p kept ns s.0 s.1 ws)

next_within : (v : ℕ) (rows next : List Row) → eliminated true v rows ≡ keeps next → RowsWithin (2 ^ 125) rows → RowsWithin (2 ^ 125) next
unfolding eliminated
next_within v rows next e ws = all_within v (without v rows) (raising v rows) (lowering v rows) next e (λ q h. ws q (filter_in (λ r. int_eq (factor v r.terms) (pos 0)) q rows h).0)

first_within : (b : Bool) (last : ℕ) (rows kept : List Row) → keep_all b last [] rows ≡ keeps kept → RowsWithin (2 ^ 125) rows → RowsWithin (2 ^ 125) kept
first_within b last rows kept e ws q h = by_from ((offered_of b last [] rows kept e).from q h)
  where
    by_from : In q [] ⊎ ((p : Row) × In p rows × (q ≡ normalised p) × (is_constant q ≡ false)) → AllWithin (2 ^ 125) q.terms
    by_from (inl x) = absurd x
    by_from (inr x) = subst (λ (z : Row). AllWithin (2 ^ 125) z.terms) (sym x.2) (divided_within (2 ^ 125) (content x.0.terms) x.0 (ws x.0 x.1))

-- ---- what is eliminated in turn
-- The rows are in form and their factors small, and where there is no limit they are the edges of what is left of a
-- difference system.
pub record IsReached (limited : Bool) (rows : List Row) (v : ℕ) (kept : List Row) : Type 0 where
  pub form : InForm v kept
  pub within : limited ≡ true → RowsWithin (2 ^ 125) kept
  pub upto : v ≤ variables rows
  pub edges : limited ≡ false → IsKept (HasEdge rows) (variables rows) v kept

pub reached_next : (limited : Bool) (rows : List Row) (v : ℕ) (kept next : List Row) → IsReached limited rows (suc v) kept → eliminated limited v kept ≡ keeps next → IsReached limited rows v next
reached_next limited rows v kept next i e = record {
  form = next_form v kept next i.form (elimination limited v kept next e);
  within = λ l. next_within v kept next (subst (λ (b : Bool). eliminated b v kept ≡ keeps next) l e) (i.within l);
  upto = let l : suc v ≤ variables rows = i.upto in omega arith;
  edges = λ l. kept_next (HasEdge rows) (variables rows) v kept next i.upto (i.edges l) (subst (λ (b : Bool). eliminated b v kept ≡ keeps next) l e);
}

pub reached_first : (limited : Bool) (last : ℕ) (rows kept : List Row) → limited ≡ not (are_differences rows) → ((r : Row) → In r rows → IsOrdered r.terms) → CanDecide rows → keep_all limited last [] rows ≡ keeps kept → IsReached limited rows (variables rows) kept
reached_first limited last rows kept is o c e = record {
  form = first_form limited last rows kept o e;
  within = λ l. first_within limited last rows kept e (small_within rows c);
  upto = omega arith;
  edges = λ l. kept_first rows kept last o (differences (are_differences rows) (sym is ∙ l)) (subst (λ (b : Bool). keep_all b last [] rows ≡ keeps kept) l e);
}
  where
    differences : (b : Bool) → not b ≡ false → b ≡ true
    differences true e = refl
    differences false e = absurd (cc)

-- constants that are kept of a difference system
pub reached_sized : (rows : List Row) (v : ℕ) (kept : List Row) → CanDecide rows → IsReached false rows v kept → (r : Row) → In r kept → IsSized (2 ^ 125) r.constant
reached_sized rows v kept c i r h =
    let k = kept_sized rows (variables rows) v (greatest rows) kept (λ q g. let s = abs_sized (greatest rows) q.constant (greatest_in rows q g).constant in record { low = s.0; high = s.1 }) (i.edges refl) r h in
    let s : IsSized (suc (variables rows) * greatest rows) r.constant = subst (λ (n : ℕ). IsSized n r.constant) (steps_times (greatest rows) (suc (variables rows))) k in
    widen (suc (variables rows) * greatest rows) (2 ^ 125) r.constant (size_bound rows c) s.low s.high
  where
    widen : (x y : ℕ) (c : ℤ) → x ≤ y → neg_ℤ (pos x) ≤ℤ c → c ≤ℤ pos x → IsSized y c
    widen x y c l a b = record { low = omega (arith, ints); high = omega (arith, ints) }

-- ---- combinations that can be made
size_below : (n : ℕ) → n ≤ 2 ^ 125 → n < 2 ^ 127
size_below n l = omega arith

above : (v : ℕ) (kept : List Row) → InForm (suc v) kept → (r : Row) → In r kept → (x : ℕ) → v < x → factor x r.terms ≡ pos 0
above v kept form r h x l = factor_above x (suc v) r.terms (form r h).1 (omega arith)

limited_combine : (rows : List Row) (v : ℕ) (kept : List Row) → IsReached true rows (suc v) kept → (p n : Row) → In p (raising v kept) → In n (lowering v kept) → CanCombine true v p n
limited_combine rows v kept i p n hp hn =
    let fp = filter_in (λ r. int_lt (pos 0) (factor v r.terms)) p kept hp in
    let fn = filter_in (λ r. int_lt (factor v r.terms) (pos 0)) n kept hn in
    record {
      raises = fp.1;
      lowers = fn.1;
      raising_small = size_below (unsigned_abs (factor v p.terms)) (factor_within (2 ^ 125) 0 v p.terms (i.form p fp.0).0 (i.within refl p fp.0));
      lowering_small = size_below (unsigned_abs (factor v n.terms)) (factor_within (2 ^ 125) 0 v n.terms (i.form n fn.0).0 (i.within refl n fn.0));
      raising_above = above v kept i.form p fp.0;
      lowering_above = above v kept i.form n fn.0;
      fits = λ e x. absurd (cc);
      small = λ e. absurd (cc);
    }

edges_combine : (rows : List Row) (v : ℕ) (kept : List Row) → CanDecide rows → IsReached false rows (suc v) kept → (p n : Row) → In p (raising v kept) → In n (lowering v kept) → CanCombine false v p n
edges_combine rows v kept c i p n hp hn =
    let fp = filter_in (λ r. int_lt (pos 0) (factor v r.terms)) p kept hp in
    let fn = filter_in (λ r. int_lt (factor v r.terms) (pos 0)) n kept hn in
    record {
      raises = fp.1;
      lowers = fn.1;
      raising_small = subst (λ (z : ℤ). unsigned_abs z < 2 ^ 127) (sym r.factor_is) (omega arith);
      lowering_small = subst (λ (z : ℤ). unsigned_abs z < 2 ^ 127) (sym l.factor_is) (omega arith);
      raising_above = above v kept i.form p fp.0;
      lowering_above = above v kept i.form n fn.0;
      fits = λ e x. by_part x;
      small = λ e. by_content (content_units (combination v p n).terms (like_units (combination v p n) l.start r.end (combination_like v l.start r.end p n r.like l.like l.upto r.upto)));
    }
  where
    edges : AreEdges (suc v) kept
    edges = (i.edges refl).edges

    r : Raising v kept p
    r = raising_is v kept edges p hp

    l : Lowering v kept n
    l = lowering_is v kept edges n hn

    f : CombinationFits v p n
    f = edges_fit v kept edges (reached_sized rows (suc v) kept c i) p n hp hn

    both : (a b : ℤ) → PartFits (multipliers v p n) a b → PartsFit (multipliers v p n) a b
    both a b h = record { raising = h.raising; lowering = h.lowering; sum = h.sum }

    by_place : (x : ℕ) → (x ≤ v) ⊎ (v < x) → PartsFit (multipliers v p n) (factor x p.terms) (factor x n.terms)
    by_place x (inl h) = both (factor x p.terms) (factor x n.terms) (f.factors x h)
    by_place x (inr h) = both (factor x p.terms) (factor x n.terms) (nothing_fits (multipliers v p n) (factor x p.terms) (factor x n.terms) (above v kept i.form p r.is_in x h) (above v kept i.form n l.is_in x h))

    place : (x : ℕ) → (x ≤ v) ⊎ (v < x)
    place x = elim (cases_lt v x) [ inl h ↦ inr h | inr h ↦ inl h ]

    by_part : (x : Option ℕ) → PartsFit (multipliers v p n) (part x p) (part x n)
    by_part None = both p.constant n.constant f.constants
    by_part (Some x) = by_place x (place x)

    by_content : (content (combination v p n).terms ≡ 0) ⊎ (content (combination v p n).terms ≡ 1) → content (combination v p n).terms < 2 ^ 127
    by_content (inl e) = omega arith
    by_content (inr e) = omega arith

can_combine : (limited : Bool) (rows : List Row) (v : ℕ) (kept : List Row) → CanDecide rows → IsReached limited rows (suc v) kept → (p n : Row) → In p (raising v kept) → In n (lowering v kept) → CanCombine limited v p n
can_combine true rows v kept c i = limited_combine rows v kept i
can_combine false rows v kept c i = edges_combine rows v kept c i

combine_with_from : (limited : Bool) (v : ℕ) (p : Row) (ns : List Row) → ((n : Row) → In n ns → CanCombine limited v p n) → CombineWith limited v p ns
combine_with_from limited v p [] h = tt
combine_with_from limited v p (n ∷ ns) h = (h n (inl refl), combine_with_from limited v p ns (λ q g. h q (inr g)))

combine_all_from : (limited : Bool) (v : ℕ) (ps ns : List Row) → ((p n : Row) → In p ps → In n ns → CanCombine limited v p n) → CombineAll limited v ps ns
combine_all_from limited v [] ns h = tt
combine_all_from limited v (p ∷ ps) ns h = (combine_with_from limited v p ns (λ n g. h p n (inl refl) g), combine_all_from limited v ps ns (λ q n g k. h q n (inr g) k))

in_order_from : (n : ℕ) (rows : List Row) → InForm n rows → AllInOrder rows
in_order_from n [] f = tt
in_order_from n (r ∷ rs) f = ((f r (inl refl)).0, in_order_from n rs (λ q h. f q (inr h)))

pub can_eliminate : (limited : Bool) (rows : List Row) → CanDecide rows → (v : ℕ) (kept : List Row) → IsReached limited rows v kept → CanEliminate limited v kept
can_eliminate limited rows c zero kept i = tt
can_eliminate limited rows c (suc v) kept i = (
  in_order_from (suc v) kept i.form,
  combine_all_from limited v (raising v kept) (lowering v kept) (can_combine limited rows v kept c i),
  λ next e. can_eliminate limited rows c v next (reached_next limited rows v kept next i e),
)

-- ---- a system's run
pub in_order : (rows : List Row) → AllInOrder rows → (r : Row) → In r rows → IsOrdered r.terms
in_order [] o r h = absurd h
in_order (q ∷ qs) o r (inl e) = subst (λ (z : Row). IsOrdered z.terms) e o.0
in_order (q ∷ qs) o r (inr h) = in_order qs o.1 r h

pub run_contents : (rows : List Row) → AllInOrder rows → CanDecide rows → HaveContents rows
run_contents rows o c = have_contents rows (in_order rows o) c

pub run_reached : (limited : Bool) (last : ℕ) (rows kept : List Row) → limited ≡ not (are_differences rows) → AllInOrder rows → CanDecide rows → keep_all limited last [] rows ≡ keeps kept → IsReached limited rows (variables rows) kept
run_reached limited last rows kept is o c e = reached_first limited last rows kept is (in_order rows o) c e

verdict_is : (limited : Bool) (rows : List Row) → limited ≡ not (are_differences rows) → verdict rows ≡ verdict_within limited rows
unfolding verdict
verdict_is limited rows e = ap (λ (b : Bool). verdict_within b rows) (sym e)

pub run_kept : (limited : Bool) (rows : List Row) (n last : ℕ) (k : Kept) → limited ≡ not (are_differences rows) → n ≡ variables rows → last ≡ n - 1 → keep_all limited last [] rows ≡ k → verdict rows ≡ unless_ended k (λ kept. decided limited n kept)
run_kept limited rows n last k is e l h =
    verdict_is limited rows is
    ∙ ap (λ (m : ℕ). unless_ended (keep_all limited (m - 1) [] rows) (λ kept. decided limited m kept)) (sym e)
    ∙ ap (λ (m : ℕ). unless_ended (keep_all limited m [] rows) (λ kept. decided limited n kept)) (sym l)
    ∙ ap (λ (z : Kept). unless_ended z (λ kept. decided limited n kept)) h

-- the stages of a run
pub run_stages : (limited : Bool) (rows : List Row) (n last : ℕ) (kept : List Row) (ss : List Stage) → n ≡ variables rows → last ≡ n - 1 → keep_all limited last [] rows ≡ keeps kept → length ss ≡ n → AreStages limited n kept ss → AreStagesOf limited rows ss
run_stages limited rows n last kept ss e l h c s = record {
  kept = kept;
  first = subst (λ (m : ℕ). keep_all limited m [] rows ≡ keeps kept) (l ∙ ap (λ (m : ℕ). m - 1) e) h;
  count = c ∙ e;
  stages = subst (λ (m : ℕ). AreStages limited m kept ss) e s;
}

-- ---- the test of the condition
le_told : (p k : ℕ) → nat_le p k ≡ true → p ≤ k
le_told p k e = grind arith

le_tells : (p k : ℕ) → p ≤ k → nat_le p k ≡ true
le_tells p k l = grind arith

pub condition_told : (rows : List Row) (count size product : ℕ) → count ≡ variables rows + 1 → size ≡ greatest rows → product ≡ count * size → (IsTrue (nat_le product (2 ^ 125)) → CanDecide rows) × (CanDecide rows → IsTrue (nat_le product (2 ^ 125)))
unfolding CanDecide
condition_told rows count size product c s p =
    let is : product ≡ (variables rows + 1) * greatest rows = p ∙ ap (λ (n : ℕ). n * size) c ∙ ap (λ (n : ℕ). (variables rows + 1) * n) s in
    ((λ t. subst (λ (n : ℕ). n ≤ 2 ^ 125) is (le_told product (2 ^ 125) t)), (λ d. le_tells product (2 ^ 125) (subst (λ (n : ℕ). n ≤ 2 ^ 125) (sym is) d)))

pub condition_passed : (rows : List Row) (count size : ℕ) → count ≡ variables rows + 1 → size ≡ greatest rows → (count * size < 2 ^ 128 → ⊥) → CanDecide rows → ⊥
unfolding CanDecide
condition_passed rows count size c s h d =
    let is : count * size ≡ (variables rows + 1) * greatest rows = ap (λ (n : ℕ). n * size) c ∙ ap (λ (n : ℕ). (variables rows + 1) * n) s in
    h (below (count * size) ((variables rows + 1) * greatest rows) is d)
  where
    below : (a b : ℕ) → a ≡ b → b ≤ 2 ^ 125 → a < 2 ^ 128
    below a b e l = omega arith
