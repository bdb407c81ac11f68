-- Eliminating a variable from a difference system eliminates a vertex from its graph.
use Rattle.std.proofs.Common.{arith, ◌≡◌, refl, sym, ◌∙◌, ap, subst, ℕ, suc, ℤ, pos, negsuc, ◌+ℤ◌, ◌-ℤ◌, ◌≤ℤ◌, ◌≤◌, List, [], ◌∷◌, ◌⊎◌, inl, inr, Bool, true, false, ◌&&◌, cond}
use Rattle.std.specs.Prelude.{neg_ℤ, int_lt, ◌==◌, if◌then◌else◌, unsigned_abs}
use Rattle.std.specs.Ordering.{int_eq}
use Rattle.std.specs.List.{filter}
use Rattle.std.proofs.lemmas.Int.{ints}
use Rattle.std.proofs.lemmas.Bool.{and_parts}
use Rattle.std.proofs.lemmas.Bool.Decides.{eqb_tells, Decides-int_eq}
use Rattle.lt_lin.specs.declared.row.Row.{Row}
use Rattle.lt_lin.specs.Terms.{Term, IsOrdered, factor}
use Rattle.lt_elim.specs.Combination.{normalised, combination}
use Rattle.lt_elim.specs.Elimination.{keeps, is_constant, keep_all, without, raising, lowering, eliminated}
use Rattle.lt_elim.specs.Difference.{is_unit, is_difference, are_differences}
use Rattle.lt_elim.specs.Decision.{variables, variables_in}
use Rattle.lt_elim.proofs.Walks.{IsStage, Eliminates, next_stage, first_stage, IsSized, steps, stage_sized}
use Rattle.lt_elim.proofs.Keeping.{In, in_filter, filter_in, constant_terms, terms_constant, Has, Different, NoneLike, one_of, Offered, offered_of, combinations, combined_all, in_combinations, combinations_in}
use Rattle.lt_elim.proofs.Edges.{mark, mark_own, mark_other, IsLike, like_terms, like_same_terms, like_none, same_ends, none_like, Touch, starts, stops, leaves, touch, like_normal, combination_sum, combination_like}

-- a row among the rows that is an edge of the weight c
abbrev pub HasEdge : List Row → ℕ → ℕ → ℤ → Type 0
HasEdge rows i j c = (r : Row) × In r rows × IsLike r i j × (i ≡ j → ⊥) × (r.constant ≡ c)

-- Each row is an edge between vertices up to v.
abbrev pub AreEdges : ℕ → List Row → Type 0
AreEdges v rows = (r : Row) → In r rows → (i : ℕ) × (j : ℕ) × IsLike r i j × (i ≡ j → ⊥) × (i ≤ v) × (j ≤ v)

pub ends_upto : (v : ℕ) (rows : List Row) → AreEdges v rows → (r : Row) (i j : ℕ) → In r rows → IsLike r i j → (i ≡ j → ⊥) → (i ≤ v) × (j ≤ v)
ends_upto v rows edges r i j h k o =
    let e = edges r h in
    let s = same_ends r i j e.0 e.1 k e.2 o in
    (subst (λ (z : ℕ). z ≤ v) (sym s.0) e.4, subst (λ (z : ℕ). z ≤ v) (sym s.1) e.5)

different_filter : (test : Row → Bool) (rows : List Row) → Different rows → Different (filter test rows)
different_filter test [] d = tt
different_filter test (q ∷ qs) d = by_test (test q) (different_filter test qs d.1)
  where
    none : (ts : List Term) (xs : List Row) → NoneLike ts xs → NoneLike ts (filter test xs)
    none ts [] n = tt
    none ts (x ∷ xs) n = by_test' (test x) (none ts xs n.1)
      where
        by_test' : (b : Bool) → NoneLike ts (filter test xs) → NoneLike ts (cond b (x ∷ filter test xs) (filter test xs))
        by_test' true h = (n.0, h)
        by_test' false h = h

    by_test : (b : Bool) → Different (filter test qs) → Different (cond b (q ∷ filter test qs) (filter test qs))
    by_test true h = (none q.terms qs d.0, h)
    by_test false h = h

-- ---- membership by the factor of the variable
zero_test : (z : ℤ) → z ≡ pos 0 → int_eq z (pos 0) ≡ true
zero_test z e = (Decides-int_eq z (pos 0)).1 e

zero_from_test : (z : ℤ) → int_eq z (pos 0) ≡ true → z ≡ pos 0
zero_from_test z e = (Decides-int_eq z (pos 0)).0 e

raises_test : (z : ℤ) → z ≡ pos 1 → int_lt (pos 0) z ≡ true
raises_test z e = rw e refl

lowers_test : (z : ℤ) → z ≡ negsuc 0 → int_lt z (pos 0) ≡ true
lowers_test z e = rw e refl

-- Where a row of the next stage comes from: it was there and does not touch the vertex, or it is a pair of edges over it.
data Origin (v : ℕ) (rows : List Row) (q : Row) : Type 0 where
  same : In q rows → factor v q.terms ≡ pos 0 → Origin v rows q
  pair : (p n : Row) (i j : ℕ) → In p rows → In n rows → IsLike p (suc v) j → IsLike n i (suc v) → i ≤ v → j ≤ v → (i ≡ j → ⊥) → IsLike q i j → q.constant ≡ n.constant +ℤ p.constant → Origin v rows q

pub record Raising (v : ℕ) (rows : List Row) (p : Row) : Type 0 where
  pub end : ℕ
  pub is_in : In p rows
  pub like : IsLike p (suc v) end
  pub upto : end ≤ v
  pub factor_is : factor v p.terms ≡ pos 1

pub record Lowering (v : ℕ) (rows : List Row) (n : Row) : Type 0 where
  pub start : ℕ
  pub is_in : In n rows
  pub like : IsLike n start (suc v)
  pub upto : start ≤ v
  pub factor_is : factor v n.terms ≡ negsuc 0

pub raising_is : (v : ℕ) (rows : List Row) → AreEdges (suc v) rows → (p : Row) → In p (raising v rows) → Raising v rows p
raising_is v rows edges p h = by_touch (touch p v e.0 e.1 e.2 e.3)
  where
    f : In p rows × (int_lt (pos 0) (factor v p.terms) ≡ true)
    f = filter_in (λ r. int_lt (pos 0) (factor v r.terms)) p rows h

    e : (i : ℕ) × (j : ℕ) × IsLike p i j × (i ≡ j → ⊥) × (i ≤ suc v) × (j ≤ suc v)
    e = edges p f.0

    clash : (z : ℤ) → int_lt (pos 0) z ≡ true → z ≤ℤ pos 0 → ⊥
    clash z t l = grind (arith, ints)

    by_touch : Touch p v e.0 e.1 → Raising v rows p
    by_touch (starts a b c) = record { end = e.1; is_in = f.0; like = subst (λ (z : ℕ). IsLike p z e.1) a e.2; upto = let l : e.1 ≤ suc v = e.5 in omega arith; factor_is = c }
    by_touch (stops a b c) = absurd (clash (factor v p.terms) f.1 (let z : factor v p.terms ≡ negsuc 0 = c in omega (arith, ints)))
    by_touch (leaves a b c) = absurd (clash (factor v p.terms) f.1 (let z : factor v p.terms ≡ pos 0 = c in omega (arith, ints)))

pub lowering_is : (v : ℕ) (rows : List Row) → AreEdges (suc v) rows → (n : Row) → In n (lowering v rows) → Lowering v rows n
lowering_is v rows edges n h = by_touch (touch n v e.0 e.1 e.2 e.3)
  where
    f : In n rows × (int_lt (factor v n.terms) (pos 0) ≡ true)
    f = filter_in (λ r. int_lt (factor v r.terms) (pos 0)) n rows h

    e : (i : ℕ) × (j : ℕ) × IsLike n i j × (i ≡ j → ⊥) × (i ≤ suc v) × (j ≤ suc v)
    e = edges n f.0

    clash : (z : ℤ) → int_lt z (pos 0) ≡ true → pos 0 ≤ℤ z → ⊥
    clash z t l = grind (arith, ints)

    by_touch : Touch n v e.0 e.1 → Lowering v rows n
    by_touch (starts a b c) = absurd (clash (factor v n.terms) f.1 (let z : factor v n.terms ≡ pos 1 = c in omega (arith, ints)))
    by_touch (stops a b c) = record { start = e.0; is_in = f.0; like = subst (λ (z : ℕ). IsLike n e.0 z) b e.2; upto = let l : e.0 ≤ suc v = e.4 in omega arith; factor_is = c }
    by_touch (leaves a b c) = absurd (clash (factor v n.terms) f.1 (let z : factor v n.terms ≡ pos 0 = c in omega (arith, ints)))

in_raising : (v : ℕ) (rows : List Row) (p : Row) (j : ℕ) → In p rows → IsLike p (suc v) j → (suc v ≡ j → ⊥) → In p (raising v rows) × (factor v p.terms ≡ pos 1)
in_raising v rows p j h k o = by_touch (touch p v (suc v) j k o)
  where
    by_touch : Touch p v (suc v) j → In p (raising v rows) × (factor v p.terms ≡ pos 1)
    by_touch (starts a b c) = (in_filter (λ r. int_lt (pos 0) (factor v r.terms)) p rows h (raises_test (factor v p.terms) c), c)
    by_touch (stops a b c) = absurd (a refl)
    by_touch (leaves a b c) = absurd (a refl)

in_lowering : (v : ℕ) (rows : List Row) (n : Row) (i : ℕ) → In n rows → IsLike n i (suc v) → (i ≡ suc v → ⊥) → In n (lowering v rows) × (factor v n.terms ≡ negsuc 0)
in_lowering v rows n i h k o = by_touch (touch n v i (suc v) k o)
  where
    by_touch : Touch n v i (suc v) → In n (lowering v rows) × (factor v n.terms ≡ negsuc 0)
    by_touch (starts a b c) = absurd (b refl)
    by_touch (stops a b c) = (in_filter (λ r. int_lt (factor v r.terms) (pos 0)) n rows h (lowers_test (factor v n.terms) c), c)
    by_touch (leaves a b c) = absurd (b refl)

-- ---- one variable
pub elimination : (v : ℕ) (rows next : List Row) → eliminated false v rows ≡ keeps next → Offered (without v rows) (combinations v (raising v rows) (lowering v rows)) next
unfolding eliminated
elimination v rows next e = offered_of false v (without v rows) (combinations v (raising v rows) (lowering v rows)) next (combined_all false v (without v rows) (raising v rows) (lowering v rows) next e)

swapped : (a b c : ℤ) → c ≡ a +ℤ b → c ≡ b +ℤ a
swapped a b c e = omega (arith, ints)

origin : (v : ℕ) (rows next : List Row) → AreEdges (suc v) rows → Offered (without v rows) (combinations v (raising v rows) (lowering v rows)) next → (q : Row) → In q next → Origin v rows q
origin v rows next edges o q h = by_from (o.from q h)
  where
    by_from : In q (without v rows) ⊎ ((r : Row) × In r (combinations v (raising v rows) (lowering v rows)) × (q ≡ normalised r) × (is_constant q ≡ false)) → Origin v rows q
    by_from (inl x) = let f = filter_in (λ r. int_eq (factor v r.terms) (pos 0)) q rows x in same f.0 (zero_from_test (factor v q.terms) f.1)
    by_from (inr x) =
        let c = combinations_in v (raising v rows) (lowering v rows) x.0 x.1 in
        let p = raising_is v rows edges c.0 c.2 in
        let n = lowering_is v rows edges c.1 c.3 in
        let like : IsLike (combination v c.0 c.1) n.start p.end = combination_like v n.start p.end c.0 c.1 p.like n.like n.upto p.upto in
        let is : q ≡ combination v c.0 c.1 = x.2 ∙ ap normalised c.4 ∙ like_normal (combination v c.0 c.1) n.start p.end like in
        let like_q : IsLike q n.start p.end = subst (λ (z : Row). IsLike z n.start p.end) (sym is) like in
        let proper : n.start ≡ p.end → ⊥ = λ e. (
        let t : q.terms ≡ [] = like_none q p.end (subst (λ (z : ℕ). IsLike q z p.end) e like_q) in
        let u : is_constant q ≡ true = terms_constant q t in
        let w : is_constant q ≡ false = x.3 in
        absurd (cc)
        ) in
        let sum : q.constant ≡ c.0.constant +ℤ c.1.constant = ap (λ (z : Row). z.constant) is ∙ combination_sum v c.0 c.1 p.factor_is n.factor_is in
        pair c.0 c.1 n.start p.end p.is_in n.is_in p.like n.like n.upto p.upto proper like_q (swapped c.0.constant c.1.constant q.constant sum)

clash_one : (z : ℤ) → z ≡ pos 1 → z ≡ pos 0 → ⊥
clash_one z e f = omega (arith, ints)

clash_minus : (z : ℤ) → z ≡ negsuc 0 → z ≡ pos 0 → ⊥
clash_minus z e f = omega (arith, ints)

-- an edge without the variable does not touch its vertex
untouched : (r : Row) (v i j : ℕ) → IsLike r i j → (i ≡ j → ⊥) → factor v r.terms ≡ pos 0 → (i ≡ suc v → ⊥) × (j ≡ suc v → ⊥)
untouched r v i j h o z = by_touch (touch r v i j h o)
  where
    by_touch : Touch r v i j → (i ≡ suc v → ⊥) × (j ≡ suc v → ⊥)
    by_touch (starts a b c) = absurd (clash_one (factor v r.terms) c z)
    by_touch (stops a b c) = absurd (clash_minus (factor v r.terms) c z)
    by_touch (leaves a b c) = (a, b)

touched_not : (r : Row) (v i j : ℕ) → IsLike r i j → (i ≡ j → ⊥) → (i ≡ suc v → ⊥) → (j ≡ suc v → ⊥) → factor v r.terms ≡ pos 0
touched_not r v i j h o ni nj = by_touch (touch r v i j h o)
  where
    by_touch : Touch r v i j → factor v r.terms ≡ pos 0
    by_touch (starts a b c) = absurd (ni a)
    by_touch (stops a b c) = absurd (nj b)
    by_touch (leaves a b c) = c

under : (v x : ℕ) → x ≤ suc v → (x ≡ suc v → ⊥) → x ≤ v
under v x h o = omega arith

next_edges : (v : ℕ) (rows next : List Row) → AreEdges (suc v) rows → Offered (without v rows) (combinations v (raising v rows) (lowering v rows)) next → AreEdges v next
next_edges v rows next edges o q h = by_origin (origin v rows next edges o q h)
  where
    by_origin : Origin v rows q → (i : ℕ) × (j : ℕ) × IsLike q i j × (i ≡ j → ⊥) × (i ≤ v) × (j ≤ v)
    by_origin (pair p n i j hp hn lp ln li lj proper like sum) = (i, j, like, proper, li, lj)
    by_origin (same k z) =
        let e = edges q k in
        let u = untouched q v e.0 e.1 e.2 e.3 z in
        (e.0, e.1, e.2, e.3, under v e.0 e.4 u.0, under v e.1 e.5 u.1)

has_edge : (rows : List Row) (q : Row) (i j : ℕ) (c : ℤ) → IsLike q i j → (i ≡ j → ⊥) → q.constant ≡ c → Has rows q.terms q.constant → (d : ℤ) × HasEdge rows i j d × (d ≤ℤ c)
has_edge rows q i j c h o e k = (k.row.constant, (k.row, k.is_in, like_terms k.row q i j h k.terms, o, refl), subst (λ (z : ℤ). k.row.constant ≤ℤ z) e k.constant)

-- The combination of two edges over the vertex is offered; it is an edge past the vertex, of their weight.
record Passing (v : ℕ) (rows : List Row) (i j : ℕ) (a b : ℤ) : Type 0 where
  row : Row
  is_offered : In row (combinations v (raising v rows) (lowering v rows))
  like : IsLike (normalised row) i j
  weight : (normalised row).constant ≡ a +ℤ b

passing : (v : ℕ) (rows : List Row) → AreEdges (suc v) rows → (i j : ℕ) (a b : ℤ) → HasEdge rows i (suc v) a → HasEdge rows (suc v) j b → Passing v rows i j a b
passing v rows edges i j a b n p =
    let up = ends_upto (suc v) rows edges p.0 (suc v) j p.1 p.2 p.3 in
    let un = ends_upto (suc v) rows edges n.0 i (suc v) n.1 n.2 n.3 in
    let r = in_raising v rows p.0 j p.1 p.2 p.3 in
    let l = in_lowering v rows n.0 i n.1 n.2 n.3 in
    let like : IsLike (combination v p.0 n.0) i j = combination_like v i j p.0 n.0 p.2 n.2 (under v i un.0 n.3) (under v j up.1 (λ e. p.3 (sym e))) in
    let normal : normalised (combination v p.0 n.0) ≡ combination v p.0 n.0 = like_normal (combination v p.0 n.0) i j like in
    let sum : (combination v p.0 n.0).constant ≡ p.0.constant +ℤ n.0.constant = combination_sum v p.0 n.0 r.1 l.1 in
    record {
      row = combination v p.0 n.0;
      is_offered = in_combinations v (raising v rows) (lowering v rows) p.0 n.0 r.0 l.0;
      like = subst (λ (z : Row). IsLike z i j) (sym normal) like;
      weight = ap (λ (z : Row). z.constant) normal ∙ swapped p.0.constant n.0.constant (combination v p.0 n.0).constant sum ∙ ap (λ (z : ℤ). z +ℤ p.0.constant) n.4 ∙ ap (λ (z : ℤ). a +ℤ z) p.4;
    }

eliminates : (v : ℕ) (rows next : List Row) → AreEdges (suc v) rows → Different rows → Offered (without v rows) (combinations v (raising v rows) (lowering v rows)) next → Eliminates (HasEdge rows) (HasEdge next) (suc v)
eliminates v rows next edges different o = record {
  from = from;
  proper = λ i j c h. h.3;
  one = one;
  stays = stays;
  over = over;
  round = round;
}
  where
    from : (i j : ℕ) (c : ℤ) → HasEdge next i j c → (HasEdge rows i j c × (i ≡ suc v → ⊥) × (j ≡ suc v → ⊥)) ⊎ ((a : ℤ) × (b : ℤ) × HasEdge rows i (suc v) a × HasEdge rows (suc v) j b × (c ≡ a +ℤ b))
    from i j c h = by_origin (origin v rows next edges o h.0 h.1)
      where
        by_origin : Origin v rows h.0 → (HasEdge rows i j c × (i ≡ suc v → ⊥) × (j ≡ suc v → ⊥)) ⊎ ((a : ℤ) × (b : ℤ) × HasEdge rows i (suc v) a × HasEdge rows (suc v) j b × (c ≡ a +ℤ b))
        by_origin (same k z) =
            let u = untouched h.0 v i j h.2 h.3 z in
            inl ((h.0, k, h.2, h.3, h.4), u.0, u.1)
        by_origin (pair p n k l hp hn lp ln lk ll proper like sum) =
            let s = same_ends h.0 i j k l h.2 like h.3 in
            let like_n : IsLike n i (suc v) = subst (λ (z : ℕ). IsLike n z (suc v)) (sym s.0) ln in
            let like_p : IsLike p (suc v) j = subst (λ (z : ℕ). IsLike p (suc v) z) (sym s.1) lp in
            let i_upto : i ≤ v = subst (λ (z : ℕ). z ≤ v) (sym s.0) lk in
            let j_upto : j ≤ v = subst (λ (z : ℕ). z ≤ v) (sym s.1) ll in
            inr (n.constant, p.constant, (n, hn, like_n, (λ e. omega arith), refl), (p, hp, like_p, (λ e. omega arith), refl), sym h.4 ∙ sum)

    one : (i j : ℕ) (c d : ℤ) → HasEdge next i j c → HasEdge next i j d → c ≡ d
    one i j c d h k =
        let all : Different next = o.different (different_filter (λ r. int_eq (factor v r.terms) (pos 0)) rows different) in
        let e : h.0 ≡ k.0 = one_of next h.0 k.0 all h.1 k.1 (like_same_terms h.0 k.0 i j h.2 k.2) in
        sym h.4 ∙ ap (λ (z : Row). z.constant) e ∙ k.4

    stays : (i j : ℕ) (c : ℤ) → HasEdge rows i j c → (i ≡ suc v → ⊥) → (j ≡ suc v → ⊥) → (d : ℤ) × HasEdge next i j d × (d ≤ℤ c)
    stays i j c h ni nj =
        let z : factor v h.0.terms ≡ pos 0 = touched_not h.0 v i j h.2 h.3 ni nj in
        let k : In h.0 (without v rows) = in_filter (λ r. int_eq (factor v r.terms) (pos 0)) h.0 rows h.1 (zero_test (factor v h.0.terms) z) in
        has_edge next h.0 i j c h.2 h.3 h.4 (o.old h.0 k)

    over : (i j : ℕ) (a b : ℤ) → HasEdge rows i (suc v) a → HasEdge rows (suc v) j b → (i ≡ j → ⊥) → (d : ℤ) × HasEdge next i j d × (d ≤ℤ (a +ℤ b))
    over i j a b n p proper = by_new (o.new g.row g.is_offered)
      where
        g : Passing v rows i j a b
        g = passing v rows edges i j a b n p

        by_new : ((is_constant (normalised g.row) ≡ true) × (pos 0 ≤ℤ (normalised g.row).constant)) ⊎ Has next (normalised g.row).terms (normalised g.row).constant → (d : ℤ) × HasEdge next i j d × (d ≤ℤ (a +ℤ b))
        by_new (inl x) = absurd (none_like (normalised g.row) i j g.like proper (constant_terms (normalised g.row) x.0))
        by_new (inr x) = has_edge next (normalised g.row) i j (a +ℤ b) g.like proper g.weight x

    round : (i : ℕ) (a b : ℤ) → HasEdge rows i (suc v) a → HasEdge rows (suc v) i b → pos 0 ≤ℤ (a +ℤ b)
    round i a b n p = by_new (o.new g.row g.is_offered)
      where
        g : Passing v rows i i a b
        g = passing v rows edges i i a b n p

        by_new : ((is_constant (normalised g.row) ≡ true) × (pos 0 ≤ℤ (normalised g.row).constant)) ⊎ Has next (normalised g.row).terms (normalised g.row).constant → pos 0 ≤ℤ (a +ℤ b)
        by_new (inl x) = subst (λ (z : ℤ). pos 0 ≤ℤ z) g.weight x.1
        by_new (inr x) =
            let e = next_edges v rows next edges o x.row x.is_in in
            absurd (none_like x.row e.0 e.1 e.2 e.3 (x.terms ∙ like_none (normalised g.row) i g.like))

-- ---- stages
-- what is kept of a difference system as the variables below v are left, of which there are n at first
pub record IsKept (edge : ℕ → ℕ → ℤ → Type 0) (n v : ℕ) (rows : List Row) : Type 0 where
  pub edges : AreEdges v rows
  pub different : Different rows
  pub stage : IsStage edge (HasEdge rows) n v

pub kept_next : (edge : ℕ → ℕ → ℤ → Type 0) (n v : ℕ) (rows next : List Row) → suc v ≤ n → IsKept edge n (suc v) rows → eliminated false v rows ≡ keeps next → IsKept edge n v next
kept_next edge n v rows next h k e =
    let o = elimination v rows next e in
    record {
      edges = next_edges v rows next k.edges o;
      different = o.different (different_filter (λ r. int_eq (factor v r.terms) (pos 0)) rows k.different);
      stage = next_stage edge (HasEdge rows) (HasEdge next) n v h k.stage (eliminates v rows next k.edges k.different o);
    }

-- ---- the system's own rows
unit_cases : (z : ℤ) → (unsigned_abs z == 1) ≡ true → (z ≡ pos 1) ⊎ (z ≡ negsuc 0)
unit_cases (pos n) e = let k : n ≡ 1 = grind arith in inl (ap pos k)
unit_cases (negsuc n) e = let k : suc n ≡ 1 = grind arith in let l : n ≡ 0 = omega arith in inr (ap negsuc l)

-- what the factor of a term adds at the variable x
own_factor : (x y : ℕ) (c : ℤ) → ((mark x (suc y) ≡ pos 1) × ((if x == y then c else pos 0) ≡ c)) ⊎ ((mark x (suc y) ≡ pos 0) × ((if x == y then c else pos 0) ≡ pos 0))
own_factor x y c = elim (eqb_tells x y) [
  | inl e ↦ inl (ap (λ (z : ℕ). mark x (suc z)) (sym e.1) ∙ mark_own x, ap (λ (b : Bool). if b then c else pos 0) e.0)
  | inr e ↦ inr (mark_other x (suc y) (λ k. let o : x ≡ y → ⊥ = e.1 in omega arith), ap (λ (b : Bool). if b then c else pos 0) e.0)
]

one_factor : (x y : ℕ) (c : ℤ) → c ≡ pos 1 → (if x == y then c else pos 0) ≡ mark x (suc y)
one_factor x y c e = elim (own_factor x y c) [ inl h ↦ h.1 ∙ e ∙ sym h.0 | inr h ↦ h.1 ∙ sym h.0 ]

minus_factor : (x y : ℕ) (c : ℤ) → c ≡ negsuc 0 → (if x == y then c else pos 0) ≡ neg_ℤ (mark x (suc y))
minus_factor x y c e = elim (own_factor x y c) [ inl h ↦ h.1 ∙ e ∙ ap neg_ℤ (sym h.0) | inr h ↦ h.1 ∙ ap neg_ℤ (sym h.0) ]

pub record LikeUpTo (r : Row) (n : ℕ) : Type 0 where
  pub start : ℕ
  pub end : ℕ
  pub like : IsLike r start end
  pub start_upto : start ≤ n
  pub end_upto : end ≤ n

abbrev of_terms : List Term → ℤ → Row
of_terms ts c = record { terms = ts; constant = c }

difference_like : (ts : List Term) (c : ℤ) → IsOrdered ts → is_difference ts ≡ true → LikeUpTo (of_terms ts c) (variables_in ts)
difference_like [] c o d = record { start = 0; end = 0; like = record { ordered = tt; factors = λ x. nothing (mark x 0) }; start_upto = omega arith; end_upto = omega arith }
  where
    nothing : (z : ℤ) → pos 0 ≡ z -ℤ z
    nothing z = omega (arith, ints)
difference_like (t ∷ []) c o d = elim (unit_cases t.1 d) [
  | inl e ↦ record { start = suc t.0; end = 0; like = record { ordered = o; factors = λ x. plus (if x == t.0 then t.1 else pos 0) (mark x (suc t.0)) (mark x 0) (one_factor x t.0 t.1 e) (mark_other x 0 (λ q. cc)) }; start_upto = omega arith; end_upto = omega arith }
  | inr e ↦ record { start = 0; end = suc t.0; like = record { ordered = o; factors = λ x. minus (if x == t.0 then t.1 else pos 0) (mark x (suc t.0)) (mark x 0) (minus_factor x t.0 t.1 e) (mark_other x 0 (λ q. cc)) }; start_upto = omega arith; end_upto = omega arith }
]
  where
    plus : (a b z : ℤ) → a ≡ b → z ≡ pos 0 → a +ℤ pos 0 ≡ b -ℤ z
    plus a b z e f = omega (arith, ints)

    minus : (a b z : ℤ) → a ≡ neg_ℤ b → z ≡ pos 0 → a +ℤ pos 0 ≡ z -ℤ b
    minus a b z e f = omega (arith, ints)
difference_like (s ∷ t ∷ []) c o d =
    let first = and_parts (is_unit s && is_unit t) (int_eq (s.1 +ℤ t.1) (pos 0)) d in
    let both = and_parts (is_unit s) (is_unit t) first.0 in
    let sum : s.1 +ℤ t.1 ≡ pos 0 = zero_from_test (s.1 +ℤ t.1) first.1 in
    elim (unit_cases s.1 both.0) [
      | inl e ↦ record { start = suc s.0; end = suc t.0; like = record { ordered = o; factors = λ x. down (if x == s.0 then s.1 else pos 0) (if x == t.0 then t.1 else pos 0) (mark x (suc s.0)) (mark x (suc t.0)) (one_factor x s.0 s.1 e) (minus_factor x t.0 t.1 (other s.1 t.1 sum e)) }; start_upto = omega arith; end_upto = omega arith }
      | inr e ↦ record { start = suc t.0; end = suc s.0; like = record { ordered = o; factors = λ x. up (if x == s.0 then s.1 else pos 0) (if x == t.0 then t.1 else pos 0) (mark x (suc s.0)) (mark x (suc t.0)) (minus_factor x s.0 s.1 e) (one_factor x t.0 t.1 (other' s.1 t.1 sum e)) }; start_upto = omega arith; end_upto = omega arith }
    ]
  where
    other : (a b : ℤ) → a +ℤ b ≡ pos 0 → a ≡ pos 1 → b ≡ negsuc 0
    other a b e f = omega (arith, ints)

    other' : (a b : ℤ) → a +ℤ b ≡ pos 0 → a ≡ negsuc 0 → b ≡ pos 1
    other' a b e f = omega (arith, ints)

    down : (a b m n : ℤ) → a ≡ m → b ≡ neg_ℤ n → a +ℤ (b +ℤ pos 0) ≡ m -ℤ n
    down a b m n e f = omega (arith, ints)

    up : (a b m n : ℤ) → a ≡ neg_ℤ m → b ≡ n → a +ℤ (b +ℤ pos 0) ≡ n -ℤ m
    up a b m n e f = omega (arith, ints)
difference_like (s ∷ t ∷ u ∷ ts) c o d = absurd (cc)

pub row_like : (rows : List Row) → ((r : Row) → In r rows → IsOrdered r.terms) → are_differences rows ≡ true → (r : Row) → In r rows → LikeUpTo r (variables rows)
row_like [] o d r h = absurd h
row_like (q ∷ qs) o d r (inl e) =
    let both = and_parts (is_difference q.terms) (are_differences qs) d in
    let l = difference_like q.terms q.constant (o q (inl refl)) both.0 in
    subst (λ (z : Row). LikeUpTo z (variables (q ∷ qs))) e (record {
      start = l.start;
      end = l.end;
      like = l.like;
      start_upto = omega (arith, l.start_upto);
      end_upto = omega (arith, l.end_upto);
    })
row_like (q ∷ qs) o d r (inr h) =
    let both = and_parts (is_difference q.terms) (are_differences qs) d in
    let l = row_like qs (λ x k. o x (inr k)) both.1 r h in
    record { start = l.start; end = l.end; like = l.like; start_upto = omega (arith, l.start_upto); end_upto = omega (arith, l.end_upto) }

pub kept_first : (rows kept : List Row) (last : ℕ) → ((r : Row) → In r rows → IsOrdered r.terms) → are_differences rows ≡ true → keep_all false last [] rows ≡ keeps kept → IsKept (HasEdge rows) (variables rows) (variables rows) kept
kept_first rows kept last ordered d e = record {
  edges = edges;
  different = o.different tt;
  stage = first_stage (HasEdge rows) (HasEdge kept) (variables rows) ends from one lightest;
}
  where
    o : Offered [] rows kept
    o = offered_of false last [] rows kept e

    like : (r : Row) → In r rows → LikeUpTo r (variables rows)
    like r h = row_like rows ordered d r h

    own : (q : Row) → In q kept → In q rows × (is_constant q ≡ false)
    own q h = by_from (o.from q h)
      where
        by_from : In q [] ⊎ ((r : Row) × In r rows × (q ≡ normalised r) × (is_constant q ≡ false)) → In q rows × (is_constant q ≡ false)
        by_from (inl x) = absurd x
        by_from (inr x) =
            let l = like x.0 x.1 in
            let is : q ≡ x.0 = x.2 ∙ like_normal x.0 l.start l.end l.like in
            (subst (λ (z : Row). In z rows) (sym is) x.1, x.3)

    edges : AreEdges (variables rows) kept
    edges q h =
        let w = own q h in
        let l = like q w.0 in
        (l.start, l.end, l.like, (λ k. let t : is_constant q ≡ true = terms_constant q (like_none q l.end (subst (λ (z : ℕ). IsLike q z l.end) k l.like)) in let f : is_constant q ≡ false = w.1 in absurd (cc)), l.start_upto, l.end_upto)

    ends : (i j : ℕ) (c : ℤ) → HasEdge rows i j c → (i ≤ variables rows) × (j ≤ variables rows) × (i ≡ j → ⊥)
    ends i j c h =
        let l = like h.0 h.1 in
        let s = same_ends h.0 i j l.start l.end h.2 l.like h.3 in
        (subst (λ (z : ℕ). z ≤ variables rows) (sym s.0) l.start_upto, subst (λ (z : ℕ). z ≤ variables rows) (sym s.1) l.end_upto, h.3)

    from : (i j : ℕ) (c : ℤ) → HasEdge kept i j c → HasEdge rows i j c
    from i j c h = (h.0, (own h.0 h.1).0, h.2, h.3, h.4)

    one : (i j : ℕ) (c d : ℤ) → HasEdge kept i j c → HasEdge kept i j d → c ≡ d
    one i j c d h k =
        let is : h.0 ≡ k.0 = one_of kept h.0 k.0 (o.different tt) h.1 k.1 (like_same_terms h.0 k.0 i j h.2 k.2) in
        sym h.4 ∙ ap (λ (z : Row). z.constant) is ∙ k.4

    lightest : (i j : ℕ) (c : ℤ) → HasEdge rows i j c → (b : ℤ) × HasEdge kept i j b × (b ≤ℤ c)
    lightest i j c h = by_new (o.new h.0 h.1)
      where
        normal : normalised h.0 ≡ h.0
        normal = like_normal h.0 i j h.2

        by_new : ((is_constant (normalised h.0) ≡ true) × (pos 0 ≤ℤ (normalised h.0).constant)) ⊎ Has kept (normalised h.0).terms (normalised h.0).constant → (b : ℤ) × HasEdge kept i j b × (b ≤ℤ c)
        by_new (inl x) = absurd (none_like h.0 i j h.2 h.3 (constant_terms h.0 (subst (λ (z : Row). is_constant z ≡ true) normal x.0)))
        by_new (inr x) = has_edge kept h.0 i j c h.2 h.3 h.4 (subst (λ (z : Row). Has kept z.terms z.constant) normal x)

-- No constant that is kept of a difference system passes n + 1 times those of its rows.
pub kept_sized : (rows : List Row) (n v m : ℕ) (kept : List Row) → ((r : Row) → In r rows → IsSized m r.constant) → IsKept (HasEdge rows) n v kept → (r : Row) → In r kept → IsSized (steps m (suc n)) r.constant
kept_sized rows n v m kept small k r h =
    let e = k.edges r h in
    stage_sized (HasEdge rows) (HasEdge kept) n v m (λ i j c g. subst (IsSized m) g.4 (small g.0 g.1)) k.stage e.0 e.1 r.constant (r, h, e.2, e.3, refl)
