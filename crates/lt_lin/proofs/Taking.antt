-- What taking one line shows.
use Rattle.std.proofs.Common.{arith, rules, ◌≡◌, refl, sym, ◌∙◌, ap, subst, ℕ, ℤ, pos, ◌+◌, ◌≤◌, ◌↔◌, List, [], ◌∷◌, ◌++◌, length, Bool, true, false, Some, None, ◌⊎◌, inl, inr, Ok, Err}
use Rattle.std.specs.Prelude.{IsTrue, Result, IsOk, neg_ℤ, ◌+ℤ◌}
use Rattle.std.specs.declared.alloc.AllocError.{AllocError}
use Rattle.lt_lin.specs.declared.row.Row.{Row}
use Rattle.lt_lin.specs.declared.lines.Seen.{Seen}
use Rattle.lt_lin.specs.Terms.{Term, negated}
use Rattle.lt_lin.specs.Rows.{IsContradiction, HasContradiction}
use Rattle.lt_lin.specs.Lines.{Lines, last, combination, division, split}
use Rattle.lt_lin.specs.Refutation.{IsCombination, IsDivision, CanSplit, low_row, high_row, RefutesAfter, zero_row}
use Rattle.lt_lin.specs.Room.{places, terms_in, terms_added, HasPlaces}
use Rattle.lt_lin.specs.Taking.{IsTaken, IsFollowed}
use Rattle.lt_lin.proofs.Sums.{one_sum}
use Rattle.lt_lin.proofs.Quotients.{one_division}

pub append_nothing : (rs : List Row) → rs ≡ rs ++ []
append_nothing [] = refl
append_nothing (r ∷ rs) = ap (λ k. r ∷ k) (append_nothing rs)

pub contradiction-append : (rs : List Row) (r : Row) → (HasContradiction (rs ++ r ∷ []) ↔ (HasContradiction rs ⊎ IsContradiction r))
contradiction-append [] r = ((λ h. elim h [ inl k ↦ inr k | inr k ↦ absurd k ]), (λ h. elim h [ inl k ↦ absurd k | inr k ↦ inl k ]))
contradiction-append (q ∷ rs) r =
    let ih = contradiction-append rs r in (
      (λ h. elim h [ inl k ↦ inl (inl k) | inr k ↦ elim (ih.0 k) [ inl m ↦ inl (inr m) | inr m ↦ inr m ] ]),
      (λ h. elim h [ inl k ↦ elim k [ inl m ↦ inl m | inr m ↦ inr (ih.1 (inl m)) ] | inr k ↦ inr (ih.1 (inr k)) ]),
    )

-- a row is added, and it is told whether there is a contradiction now
pub contradiction_more : (before now : Bool) (known after : List Row) (ts : List Term) (k : ℤ) (r : Row) → (IsTrue before ↔ HasContradiction known) → ts ≡ r.terms → k ≡ r.constant → (IsTrue now ↔ (IsTrue before ⊎ IsContradiction (record { terms = ts; constant = k }))) → after ≡ known ++ r ∷ [] → (IsTrue now ↔ HasContradiction after)
contradiction_more before now known after ts k r told et ek n e =
    let more = contradiction-append known r in
    let same : record { terms = ts; constant = k } ≡ r = ap (λ (x : List Term). record { terms = x; constant = k }) et ∙ ap (λ (x : ℤ). record { terms = r.terms; constant = x }) ek in (
      (λ h. subst HasContradiction (sym e) (more.1 (elim (n.0 h) [ inl p ↦ inl (told.0 p) | inr p ↦ inr (subst IsContradiction same p) ]))),
      (λ h. n.1 (elim (more.0 (subst HasContradiction e h)) [ inl p ↦ inl (told.1 p) | inr p ↦ inr (subst IsContradiction (sym same) p) ])),
    )

pub HasPlaces-mono : (m n : ℕ) (known : List Row) (lines : Lines) → m ≤ n → HasPlaces m known lines → HasPlaces n known lines
HasPlaces-mono m n known last h p = tt
HasPlaces-mono m n known (combination pairs rest) h p = (
  let a : places known + 1 + terms_added known pairs ≤ m = p.0 in omega arith,
  λ r c. HasPlaces-mono m n (known ++ r ∷ []) rest h (p.1 r c),
)
HasPlaces-mono m n known (division i d rest) h p = (
  let a : places known + 1 + terms_in known i ≤ m = p.0 in omega arith,
  λ r c. HasPlaces-mono m n (known ++ r ∷ []) rest h (p.1 r c),
)
HasPlaces-mono m n known (split ts k low high rest) h p = λ can.
    let q = p can in (
      let a : places known + 1 + length ts ≤ m = q.0 in omega arith,
      HasPlaces-mono m n (known ++ low_row ts k ∷ []) low h q.1,
      λ l. (HasPlaces-mono m n (known ++ high_row ts k ∷ []) high h (q.2 l).0, λ g. HasPlaces-mono m n known rest h ((q.2 l).1 g)),
    )

-- ---- lines that give a row
-- The line is valid where there is a row that it gives, which is then known; for this it needs places.
pub record GivesRow (line : Lines → Lines) (known : List Row) (Gives : Row → Type 0) (need : ℕ) : Type 0 where
  pub refutes : (b : Bool) (rest : Lines) → (RefutesAfter b known (line rest) ↔ ((r : Row) × Gives r × RefutesAfter b (known ++ r ∷ []) rest))
  pub room : (n : ℕ) (rest : Lines) → (HasPlaces n known (line rest) ↔ ((need ≤ n) × ((r : Row) → Gives r → HasPlaces n (known ++ r ∷ []) rest)))
  pub one : (r s : Row) → Gives r → Gives s → r ≡ s

pub combination_gives : (pairs : List (ℕ × ℤ)) (known : List Row) → GivesRow (combination pairs) known (IsCombination known pairs) (places known + 1 + terms_added known pairs)
combination_gives pairs known = record {
  refutes = λ b rest. ((λ h. h), (λ h. h));
  room = λ n rest. ((λ h. h), (λ h. h));
  one = λ r s h k. one_sum known zero_row pairs r s h k;
}

pub division_gives : (i : ℕ) (d : ℤ) (known : List Row) → GivesRow (division i d) known (IsDivision known i d) (places known + 1 + terms_in known i)
division_gives i d known = record {
  refutes = λ b rest. ((λ h. h), (λ h. h));
  room = λ n rest. ((λ h. h), (λ h. h));
  one = λ r s h k. one_division known i d r s h k;
}

-- what `make_room` did
pub record MadeRoom (need limit limit' : ℕ) : Type 0 where
  pub grows : limit ≤ limit'
  pub ok : need ≤ limit'
  pub same : need ≤ limit → limit' ≡ limit

pub row_taken : (line : Lines → Lines) (seen more : Seen) (known after : List Row) (Gives : Row → Type 0) (need limit limit' : ℕ) (r : Row) → GivesRow line known Gives need → MadeRoom need limit limit' → Gives r → after ≡ known ++ r ∷ [] → more.split ≡ seen.split → (IsTrue more.contradiction ↔ HasContradiction after) → IsTaken line seen known limit (Ok (Some more)) after limit'
row_taken line seen more known after Gives need limit limit' r g m is e es told = record {
  answer = (
    (λ rest. (
      (λ h. (g.refutes seen.split rest).1 (r, is, subst (λ (b : Bool). RefutesAfter b (known ++ r ∷ []) rest) es (subst (λ (k : List Row). RefutesAfter more.split k rest) e h))),
      (λ h.
          let k = (g.refutes seen.split rest).0 h in
          let same : k.0 ≡ r = g.one k.0 r k.1 is in
          subst (λ (k : List Row). RefutesAfter more.split k rest) (sym e) (subst (λ (b : Bool). RefutesAfter b (known ++ r ∷ []) rest) (sym es) (subst (λ (x : Row). RefutesAfter seen.split (known ++ x ∷ []) rest) same k.2))),
    )),
    told,
  );
  rows = (r ∷ [], e);
  grows = m.grows;
  room = λ n rest h p. (g.room n rest).1 (
    omega (arith, m.ok),
    λ s k.
        let same : r ≡ s = g.one r s is k in
        subst (λ (x : Row). HasPlaces n (known ++ x ∷ []) rest) same (subst (λ (k : List Row). HasPlaces n k rest) e p),
  );
  enough = λ rest h.
      let p = (g.room limit rest).0 h in
      (search rules, m.same p.0, subst (λ (k : List Row). HasPlaces limit k rest) (sym e) (p.1 r is));
}

pub row_refused : (line : Lines → Lines) (seen : Seen) (known after : List Row) (Gives : Row → Type 0) (need limit limit' : ℕ) → GivesRow line known Gives need → MadeRoom need limit limit' → ((r : Row) → Gives r → ⊥) → after ≡ known → IsTaken line seen known limit (Ok None) after limit'
row_refused line seen known after Gives need limit limit' g m no_row e = record {
  answer = λ rest h. let k = (g.refutes seen.split rest).0 h in no_row k.0 k.1;
  rows = ([], e ∙ append_nothing known);
  grows = m.grows;
  room = λ rest. (g.room limit' rest).1 (m.ok, λ r k. absurd (no_row r k));
  enough = λ rest h. (search rules, m.same ((g.room limit rest).0 h).0, tt);
}

pub row_failed : (line : Lines → Lines) (seen : Seen) (known after : List Row) (Gives : Row → Type 0) (need limit limit' : ℕ) (error error' : AllocError) → GivesRow line known Gives need → limit ≤ limit' → (need ≤ limit → ⊥) → IsTaken line seen known limit (Err error') after limit'
row_failed line seen known after Gives need limit limit' error error' g up lack = record {
  answer = tt;
  rows = tt;
  grows = up;
  room = tt;
  enough = λ rest h. absurd (lack ((g.room limit rest).0 h).0);
}

-- ---- splits
not_ok : {P : Type 0} (error : AllocError) → IsOk {T = Bool} (Err error) → P
not_ok error h = absurd (cc h)

pub split_not_valid : (ts : List Term) (k : ℤ) (low high : Lines) (seen : Seen) (known : List Row) (limit : ℕ) → (CanSplit ts k → ⊥) → IsTaken (split ts k low high) seen known limit (Ok None) known limit
split_not_valid ts k low high seen known limit no_split = record {
  answer = λ rest h. no_split h.0;
  rows = ([], append_nothing known);
  grows = omega arith;
  room = λ rest can. absurd (no_split can);
  enough = λ rest h. (search rules, refl, tt);
}

pub split_failed : (ts : List Term) (k : ℤ) (low high : Lines) (seen : Seen) (known after : List Row) (limit limit' : ℕ) (error error' : AllocError) → CanSplit ts k → limit ≤ limit' → (places known + 1 + length ts ≤ limit → ⊥) → IsTaken (split ts k low high) seen known limit (Err error') after limit'
split_failed ts k low high seen known after limit limit' error error' can up lack = record {
  answer = tt;
  rows = tt;
  grows = up;
  room = tt;
  enough = λ rest h. absurd (lack (h can).0);
}

-- the rows of the sides, as the code makes them
pub low_followed : (lines : Lines) (ts ts' terms : List Term) (k k' : ℤ) (known known' : List Row) (limit limit' : ℕ) (result : Result Bool AllocError) (side : List Row) → known' ≡ known → ts' ≡ negated terms → terms ≡ ts → k' ≡ k → IsFollowed lines (known' ++ record { terms = ts'; constant = k' } ∷ []) limit result side limit' → IsFollowed lines (known ++ low_row ts k ∷ []) limit result side limit'
low_followed lines ts ts' terms k k' known known' limit limit' result side e f g h t =
    rw (sym e, sym h, sym g) (rw f at t)

pub high_followed : (lines : Lines) (ts ts' terms : List Term) (k k' : ℤ) (known known' : List Row) (limit limit' : ℕ) (result : Result Bool AllocError) (side : List Row) → known' ≡ known → ts' ≡ terms → terms ≡ ts → k' ≡ neg_ℤ (k +ℤ pos 1) → IsFollowed lines (known' ++ record { terms = ts'; constant = k' } ∷ []) limit result side limit' → IsFollowed lines (known ++ high_row ts k ∷ []) limit result side limit'
high_followed lines ts ts' terms k k' known known' limit limit' result side e f g h t =
    rw (sym e, sym g) (rw (f, h) at t)

pub low_failed : (ts : List Term) (k : ℤ) (low high : Lines) (seen : Seen) (known side after : List Row) (limit limit1 limit2 : ℕ) (error error' : AllocError) → CanSplit ts k → MadeRoom (places known + 1 + length ts) limit limit1 → IsFollowed low (known ++ low_row ts k ∷ []) limit1 (Err error) side limit2 → IsTaken (split ts k low high) seen known limit (Err error') after limit2
low_failed ts k low high seen known side after limit limit1 limit2 error error' can m f = record {
  answer = tt;
  rows = tt;
  grows = omega (arith, m.grows, f.grows);
  room = tt;
  enough = λ rest h.
      let p = h can in
      let e : limit1 ≡ limit = m.same p.0 in
      not_ok error ((f.enough (subst (λ (n : ℕ). HasPlaces n (known ++ low_row ts k ∷ []) low) (sym e) p.1)).0);
}

pub low_stands : (ts : List Term) (k : ℤ) (low high : Lines) (seen : Seen) (known side after : List Row) (limit limit1 limit2 : ℕ) → CanSplit ts k → MadeRoom (places known + 1 + length ts) limit limit1 → IsFollowed low (known ++ low_row ts k ∷ []) limit1 (Ok false) side limit2 → after ≡ known → IsTaken (split ts k low high) seen known limit (Ok None) after limit2
low_stands ts k low high seen known side after limit limit1 limit2 can m f e = record {
  answer = λ rest h. not_true (f.answer.1 h.1);
  rows = ([], e ∙ append_nothing known);
  grows = omega (arith, m.grows, f.grows);
  room = λ rest can. (omega (arith, m.ok, f.grows), f.room, λ l. absurd (not_true (f.answer.1 l)));
  enough = λ rest h.
      let p = h can in
      let e : limit1 ≡ limit = m.same p.0 in
      (search rules, (f.enough (subst (λ (n : ℕ). HasPlaces n (known ++ low_row ts k ∷ []) low) (sym e) p.1)).1 ∙ e, tt);
}
  where
    not_true : IsTrue false → ⊥
    not_true h = absurd (cc h)

pub high_failed : (ts : List Term) (k : ℤ) (low high : Lines) (seen : Seen) (known side side' after : List Row) (limit limit1 limit2 limit3 : ℕ) (error error' : AllocError) → CanSplit ts k → MadeRoom (places known + 1 + length ts) limit limit1 → IsFollowed low (known ++ low_row ts k ∷ []) limit1 (Ok true) side limit2 → IsFollowed high (known ++ high_row ts k ∷ []) limit2 (Err error) side' limit3 → IsTaken (split ts k low high) seen known limit (Err error') after limit3
high_failed ts k low high seen known side side' after limit limit1 limit2 limit3 error error' can m f g = record {
  answer = tt;
  rows = tt;
  grows = omega (arith, m.grows, f.grows, g.grows);
  room = tt;
  enough = λ rest h.
      let p = h can in
      let e : limit1 ≡ limit = m.same p.0 in
      let e2 : limit2 ≡ limit = (f.enough (subst (λ (n : ℕ). HasPlaces n (known ++ low_row ts k ∷ []) low) (sym e) p.1)).1 ∙ e in
      not_ok error ((g.enough (subst (λ (n : ℕ). HasPlaces n (known ++ high_row ts k ∷ []) high) (sym e2) (p.2 (f.answer.0 (search rules))).0)).0);
}

pub high_stands : (ts : List Term) (k : ℤ) (low high : Lines) (seen : Seen) (known side side' after : List Row) (limit limit1 limit2 limit3 : ℕ) → CanSplit ts k → MadeRoom (places known + 1 + length ts) limit limit1 → IsFollowed low (known ++ low_row ts k ∷ []) limit1 (Ok true) side limit2 → IsFollowed high (known ++ high_row ts k ∷ []) limit2 (Ok false) side' limit3 → after ≡ known → IsTaken (split ts k low high) seen known limit (Ok None) after limit3
high_stands ts k low high seen known side side' after limit limit1 limit2 limit3 can m f g e = record {
  answer = λ rest h. not_true (g.answer.1 h.2);
  rows = ([], e ∙ append_nothing known);
  grows = omega (arith, m.grows, f.grows, g.grows);
  room = λ rest can. (omega (arith, m.ok, f.grows, g.grows), HasPlaces-mono limit2 limit3 (known ++ low_row ts k ∷ []) low g.grows f.room, λ l. (g.room, λ u. absurd (not_true (g.answer.1 u))));
  enough = λ rest h.
      let p = h can in
      let e : limit1 ≡ limit = m.same p.0 in
      let e2 : limit2 ≡ limit = (f.enough (subst (λ (n : ℕ). HasPlaces n (known ++ low_row ts k ∷ []) low) (sym e) p.1)).1 ∙ e in
      (search rules, (g.enough (subst (λ (n : ℕ). HasPlaces n (known ++ high_row ts k ∷ []) high) (sym e2) (p.2 (f.answer.0 (search rules))).0)).1 ∙ e2, tt);
}
  where
    not_true : IsTrue false → ⊥
    not_true h = absurd (cc h)

pub split_taken : (ts : List Term) (k : ℤ) (low high : Lines) (seen more : Seen) (known side side' after : List Row) (limit limit1 limit2 limit3 : ℕ) → CanSplit ts k → MadeRoom (places known + 1 + length ts) limit limit1 → IsFollowed low (known ++ low_row ts k ∷ []) limit1 (Ok true) side limit2 → IsFollowed high (known ++ high_row ts k ∷ []) limit2 (Ok true) side' limit3 → after ≡ known → more.split ≡ true → more.contradiction ≡ seen.contradiction → (IsTrue seen.contradiction ↔ HasContradiction known) → IsTaken (split ts k low high) seen known limit (Ok (Some more)) after limit3
split_taken ts k low high seen more known side side' after limit limit1 limit2 limit3 can m f g e es ec told = record {
  answer = (
    (λ rest. (
      (λ h. (can, f.answer.0 (search rules), g.answer.0 (search rules), subst (λ (b : Bool). RefutesAfter b known rest) es (subst (λ (k : List Row). RefutesAfter more.split k rest) e h))),
      (λ h. subst (λ (k : List Row). RefutesAfter more.split k rest) (sym e) (subst (λ (b : Bool). RefutesAfter b known rest) (sym es) h.3)),
    )),
    subst (λ (k : List Row). IsTrue more.contradiction ↔ HasContradiction k) (sym e) (subst (λ (b : Bool). IsTrue b ↔ HasContradiction known) (sym ec) told),
  );
  rows = ([], e ∙ append_nothing known);
  grows = omega (arith, m.grows, f.grows, g.grows);
  room = λ n rest le p can. (omega (arith, m.ok, f.grows, g.grows), HasPlaces-mono limit2 n (known ++ low_row ts k ∷ []) low (omega (arith, g.grows)) f.room, λ l. (HasPlaces-mono limit3 n (known ++ high_row ts k ∷ []) high le g.room, λ u. subst (λ (k : List Row). HasPlaces n k rest) e p));
  enough = λ rest h.
      let p = h can in
      let e1 : limit1 ≡ limit = m.same p.0 in
      let q = f.enough (subst (λ (n : ℕ). HasPlaces n (known ++ low_row ts k ∷ []) low) (sym e1) p.1) in
      let e2 : limit2 ≡ limit = q.1 ∙ e1 in
      let o = p.2 (f.answer.0 (search rules)) in
      let r = g.enough (subst (λ (n : ℕ). HasPlaces n (known ++ high_row ts k ∷ []) high) (sym e2) o.0) in
      (search rules, r.1 ∙ e2, subst (λ (k : List Row). HasPlaces limit k rest) (sym e) (o.1 (g.answer.0 (search rules))));
}
