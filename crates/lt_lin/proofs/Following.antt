-- Lines followed one after another.
use Rattle.std.proofs.Common.{arith, rules, ◌≡◌, refl, sym, ◌∙◌, ap, subst, ℕ, ℤ, ◌+◌, ◌<◌, ◌≤◌, ◌↔◌, List, [], ◌∷◌, ◌++◌, length, Bool, true, false, Option, Some, None, ◌⊎◌, inl, inr, Ok, Err, append_assoc, get_or, take, length-append, drop, drop-cons, add-one, Vec, Global}
use Rattle.std.specs.Prelude.{IsTrue, Result, IsOk, OnOk, ◌||◌}
use Rattle.std.proofs.Math.Path.{fun_ext}
use Rattle.std.proofs.Math.Seq.{take-append_seam}
use Rattle.std.specs.declared.alloc.AllocError.{AllocError}
use Rattle.lt_lin.specs.declared.row.Row.{Row}
use Rattle.lt_lin.specs.declared.lines.Seen.{Seen}
use Rattle.lt_lin.specs.declared.line.Line.{Line, Combine, Divide, Split, Split', Row_of-Line, end_of-Line, more_of-Line, items-the_row-Line, items_hidden-the_row-Line-0}
use mathlib.Core.Former.{Count}
use Rattle.lt_lin.specs.Terms.{Term}
use Rattle.lt_lin.specs.Rows.{HasContradiction}
use Rattle.lt_lin.specs.Lines.{Lines, last, combination, division, split, before_lines, side_lines, lines_of}
use Rattle.lt_lin.specs.Refutation.{RefutesAfter, Refutes}
use Rattle.lt_lin.specs.Room.{HasPlaces}
use Rattle.lt_lin.proofs.Taking.{append_nothing}
use Rattle.lt_lin.specs.Taking.{IsTaken, IsFollowed, Extends}

-- the lines up to `rest` were taken
pub record Following (lines : Lines) (before : List Row) (start : ℕ) (rest : Lines) (seen : Seen) (known : List Row) (limit : ℕ) : Type 0 where
  pub told : IsTrue seen.contradiction ↔ HasContradiction known
  pub answer : RefutesAfter seen.split known rest ↔ Refutes before lines
  pub rows : Extends before known
  pub grows : start ≤ limit
  pub room : (n : ℕ) → limit ≤ n → HasPlaces n known rest → HasPlaces n before lines
  pub enough : HasPlaces start before lines → (limit ≡ start) × HasPlaces start known rest

pub follow_start : (lines : Lines) (known : List Row) (limit : ℕ) (seen : Seen) → seen.split ≡ false → (IsTrue seen.contradiction ↔ HasContradiction known) → Following lines known limit lines seen known limit
follow_start lines known limit seen e told = record {
  told = told;
  answer = ((λ h. subst (λ (b : Bool). RefutesAfter b known lines) e h), (λ h. subst (λ (b : Bool). RefutesAfter b known lines) (sym e) h));
  rows = ([], append_nothing known);
  grows = omega arith;
  room = λ n h p. p;
  enough = λ h. (refl, h);
}

extends : (a b c : List Row) → Extends a b → Extends b c → Extends a c
extends a b c p q = (p.0 ++ q.0, q.1 ∙ ap (λ k. k ++ q.0) p.1 ∙ append_assoc a p.0 q.0)

pub follow_step : (lines : Lines) (before : List Row) (start : ℕ) (line : Lines → Lines) (rest : Lines) (seen more : Seen) (known after : List Row) (limit limit' : ℕ) → Following lines before start (line rest) seen known limit → IsTaken line seen known limit (Ok (Some more)) after limit' → Following lines before start rest more after limit'
follow_step lines before start line rest seen more known after limit limit' f t = record {
  told = t.answer.1;
  answer = ((λ h. f.answer.0 ((t.answer.0 rest).0 h)), (λ h. (t.answer.0 rest).1 (f.answer.1 h)));
  rows = extends before known after f.rows t.rows;
  grows = omega (arith, f.grows, t.grows);
  room = λ n h p. f.room n (omega (arith, t.grows)) (t.room n rest h p);
  enough = λ h.
      let p = f.enough h in
      let q = t.enough rest (subst (λ (n : ℕ). HasPlaces n known (line rest)) (sym p.0) p.1) in
      (q.1 ∙ p.0, subst (λ (n : ℕ). HasPlaces n after rest) p.0 q.2);
}

not_true : IsTrue false → ⊥
not_true h = absurd (cc h)

pub follow_refused : (lines : Lines) (before : List Row) (start : ℕ) (line : Lines → Lines) (rest : Lines) (seen : Seen) (known after : List Row) (limit limit' : ℕ) → Following lines before start (line rest) seen known limit → IsTaken line seen known limit (Ok None) after limit' → IsFollowed lines before start (Ok false) after limit'
follow_refused lines before start line rest seen known after limit limit' f t = record {
  answer = ((λ h. absurd (not_true h)), (λ h. absurd (t.answer rest (f.answer.1 h))));
  rows = extends before known after f.rows t.rows;
  grows = omega (arith, f.grows, t.grows);
  room = f.room limit' t.grows (t.room rest);
  enough = λ h.
      let p = f.enough h in
      let q = t.enough rest (subst (λ (n : ℕ). HasPlaces n known (line rest)) (sym p.0) p.1) in
      (search rules, q.1 ∙ p.0);
}

pub follow_failed : (lines : Lines) (before : List Row) (start : ℕ) (line : Lines → Lines) (rest : Lines) (seen : Seen) (known after : List Row) (limit limit' : ℕ) (error error' : AllocError) → Following lines before start (line rest) seen known limit → IsTaken line seen known limit (Err error) after limit' → IsFollowed lines before start (Err error') after limit'
follow_failed lines before start line rest seen known after limit limit' error error' f t = record {
  answer = tt;
  rows = tt;
  grows = omega (arith, f.grows, t.grows);
  room = tt;
  enough = λ h.
      let p = f.enough h in
      not_ok ((t.enough rest (subst (λ (n : ℕ). HasPlaces n known (line rest)) (sym p.0) p.1)).0);
}
  where
    not_ok : {P : Type 0} → IsOk {T = Option Seen} {E = AllocError} (Err error) → P
    not_ok h = absurd (cc h)

pub follow_end : (lines : Lines) (before : List Row) (start : ℕ) (seen : Seen) (known : List Row) (limit : ℕ) (b : Bool) → Following lines before start last seen known limit → b ≡ (seen.contradiction || seen.split) → IsFollowed lines before start (Ok b) known limit
follow_end lines before start seen known limit b f e = record {
  answer = (
    (λ h. f.answer.0 (elim (either seen.contradiction seen.split (subst IsTrue e h)) [ inl k ↦ inr (f.told.0 k) | inr k ↦ inl k ])),
    (λ h. subst IsTrue (sym e) (both seen.contradiction seen.split (elim (f.answer.1 h) [ inl k ↦ inr k | inr k ↦ inl (f.told.1 k) ]))),
  );
  rows = f.rows;
  grows = f.grows;
  room = f.room limit (omega arith) tt;
  enough = λ h. (search rules, (f.enough h).0);
}
  where
    either : (a b : Bool) → IsTrue (a || b) → IsTrue a ⊎ IsTrue b
    either true b h = inl h
    either false b h = inr h

    both : (a b : Bool) → IsTrue a ⊎ IsTrue b → IsTrue (a || b)
    both true b h = search rules
    both false b h = elim h [ inl k ↦ absurd (not_true k) | inr k ↦ k ]

-- ---- a side of a split
-- the rows that the side added are forgotten
pub followed_side : (lines : Lines) (known : List Row) (limit : ℕ) (result : Result Bool AllocError) (after : List Row) (limit' : ℕ) → IsFollowed lines known limit result after limit' → IsFollowed lines known limit result known limit'
followed_side lines known limit result after limit' f = record {
  answer = f.answer;
  rows = here result;
  grows = f.grows;
  room = f.room;
  enough = f.enough;
}
  where
    here : (result : Result Bool AllocError) → OnOk result (Extends known known)
    here (Ok b) = ([], append_nothing known)
    here (Err e) = tt

pub row_forgotten : (known after : List Row) (r : Row) (n : ℕ) → n ≡ length known → Extends (known ++ r ∷ []) after → take n after ≡ known
row_forgotten known after r n e x =
    ap (λ k. take k after) e ∙ ap (take (length known)) (x.1 ∙ append_assoc known (r ∷ []) x.0) ∙ take-append_seam known ((r ∷ []) ++ x.0)

pub no_shorter : (known after : List Row) (r : Row) → Extends (known ++ r ∷ []) after → length known ≤ length after
no_shorter known after r x = omega (arith, ap length x.1, length-append (known ++ r ∷ []) x.0, length-append known (r ∷ []))

-- ---- lists of lines as the code holds them
pub lines_left : (ls : List Line) (i : ℕ) (d : Line) → i < length ls → lines_of (drop i ls) ≡ before_lines (get_or ls i d) (lines_of (drop (i + 1) ls))
lines_left ls i d h =
    let e : drop i ls ≡ get_or ls i d ∷ drop (i + 1) ls = rw add-one (drop-cons ls i d h) in
    ap lines_of e

side_is : (m : _) (row : Row_of-Line m) → side_lines row ≡ lines_of (items-the_row-Line m row)
side_is _ end_of-Line = refl
side_is _ (more_of-Line l rest) = ap (before_lines l) (side_is _ rest)

abbrev low_of : Line → (n : Count) × Row_of-Line n
low_of (Split' ts k m low n high) = (_, low)
low_of _ = (_, end_of-Line)

abbrev high_of : Line → (n : Count) × Row_of-Line n
high_of (Split' ts k m low n high) = (_, high)
high_of _ = (_, end_of-Line)

pub split_lines : (ts : List Term) (k : ℤ) (low high : Vec Line Global) (rest : Lines) → before_lines (Split ts k low high) rest ≡ split ts k (lines_of low.items) (lines_of high.items) rest
split_lines ts k low high rest =
    let l = low_of (Split ts k low high) in
    let h = high_of (Split ts k low high) in
    let p = side_is l.0 l.1 ∙ ap lines_of (items_hidden-the_row-Line-0 low) in
    let q = side_is h.0 h.1 ∙ ap lines_of (items_hidden-the_row-Line-0 high) in
    ap (λ x. split ts k x (side_lines h.1) rest) p ∙ ap (λ x. split ts k (lines_of low.items) x rest) q

-- ---- how much there is to follow
abbrev pub weight : Lines → ℕ
weight last = 0
weight (combination pairs rest) = 1 + weight rest
weight (division i d rest) = 1 + weight rest
weight (split ts k low high rest) = 1 + weight low + weight high + weight rest

abbrev pub weight_of : Line → ℕ
weight_of l = weight (before_lines l last)

weight-before : (l : Line) (rest : Lines) → weight (before_lines l rest) ≡ weight_of l + weight rest
weight-before (Combine pairs) rest = omega arith
weight-before (Divide i d) rest = omega arith
weight-before (Split' ts k m low n high) rest = omega arith

pub weight_left : (ls : List Line) (i : ℕ) (d : Line) → i < length ls → weight (lines_of (drop i ls)) ≡ weight_of (get_or ls i d) + weight (lines_of (drop (i + 1) ls))
weight_left ls i d h = ap weight (lines_left ls i d h) ∙ weight-before (get_or ls i d) (lines_of (drop (i + 1) ls))

pub weight_split : (ts : List Term) (k : ℤ) (low high : Vec Line Global) → weight_of (Split ts k low high) ≡ 1 + weight (lines_of low.items) + weight (lines_of high.items)
weight_split ts k low high = ap weight (split_lines ts k low high last) ∙ step (weight (lines_of low.items)) (weight (lines_of high.items))
  where
    step : (a b : ℕ) → 1 + a + b + 0 ≡ 1 + a + b
    step a b = omega arith

pub taken_alike : (f g : Lines → Lines) (seen : Seen) (known : List Row) (limit : ℕ) (result : Result (Option Seen) AllocError) (after : List Row) (limit' : ℕ) → ((rest : Lines) → f rest ≡ g rest) → IsTaken g seen known limit result after limit' → IsTaken f seen known limit result after limit'
taken_alike f g seen known limit result after limit' h t =
    let same : f ≡ g = fun_ext h in
    subst (λ (k : Lines → Lines). IsTaken k seen known limit result after limit') (sym same) t
