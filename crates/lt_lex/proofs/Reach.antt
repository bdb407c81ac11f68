-- How far the parts of a literal, a comment or a constant reach.
use Rattle.std.proofs.Common.{◌≡◌, ℕ, suc, ◌+◌, ◌<◌, ◌≤◌, Bool, true, false, cond, List, [], ◌∷◌, ◌++◌, length, get_or, take, drop, Option, Some, None, refl, sym, ap, ◌∙◌, arith, ◌⊎◌, inl, inr}
use Rattle.std.specs.Option.{IfSome}
use Rattle.std.proofs.lemmas.List.{at_drop_more, at_drop_all}
use Rattle.lt_token.specs.declared.piece.Part.{Part}
use Rattle.lt_token.specs.declared.piece.Part.TheVariants as part
use Rattle.lt_token.specs.Parts.{after, is_whole, is_whole_after, is_closed_end, ends_at}
use Rattle.lt_lex.specs.Front.{latest, reach}

-- from nothing no piece goes on
pub no_further : (at : ℕ) (best : Option ℕ) (bs : List ℕ) → reach part.Nothing at best bs ≡ best
no_further at best [] = refl
no_further at best (b ∷ bs) = no_further (at + 1) best bs

-- what is reached: the best before, or a place behind bytes that may end
pub record Reached (p : Part) (at : ℕ) (bs : List ℕ) (end : ℕ) : Type 0 where
  pub len : ℕ
  pub is_end : end ≡ at + len
  pub fits : len ≤ length bs
  pub is_one : is_whole_after p (take len bs) ≡ true

pub reached : (p : Part) (at : ℕ) (best : Option ℕ) (bs : List ℕ) (end : ℕ) → reach p at best bs ≡ Some end → (best ≡ Some end) ⊎ Reached p at bs end
reached p at best [] end h = step (is_whole p) refl h
  where
    step : (t : Bool) → is_whole p ≡ t → cond t (Some at) best ≡ Some end → (best ≡ Some end) ⊎ Reached p at [] end
    step true e k = let s : at ≡ end = cc in inr (record { len = 0; is_end = omega (arith, s); fits = omega arith; is_one = e })
    step false e k = inl k
reached p at best (b ∷ bs) end h = step (is_whole p) refl (reached (after p b) (at + 1) (latest p at best) bs end h)
  where
    step : (t : Bool) → is_whole p ≡ t → (cond t (Some at) best ≡ Some end) ⊎ Reached (after p b) (at + 1) bs end → (best ≡ Some end) ⊎ Reached p at (b ∷ bs) end
    step t e (inr r) = inr (record { len = suc r.len; is_end = omega (arith, r.is_end); fits = omega (arith, r.fits); is_one = r.is_one })
    step true e (inl k) = let s : at ≡ end = cc in inr (record { len = 0; is_end = omega (arith, s); fits = omega arith; is_one = e })
    step false e (inl k) = inl k

none_some : (end : ℕ) → None ≡ Some end → ⊥
none_some end e = cc

pub reached_new : (p : Part) (at : ℕ) (bs : List ℕ) (end : ℕ) → reach p at None bs ≡ Some end → Reached p at bs end
reached_new p at bs end h = elim (reached p at None bs end h) [ inl e ↦ absurd (none_some end e) | inr r ↦ r ]

pub within : (p : Part) (at : ℕ) (bs : List ℕ) (o : Option ℕ) → o ≡ reach p at None bs → IfSome o (λ end. end ≤ at + length bs)
within p at bs None h = tt
within p at bs (Some end) h = let r = reached_new p at bs end (sym h) in omega (arith, r.is_end, r.fits)

-- the reach is at least this long
pub record Far (o : Option ℕ) (least : ℕ) : Type 0 where
  pub end : ℕ
  pub is_some : o ≡ Some end
  pub long : least ≤ end

-- what was reached isn't lost
keeps : (p : Part) (at best : ℕ) (bs : List ℕ) → best ≤ at → Far (reach p at (Some best) bs) best
keeps p at best [] h = step (is_whole p)
  where
    step : (t : Bool) → Far (cond t (Some at) (Some best)) best
    step true = record { end = at; is_some = refl; long = h }
    step false = record { end = best; is_some = refl; long = omega arith }
keeps p at best (b ∷ bs) h = step (is_whole p) (keeps (after p b) (at + 1) best bs (omega arith)) (keeps (after p b) (at + 1) at bs (omega arith))
  where
    step : (t : Bool) → Far (reach (after p b) (at + 1) (Some best) bs) best → Far (reach (after p b) (at + 1) (Some at) bs) at → Far (reach (after p b) (at + 1) (cond t (Some at) (Some best)) bs) best
    step true x y = record { end = y.end; is_some = y.is_some; long = omega (arith, y.long) }
    step false x y = x

-- from a part that may end the reach goes at least to this place
pub reaches : (p : Part) (at : ℕ) (best : Option ℕ) (bs : List ℕ) → is_whole p ≡ true → Far (reach p at best bs) at
reaches p at best [] h = rw h (record { end = at; is_some = refl; long = omega arith })
reaches p at best (b ∷ bs) h = rw h (keeps (after p b) (at + 1) at bs (omega arith))

-- each piece at the front is covered
pub covers : (p : Part) (at : ℕ) (best : Option ℕ) (other rest : List ℕ) → is_whole_after p other ≡ true → Far (reach p at best (other ++ rest)) (at + length other)
covers p at best [] rest h = let r = reaches p at best rest h in record { end = r.end; is_some = r.is_some; long = omega (arith, r.long) }
covers p at best (b ∷ bs) rest h =
    let r = covers (after p b) (at + 1) (latest p at best) bs rest h in
    record { end = r.end; is_some = r.is_some; long = omega (arith, r.long) }

-- where nothing goes on, the best so far is the reach
pub stops : (p first : Part) (from at : ℕ) (best : Option ℕ) (text : List ℕ) → at < length text → reach p (from + at) best (drop at text) ≡ reach first from None text
    → after p (get_or text at 0) ≡ part.Nothing → latest p (from + at) best ≡ reach first from None text
stops p first from at best text h so is =
    let e = at_drop_more (reach p (from + at) best) text at 0 h in
    sym (e ∙ ap (λ (q : Part). reach q (from + at + 1) (latest p (from + at) best) (drop (at + 1) text)) is ∙ no_further (from + at + 1) (latest p (from + at) best) (drop (at + 1) text)) ∙ so

-- and at the end of the text
pub is_reached : (p first : Part) (from at : ℕ) (best : Option ℕ) (text : List ℕ) → at ≡ length text → reach p (from + at) best (drop at text) ≡ reach first from None text
    → latest p (from + length text) best ≡ reach first from None text
is_reached p first from at best text e so =
    ap (λ (n : ℕ). latest p (from + n) best) (sym e) ∙ sym (at_drop_all (reach p (from + at) best) text at (omega arith)) ∙ so

-- what is closed goes no further
pub reach_closed : (p : Part) (at : ℕ) (best : Option ℕ) (other rest : List ℕ) → ends_at p other ≡ part.Closed → reach p at best (other ++ rest) ≡ Some (at + length other)
reach_closed p at best [] [] h = rw h (ap Some (omega arith))
reach_closed p at best [] (c ∷ rest) h = rw h (no_further (at + 1) (Some at) rest ∙ ap Some (omega arith))
reach_closed p at best (b ∷ bs) rest h = reach_closed (after p b) (at + 1) (latest p at best) bs rest h ∙ ap Some (omega arith)

pub closed_is : (p : Part) → is_closed_end p ≡ true → p ≡ part.Closed
closed_is part.Closed h = refl
closed_is p h = absurd cc
