-- One turn of reading lexemes.
use Rattle.std.proofs.Common.{◌≡◌, ℕ, zero, suc, ◌+◌, ◌<◌, ◌≤◌, Bool, false, List, [], ◌∷◌, ◌++◌, length, get_or, drop, map, Option, Some, None, refl, sym, ap, subst, ◌∙◌, arith, append_assoc}
use Rattle.std.proofs.lemmas.List.{append-nil, at_drop_all, at_drop_more, get_or-map, drop-map, drop-drop, length-map}
use Rattle.lt_token.specs.declared.lexeme.Role.{Role}
use Rattle.lt_token.specs.declared.lexeme.Role.TheVariants as role
use Rattle.lt_token.specs.Lexemes.{Lexeme}
use Rattle.lt_token.specs.Tokens as tok
use Rattle.lt_token.specs.Tokens.{Token, Refusal, Reads, role_of, trails_after, after_closing, depth_after, after_group, token_at, no_token, unsupported_word}
use Rattle.lt_lex.specs.declared.stop.LexStop.{LexStop}
use Rattle.lt_lex.specs.declared.stop.LexStop.TheVariants as stop
use Rattle.lt_lex.specs.Steps.{IsTaken, Refuses, StopsAt}

-- ---- parentheses

pub closing_step : (depth : ℕ) (l : Lexeme) (ls : List Lexeme) → 0 < depth → after_closing depth (l ∷ ls) ≡ after_closing (depth_after depth l) ls
closing_step zero l ls h = absurd (omega arith)
closing_step (suc depth) l ls h = refl

pub closing_end : (depth : ℕ) → 0 < depth → after_closing depth [] ≡ None
closing_end zero h = absurd (omega arith)
closing_end (suc depth) h = refl

pub closing_over : (depth : ℕ) (ls : List Lexeme) → depth ≡ 0 → after_closing depth ls ≡ Some ls
closing_over zero ls h = refl
closing_over (suc depth) ls h = absurd (omega arith)

-- ---- lexemes

-- whatever the rest reads completes the whole
abbrev pub GoesOn : List Lexeme → List Token → Bool → List Lexeme → Type 0
GoesOn whole done trails rest = (ts : List Token) (refusal : Option Refusal) → Reads trails rest ts refusal → Reads false whole (done ++ ts) refusal

pub goes_on : (whole : List Lexeme) (done new : List Token) (trails trails' : Bool) (l : Lexeme) (after rest : List Lexeme) (r : Role) → role_of trails l.sort l.text ≡ r
    → IsTaken r (after_group after) trails l after done new trails' rest → GoesOn whole done trails (l ∷ after) → GoesOn whole new trails' rest
goes_on whole done new trails trails' l after rest (role.Token k) is taken so_far ts refusal more =
    rw (taken.0, append_assoc done (token_at k l ∷ []) ts) (so_far (token_at k l ∷ ts) refusal (tok.token l k is (rw (← taken.1, ← taken.2) more)))
goes_on whole done new trails trails' l after rest role.Skipped is taken so_far ts refusal more =
    rw taken.0 (so_far ts refusal (tok.skips l is (rw (← taken.1, ← taken.2) more)))
goes_on whole done new trails trails' l after rest role.SkippedGroup is taken so_far ts refusal more =
    rw taken.0 (so_far ts refusal (tok.skips_group l rest is taken.2 (rw (← taken.1) more)))
goes_on whole done new trails trails' l after rest role.Unsupported is taken so_far ts refusal more = absurd taken
goes_on whole done new trails trails' l after rest role.Malformed is taken so_far ts refusal more = absurd taken

pub stops : (whole : List Lexeme) (done : List Token) (trails : Bool) (l : Lexeme) (after : List Lexeme) (r : Role) → role_of trails l.sort l.text ≡ r → (e : LexStop)
    → Refuses r (after_group after) l e → GoesOn whole done trails (l ∷ after) → StopsAt whole e
stops whole done trails l after role.SkippedGroup is (stop.Lex at) h so_far = (done ++ [], rw h.1 (so_far [] (Some (no_token l.at)) (tok.unbalanced l is h.0)))
stops whole done trails l after role.Malformed is (stop.Lex at) h so_far = (done ++ [], rw h (so_far [] (Some (no_token l.at)) (tok.malformed l is)))
stops whole done trails l after role.Unsupported is (stop.Unsupported word at) h so_far = (done ++ [], rw (h.0, h.1) (so_far [] (Some (unsupported_word l.text l.at)) (tok.refuses l is)))
stops whole done trails l after r is stop.NoMemory h so_far = tt
stops whole done trails l after r is e h so_far = absurd h

pub is_over : (whole : List Lexeme) (done : List Token) (trails : Bool) → GoesOn whole done trails [] → Reads false whole done None
is_over whole done trails so_far = subst (λ (ts : List Token). Reads false whole ts None) (append-nil done) (so_far [] None tok.ended)

-- ---- lexemes as they lie in memory

module _ {X : Type 0} (f : X → Lexeme) (xs : List X) (at : ℕ) (d : X) (h : at < length xs) where
  pub front : drop at (map f xs) ≡ f (get_or xs at d) ∷ drop (at + 1) (map f xs)
  front =
      at_drop_more (λ (ls : List Lexeme). ls) (map f xs) at (f d) (omega (arith, length-map xs f))
      ∙ ap (λ (l : Lexeme). l ∷ drop (at + 1) (map f xs)) (get_or-map f xs at d (f d) h)

  pub closing_turn : (depth depth' : ℕ) → 0 < depth → after_closing depth (drop at (map f xs)) ≡ after_closing 1 (map f xs)
      → depth' ≡ depth_after depth (f (get_or xs at d)) → after_closing depth' (drop (at + 1) (map f xs)) ≡ after_closing 1 (map f xs)
  closing_turn depth depth' some so is =
      ap (λ (n : ℕ). after_closing n (drop (at + 1) (map f xs))) is
      ∙ sym (closing_step depth (f (get_or xs at d)) (drop (at + 1) (map f xs)) some)
      ∙ sym (ap (after_closing depth) front) ∙ so

  -- the lexemes from this place on, first and rest
  split : (after : List X) → after ≡ drop (at + 1) xs → drop at (map f xs) ≡ f (get_or xs at d) ∷ map f after
  split after is = front ∙ ap (λ (ls : List Lexeme). f (get_or xs at d) ∷ ls) (drop-map f (at + 1) xs ∙ ap (map f) (sym is))

  pub turn : (done new : List Token) (trails trails' : Bool) (len : ℕ) (after : List X) → after ≡ drop (at + 1) xs
      → IsTaken (role_of trails (f (get_or xs at d)).sort (f (get_or xs at d)).text) (after_group (map f after)) trails (f (get_or xs at d)) (map f after) done new trails' (drop len (map f after))
      → GoesOn (map f xs) done trails (drop at (map f xs)) → GoesOn (map f xs) new trails' (drop (at + 1 + len) (map f xs))
  turn done new trails trails' len after is taken so_far =
      let left : drop len (map f after) ≡ drop (at + 1 + len) (map f xs) =
      ap (λ (ys : List X). drop len (map f ys)) is ∙ ap (drop len) (sym (drop-map f (at + 1) xs)) ∙ drop-drop len (at + 1) (map f xs) in
      let from = subst (GoesOn (map f xs) done trails) (split after is) so_far in
      subst (GoesOn (map f xs) new trails') left (
      goes_on (map f xs) done new trails trails' (f (get_or xs at d)) (map f after) (drop len (map f after)) (role_of trails (f (get_or xs at d)).sort (f (get_or xs at d)).text) refl taken from)

  pub stop_turn : (done : List Token) (trails : Bool) (after : List X) → after ≡ drop (at + 1) xs → (e : LexStop)
      → Refuses (role_of trails (f (get_or xs at d)).sort (f (get_or xs at d)).text) (after_group (map f after)) (f (get_or xs at d)) e
      → GoesOn (map f xs) done trails (drop at (map f xs)) → StopsAt (map f xs) e
  stop_turn done trails after is e refuses so_far =
      stops (map f xs) done trails (f (get_or xs at d)) (map f after) (role_of trails (f (get_or xs at d)).sort (f (get_or xs at d)).text) refl e refuses (subst (GoesOn (map f xs) done trails) (split after is) so_far)

pub is_over_at : {X : Type 0} (f : X → Lexeme) (xs : List X) (at : ℕ) (done : List Token) (trails : Bool) → length xs ≤ at → GoesOn (map f xs) done trails (drop at (map f xs)) → Reads false (map f xs) done None
is_over_at f xs at done trails h so_far =
    is_over (map f xs) done trails (subst (λ (ls : List Lexeme). GoesOn (map f xs) done trails ls) (at_drop_all (λ (ls : List Lexeme). ls) (map f xs) at (omega (arith, length-map xs f))) so_far)
