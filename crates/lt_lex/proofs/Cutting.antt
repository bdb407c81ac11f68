-- One turn of cutting a text.
use Rattle.std.proofs.Common.{◌≡◌, ℕ, ◌+◌, ◌-◌, ◌<◌, ◌≤◌, eqb, Bool, true, List, [], ◌∷◌, ◌++◌, length, take, drop, Option, Some, None, refl, sym, subst, arith, append_assoc}
use Rattle.std.proofs.lemmas.Bool.{eqb-true}
use Rattle.std.proofs.lemmas.List.{length-take, length-drop, append-nil}
use Rattle.lt_token.specs.declared.piece.Form.{Form}
use Rattle.lt_token.specs.declared.lexeme.Sort.{Sort}
use Rattle.lt_token.specs.declared.lexeme.Sort.TheVariants as sort
use Rattle.lt_token.specs.Lexemes as lex
use Rattle.lt_token.specs.Lexemes.{Lexeme, Cuts, sort_of, fresh_after}
use Rattle.lt_lex.specs.Front.{front, cut_at, first_cut}
use Rattle.lt_lex.specs.Views.{lexemes_of}
use Rattle.lt_lex.proofs.Sound.{front_is_longest, front_is_some, front_none}

-- whatever the rest is cut into completes the whole
abbrev pub GoesOn : List ℕ → List Lexeme → Bool → List ℕ → Type 0
GoesOn text done fresh rest = (ls : List Lexeme) → Cuts fresh (length text - length rest) rest ls → Cuts true 0 text (done ++ ls)

-- what is cut off the front goes before what the rest is cut into
pub record Cut (fresh : Bool) (text : List ℕ) (c : Option Sort × ℕ) : Type 0 where
  pub some : 0 < c.1
  pub fits : c.1 ≤ length text
  pub goes_on : (at : ℕ) (ls : List Lexeme) → Cuts (fresh_after fresh (take c.1 text)) (at + c.1) (drop c.1 text) ls → Cuts fresh at text (lexemes_of c.0 (take c.1 text) at ++ ls)

found : (fresh : Bool) (text : List ℕ) (f : Form) (n : ℕ) → front fresh text ≡ Some (f, n) → Cut fresh text (sort_of f (take n text), n)
found fresh text f n e =
    let s = front_is_some fresh text f n e in
    let size : length (take n text) ≡ n = omega (arith, length-take n text, s.1) in
    record {
      some = s.0;
      fits = s.1;
      goes_on = λ at ls more. step (sort_of f (take n text)) refl at ls (subst (λ (k : ℕ). Cuts (fresh_after fresh (take n text)) (at + k) (drop n text) ls) (sym size) more);
    }
  where
    step : (o : Option Sort) → sort_of f (take n text) ≡ o → (at : ℕ) (ls : List Lexeme) → Cuts (fresh_after fresh (take n text)) (at + length (take n text)) (drop n text) ls → Cuts fresh at text (lexemes_of o (take n text) at ++ ls)
    step None is at ls more = lex.separator f (take n text) (drop n text) (front_is_longest fresh text f n e) is more
    step (Some s) is at ls more = lex.lexeme f (take n text) (drop n text) s (front_is_longest fresh text f n e) is more

stray : (fresh : Bool) (b : ℕ) (bs : List ℕ) → front fresh (b ∷ bs) ≡ None → Cut fresh (b ∷ bs) (Some sort.Malformed, 1)
stray fresh b bs e = record { some = omega arith; fits = omega arith; goes_on = λ at ls more. lex.stray (front_none fresh (b ∷ bs) e) more }

pub is_cut : (fresh : Bool) (text : List ℕ) → 0 < length text → Cut fresh text (first_cut fresh text)
unfolding first_cut
is_cut fresh [] some = absurd (omega arith)
is_cut fresh (b ∷ bs) some = step (front fresh (b ∷ bs)) refl
  where
    step : (o : Option (Form × ℕ)) → front fresh (b ∷ bs) ≡ o → Cut fresh (b ∷ bs) (cut_at o (b ∷ bs))
    step None e = stray fresh b bs e
    step (Some x) e = found fresh (b ∷ bs) x.0 x.1 e

pub goes_on : (text : List ℕ) (done new : List Lexeme) (fresh : Bool) (rest : List ℕ) (c : Option Sort × ℕ) → length rest ≤ length text → 0 < length rest → c ≡ first_cut fresh rest
    → new ≡ done ++ lexemes_of c.0 (take c.1 rest) (length text - length rest) → GoesOn text done fresh rest → GoesOn text new (fresh_after fresh (take c.1 rest)) (drop c.1 rest)
goes_on text done new fresh rest c fits some is taken so_far ls more =
    let cut : Cut fresh rest c = subst (Cut fresh rest) (sym is) (is_cut fresh rest some) in
    let place : length text - length (drop c.1 rest) ≡ length text - length rest + c.1 = omega (arith, length-drop c.1 rest, cut.fits) in
    rw (taken, append_assoc done (lexemes_of c.0 (take c.1 rest) (length text - length rest)) ls) (
    so_far (lexemes_of c.0 (take c.1 rest) (length text - length rest) ++ ls) (cut.goes_on (length text - length rest) ls (rw (← place) more)))

pub is_over : (text : List ℕ) (done : List Lexeme) (fresh : Bool) (rest : List ℕ) → eqb (length rest) 0 ≡ true → GoesOn text done fresh rest → Cuts true 0 text done
is_over text done fresh [] none so_far = subst (λ (ls : List Lexeme). Cuts true 0 text ls) (append-nil done) (so_far [] (subst (λ (k : ℕ). Cuts fresh k [] []) refl lex.ended))
is_over text done fresh (b ∷ bs) none so_far = absurd (omega (arith, eqb-true (length (b ∷ bs)) 0 none))
