-- The tokens of a text are slices of it, in order, and don't overlap.
use Rattle.std.proofs.Common.{◌≡◌, ℕ, zero, suc, ◌+◌, ◌-◌, ◌<◌, ◌≤◌, Bool, true, false, cond, List, [], ◌∷◌, ◌++◌, length, take, drop, Option, Some, None, refl, sym, ap, subst, ◌∙◌, arith}
use Rattle.std.proofs.Props.{props}
use Rattle.std.proofs.lemmas.List.{take_at, drop_at, drop-drop, length-append, length-drop}
use Rattle.lt_token.specs.declared.piece.Form.{Form}
use Rattle.lt_token.specs.Pieces.{is_piece}
use Rattle.lt_token.specs.Lexemes as lex
use Rattle.lt_token.specs.Lexemes.{Lexeme, Cuts, sort_of, fresh_after}
use Rattle.lt_token.specs.Tokens as tok
use Rattle.lt_token.specs.Tokens.{Token, Refusal, Reads, Lexes, ArePlaced, AreApart, opens, depth_after, after_closing, after_group}

-- the same of lexemes
abbrev Placed : List ℕ → ℕ → List Lexeme → Type 0
Placed source from [] = from ≤ length source
Placed source from (l ∷ ls) =
    (from ≤ l.at) × (0 < length l.text) × (l.text ≡ take (length l.text) (drop l.at source)) × Placed source (l.at + length l.text) ls

earlier : (source : List ℕ) (from to : ℕ) (ls : List Lexeme) → from ≤ to → Placed source to ls → Placed source from ls
earlier source from to [] h p = omega arith
earlier source from to (l ∷ ls) h p = (omega (arith, p.0), p.1, p.2, p.3)

-- behind its head
behind : (source : List ℕ) (from : ℕ) (l : Lexeme) (ls : List Lexeme) → Placed source from (l ∷ ls) → Placed source from ls
behind source from l ls p = earlier source from (l.at + length l.text) ls (omega (arith, p.0)) p.3

piece_some : (fresh : Bool) (f : Form) (w : List ℕ) → is_piece fresh f w ≡ true → 0 < length w
piece_some fresh f [] h = absurd cc
piece_some fresh f (b ∷ bs) h = omega arith

-- the place and the text behind a piece
moved : (source : List ℕ) (at : ℕ) (p r : List ℕ) → at ≤ length source → p ++ r ≡ drop at source → (at + length p ≤ length source) × (r ≡ drop (at + length p) source) × (p ≡ take (length p) (drop at source))
moved source at p r within is =
    let sizes : length p + length r ≡ length source - at = sym (length-append p r) ∙ ap length is ∙ length-drop at source in
    (omega arith, sym (drop_at p r (length p) refl) ∙ ap (drop (length p)) is ∙ drop-drop (length p) at source, sym (take_at p r (length p) refl) ∙ ap (take (length p)) is)

cut_placed : {fresh : Bool} {at : ℕ} {text : List ℕ} {ls : List Lexeme} (source : List ℕ) → at ≤ length source → text ≡ drop at source → Cuts fresh at text ls → Placed source at ls
cut_placed source within is lex.ended = within
cut_placed {at} {ls} source within is (lex.separator f p r l s more) =
    let m = moved source at p r within (sym l.parts ∙ is) in
    earlier source at (at + length p) ls (omega arith) (cut_placed source m.0 m.1 more)
cut_placed {at} source within is (lex.lexeme f p r k l s more) =
    let m = moved source at p r within (sym l.parts ∙ is) in
    (omega arith, piece_some _ f p l.is_one, m.2, cut_placed source m.0 m.1 more)
cut_placed {at} source within is (lex.stray {b} {text} none more) =
    let m = moved source at (b ∷ []) text within is in
    (omega arith, omega arith, m.2, cut_placed source m.0 m.1 more)

some_is : (x y : List Lexeme) → Some x ≡ Some y → x ≡ y
some_is x y e = cc

closing_placed : (source : List ℕ) (from depth : ℕ) (ls rest : List Lexeme) → after_closing depth ls ≡ Some rest → Placed source from ls → Placed source from rest
closing_placed source from zero ls rest e p = subst (Placed source from) (some_is ls rest e) p
closing_placed source from (suc depth) [] rest e p = absurd cc
closing_placed source from (suc depth) (l ∷ ls) rest e p = closing_placed source from (depth_after (suc depth) l) ls rest e (behind source from l ls p)

group_placed : (source : List ℕ) (from : ℕ) (ls rest : List Lexeme) → after_group ls ≡ Some rest → Placed source from ls → Placed source from rest
group_placed source from [] rest e p = absurd cc
group_placed source from (l ∷ ls) rest e p = step (opens l) e
  where
    step : (t : Bool) → cond t (after_closing 1 ls) None ≡ Some rest → Placed source from rest
    step true h = closing_placed source from 1 ls rest h (behind source from l ls p)
    step false h = absurd cc

limit : (source : List ℕ) (from : ℕ) (ls : List Lexeme) → Placed source from ls → from ≤ length source
limit source from [] p = p
limit source from (l ∷ ls) p = let h = limit source (l.at + length l.text) ls p.3 in omega (arith, p.0)

read_placed : {trails : Bool} {ls : List Lexeme} {ts : List Token} {r : Option Refusal} (source : List ℕ) (from : ℕ) → Placed source from ls → Reads trails ls ts r → ArePlaced source from ts
read_placed source from p tok.ended = p
read_placed source from p (tok.token l k is d) = (p.0, p.1, p.2, read_placed source (l.at + length l.text) p.3 d)
read_placed source from p (tok.skips {ls} l is d) = read_placed source from (behind source from l ls p) d
read_placed source from p (tok.skips_group {ls} l rest is group d) = read_placed source from (group_placed source from ls rest group (behind source from l ls p)) d
read_placed source from p (tok.unbalanced {ls} l is group) = limit source from (l ∷ ls) p
read_placed source from p (tok.refuses {ls} l is) = limit source from (l ∷ ls) p
read_placed source from p (tok.malformed {ls} l is) = limit source from (l ∷ ls) p

pub are_placed : (text : List ℕ) (tokens : List Token) (refusal : Option Refusal) → Lexes text tokens refusal → ArePlaced text 0 tokens
are_placed text tokens refusal a = read_placed text 0 (cut_placed text (omega arith) refl a.cuts) a.reads

pub apart : (source : List ℕ) (from : ℕ) (ts : List Token) → ArePlaced source from ts → AreApart from ts (length source)
apart source from [] p = p
apart source from (t ∷ ts) p = (p.0, p.1, apart source (t.at + length t.text) ts p.3)

pub AreApart-IsProp : (from : ℕ) (ts : List Token) (end : ℕ) → IsProp (AreApart from ts end)
AreApart-IsProp from [] end = hlevel props
AreApart-IsProp from (t ∷ ts) end = let more = AreApart-IsProp (t.at + length t.text) ts end in hlevel (props, more)
