-- Pieces made of clean pieces are clean.
use Rattle.std.proofs.Common.{◌≡◌, ℕ, ◌<◌, Bool, true, false, eqb, ltb, List, [], ◌∷◌, ◌++◌, refl, sym, ap, subst, ◌∙◌, arith, append_assoc}
use Rattle.std.specs.Prelude.{◌&&◌, not, if◌then◌else◌}
use Rattle.std.proofs.lemmas.Bool.{and_parts, ltb-false, not-true}
use Rattle.lt_token.specs.Bytes.{class_of}
use Rattle.lt_token.specs.declared.piece.Class.{Class}
use Rattle.lt_token.specs.declared.piece.Class.TheVariants as class
use Rattle.lt_tree.specs.declared.terminal.Terminal.{Terminal}
use Rattle.lt_tree.specs.declared.terminal.Terminal.TheVariants as k
use Rattle.lt_tree.specs.Symbols.{spelling}
use Rattle.lt_tree.specs.Pieces.{word, gap, indent, line_end, text_of}
use Rattle.lt_tree.specs.Grammar.{Level}
use Rattle.lt_tree.specs.Canon.{Pieces, sign, name, spaced, comma_gap, apart, in_parentheses, placed, rank}
use Rattle.lt_print.proofs.Texts.{text_append}
use Rattle.lt_print.proofs.Cutting.{EndsWord, ends_word}
use Rattle.lt_print.proofs.CuttingConstants.{EndsConstant, ends_constant}
use Rattle.lt_print.proofs.Written.{is_other}
use Rattle.lt_print.proofs.Clean.{IsIdentifier, IfDigit, Ends, Clean}
use Rattle.lt_print.proofs.SignsClean.{is_closed, closed_ends, space_ends, NoEqual}

-- ---- the text behind

-- a blank or a sign other than `=`
abbrev pub is_soft : ℕ → Bool
is_soft b = ends_constant (class_of b) && not (eqb 61 b)

abbrev pub Soft : List ℕ → Type 0
Soft [] = Unit {0}
Soft (b ∷ t) = is_soft b ≡ true

constant_ends_word : (x : Class) → ends_constant x ≡ true → ends_word x ≡ true
constant_ends_word class.Blank h = refl
constant_ends_word class.Slash h = refl
constant_ends_word class.Sign h = refl
constant_ends_word x h = absurd cc

pub soft_word : (t : List ℕ) → Soft t → EndsWord t
soft_word [] h = tt
soft_word (b ∷ t) h = constant_ends_word (class_of b) (and_parts (ends_constant (class_of b)) (not (eqb 61 b)) h).0

soft_constant : (t : List ℕ) → Soft t → EndsConstant t
soft_constant [] h = tt
soft_constant (b ∷ t) h = (and_parts (ends_constant (class_of b)) (not (eqb 61 b)) h).0

pub soft_digit : (b : Bool) (t : List ℕ) → Soft t → IfDigit b t
soft_digit true t h = soft_constant t h
soft_digit false t h = tt

pub soft_equal : (t : List ℕ) → Soft t → NoEqual t
soft_equal [] h = tt
soft_equal (b ∷ t) h = not-true (eqb 61 b) (and_parts (ends_constant (class_of b)) (not (eqb 61 b)) h).1

-- pieces that are clean before such a text
abbrev pub Runs : Pieces → Type 0
Runs a = (t : List ℕ) → Soft t → Clean a t

-- ---- in a row

behind : (a b : Pieces) (t : List ℕ) → text_of a ++ (text_of b ++ t) ≡ text_of (a ++ b) ++ t
behind a b t = sym (append_assoc (text_of a) (text_of b) t) ∙ ap (λ (u : List ℕ). u ++ t) (sym (text_append a b))

pub clean_append : (a b : Pieces) (t : List ℕ) → Clean a (text_of b ++ t) → Clean b t → Clean (a ++ b) t
clean_append [] b t x y = y
clean_append (word w ∷ a) b t x y = (x.0, subst (Ends w) (behind a b t) x.1, clean_append a b t x.2 y)
clean_append (gap ∷ a) b t x y = clean_append a b t x y
clean_append (indent n ∷ a) b t x y = clean_append a b t x y
clean_append (line_end ∷ a) b t x y = clean_append a b t x y

no_other : (x : Terminal) → is_closed x ≡ true → is_other x ≡ false
no_other k.Other e = absurd cc
no_other x e = refl

pub closed_cons : (x : Terminal) (a : Pieces) (t : List ℕ) → is_closed x ≡ true → Clean a t → Clean (sign x ∷ a) t
closed_cons x a t e h = (no_other x e, closed_ends x (text_of a ++ t) e, h)

-- behind pieces stands a sign, which is soft
pub before_closed : (a : Pieces) (x : Terminal) (b : Pieces) (t : List ℕ) → is_closed x ≡ true → ((u : List ℕ) → Soft (spelling x ++ u)) → Runs a → Clean b t → Clean (a ++ sign x ∷ b) t
unfolding text_of
before_closed a x b t e soft runs h =
    clean_append a (sign x ∷ b) t (runs (text_of (sign x ∷ b) ++ t) (subst Soft (sym (append_assoc (spelling x) (text_of b) t)) (soft (text_of b ++ t)))) (closed_cons x b t e h)

pub spaced_alone : (x : Terminal) (t : List ℕ) → is_other x ≡ false → Clean (spaced x) t
unfolding text_of
spaced_alone x t e = (e, space_ends x t e, tt)

pub before_spaced : (a : Pieces) (x : Terminal) (t : List ℕ) → is_other x ≡ false → Runs a → Clean (a ++ spaced x) t
unfolding text_of
before_spaced a x t e runs = clean_append a (spaced x) t (runs (text_of (spaced x) ++ t) refl) (spaced_alone x t e)

pub before_comma : (a : Pieces) (t : List ℕ) → Runs a → Clean (a ++ comma_gap) t
before_comma a t runs = before_closed a k.Comma (gap ∷ []) t refl (λ u. refl) runs tt

pub name_clean : (w : List ℕ) (t : List ℕ) → IsIdentifier w → EndsWord t → Clean (name w ∷ []) t
unfolding text_of
name_clean w t good ends = (good, ends, tt)

-- ---- brackets

pub parentheses_clean : (a : Pieces) (t : List ℕ) → ((u : List ℕ) → Clean a (41 ∷ u)) → Clean (in_parentheses a) t
unfolding text_of
parentheses_clean a t h = closed_cons k.OpenParen (a ++ sign k.CloseParen ∷ []) t refl (clean_append a (sign k.CloseParen ∷ []) t (h t) (closed_cons k.CloseParen [] t refl tt))

pub in_parentheses_clean : (a : Pieces) (t : List ℕ) → Runs a → Clean (in_parentheses a) t
in_parentheses_clean a t runs = parentheses_clean a t (λ u. runs (41 ∷ u) refl)

pub placed_clean : (asked own : Level) (a : Pieces) (t : List ℕ) → ((u : List ℕ) → Clean a (41 ∷ u)) → Clean a t → Clean (placed asked own a) t
placed_clean asked own a t h x = step (ltb (rank own) (rank asked))
  where
    step : (b : Bool) → Clean (if b then in_parentheses a else a) t
    step true = parentheses_clean a t h
    step false = x

-- where the level asks for parentheses
enclosed_clean : (asked own : Level) (a : Pieces) (t : List ℕ) → rank own < rank asked → ((u : List ℕ) → Clean a (41 ∷ u)) → Clean (placed asked own a) t
enclosed_clean asked own a t less h = step (ltb (rank own) (rank asked)) refl
  where
    step : (b : Bool) → ltb (rank own) (rank asked) ≡ b → Clean (if b then in_parentheses a else a) t
    step true e = parentheses_clean a t h
    step false e = absurd (let le = ltb-false (rank own) (rank asked) e in omega (arith, less, le))

pub apart_clean : (a b : Pieces) (t : List ℕ) → Runs a → Clean b t → Soft t → Clean (apart a b) t
unfolding text_of
apart_clean a [] t runs h soft = runs t soft
apart_clean [] (x ∷ b) t runs h soft = h
apart_clean (y ∷ a) (x ∷ b) t runs h soft = clean_append (y ∷ a) (gap ∷ x ∷ b) t (runs (text_of (gap ∷ x ∷ b) ++ t) refl) h

pub placed_runs : (asked own : Level) (a : Pieces) → Runs a → Runs (placed asked own a)
placed_runs asked own a runs t soft = placed_clean asked own a t (λ u. runs (41 ∷ u) refl) (runs t soft)

pub enclosed_runs : (asked own : Level) (a : Pieces) (t : List ℕ) → rank own < rank asked → Runs a → Clean (placed asked own a) t
enclosed_runs asked own a t less runs = enclosed_clean asked own a t less (λ u. runs (41 ∷ u) refl)
