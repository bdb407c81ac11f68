-- The symbols of a text's tokens are read as what they stand for.
use Rattle.std.proofs.Common.{◌≡◌, ℕ, zero, suc, Bool, true, false, List, [], ◌∷◌, ◌++◌, Option, Some, None, refl, sym, ap, subst, ◌∙◌}
use Rattle.std.specs.Prelude.{if◌then◌else◌, ◌||◌}
use Rattle.std.specs.List.{All}
use Rattle.std.proofs.lemmas.List.Elements.{All-head, All-tail, All-cons, All-nil}
use Rattle.lt_token.specs.declared.piece.Class.{Class}
use Rattle.lt_token.specs.declared.piece.Class.TheVariants as class
use Rattle.lt_token.specs.declared.piece.Form.{Form}
use Rattle.lt_token.specs.declared.piece.Form.TheVariants as form
use Rattle.lt_token.specs.declared.kind.Kind.{Kind}
use Rattle.lt_token.specs.declared.kind.Kind.TheVariants as kind
use Rattle.lt_token.specs.declared.lexeme.Sort.{Sort}
use Rattle.lt_token.specs.declared.lexeme.Sort.TheVariants as sort
use Rattle.lt_token.specs.declared.lexeme.Role.{Role}
use Rattle.lt_token.specs.declared.lexeme.Role.TheVariants as role
use Rattle.lt_token.specs.Bytes.{class_of}
use Rattle.lt_token.specs.Words.{is_among, skipped, attributes, assemblers, unsupported, keywords, respelled}
use Rattle.lt_token.specs.Pieces.{is_piece_at, is_piece}
use Rattle.lt_token.specs.Lexemes as lex
use Rattle.lt_token.specs.Lexemes.{Lexeme, Cuts, sort_of, is_closed_text, is_floating}
use Rattle.lt_token.specs.Tokens as tok
use Rattle.lt_token.specs.Tokens.{Token, Refusal, Lexes, role_of, role_of_word, opens, depth_after, after_closing, after_group}
use Rattle.lt_tree.specs.declared.terminal.Terminal.{Terminal}
use Rattle.lt_tree.specs.declared.terminal.Terminal.TheVariants as k
use Rattle.lt_tree.specs.Symbols.{symbol_of, symbols, spelt, named, reserved}
use Rattle.lt_print.proofs.Cutting.{clash}
use Rattle.lt_print.proofs.CuttingQuotes.{IsByte}
use Rattle.lt_print.proofs.Clean.{IsIdentifier, integer, character}
use Rattle.lt_print.proofs.Spelt.{IsSpelt, AreSpelt}

-- ---- lexemes

abbrev Known : Sort → List ℕ → Type 0
Known sort.Word w = ((fresh : Bool) → is_piece fresh form.Word w ≡ true) × All IsByte w
Known sort.Integer w = ((fresh : Bool) → is_piece fresh form.Number w ≡ true) × (lex.is_integer w ≡ true) × All IsByte w
Known sort.Character w = ((fresh : Bool) → is_piece fresh form.Character w ≡ true) × All IsByte w
Known sort.Text w = All IsByte w
Known _ w = Unit {0}

abbrev AllKnown : List Lexeme → Type 0
AllKnown [] = Unit {0}
AllKnown (l ∷ ls) = Known l.sort l.text × AllKnown ls

-- only markers ask where they stand
same_word : (x y : Bool) (k : Class) (b : ℕ) (bs : List ℕ) → is_piece_at x form.Word k b bs ≡ is_piece_at y form.Word k b bs
same_word x y class.Letter b bs = refl
same_word x y k b bs = refl

same_number : (x y : Bool) (k : Class) (b : ℕ) (bs : List ℕ) → is_piece_at x form.Number k b bs ≡ is_piece_at y form.Number k b bs
same_number x y class.Digit b bs = refl
same_number x y class.Dot b bs = refl
same_number x y k b bs = refl

same_character : (x y : Bool) (k : Class) (b : ℕ) (bs : List ℕ) → is_piece_at x form.Character k b bs ≡ is_piece_at y form.Character k b bs
same_character x y class.Apostrophe b bs = refl
same_character x y k b bs = refl

word_anywhere : (x : Bool) (w : List ℕ) → is_piece x form.Word w ≡ true → (y : Bool) → is_piece y form.Word w ≡ true
word_anywhere x [] h y = absurd (clash false h refl)
word_anywhere x (b ∷ bs) h y = same_word y x (class_of b) b bs ∙ h

number_anywhere : (x : Bool) (w : List ℕ) → is_piece x form.Number w ≡ true → (y : Bool) → is_piece y form.Number w ≡ true
number_anywhere x [] h y = absurd (clash false h refl)
number_anywhere x (b ∷ bs) h y = same_number y x (class_of b) b bs ∙ h

character_anywhere : (x : Bool) (w : List ℕ) → is_piece x form.Character w ≡ true → (y : Bool) → is_piece y form.Character w ≡ true
character_anywhere x [] h y = absurd (clash false h refl)
character_anywhere x (b ∷ bs) h y = same_character y x (class_of b) b bs ∙ h

some_is : (x y : Sort) → Some x ≡ Some y → x ≡ y
some_is x y e = cc

as_sort : (x y : Sort) (w : List ℕ) → Some x ≡ Some y → Known x w → Known y w
as_sort x y w e = subst (λ (z : Sort). Known z w) (some_is x y e)

known_number : (y : Sort) (w : List ℕ) → ((fresh : Bool) → is_piece fresh form.Number w ≡ true) → All IsByte w → (i f : Bool) → lex.is_integer w ≡ i
    → Some (if i then sort.Integer else (if f then sort.Foreign else sort.Malformed)) ≡ Some y → Known y w
known_number y w is all true f e h = as_sort sort.Integer y w h (is, e, all)
known_number y w is all false true e h = as_sort sort.Foreign y w h tt
known_number y w is all false false e h = as_sort sort.Malformed y w h tt

known_text : (y : Sort) (w : List ℕ) → All IsByte w → (b : Bool) → Some (if b then sort.Text else sort.Malformed) ≡ Some y → Known y w
known_text y w all true h = as_sort sort.Text y w h all
known_text y w all false h = as_sort sort.Malformed y w h tt

maybe_none : (b : Bool) (y : Sort) (w : List ℕ) → (if b then None else Some sort.Malformed) ≡ Some y → Known y w
maybe_none true y w h = absurd cc
maybe_none false y w h = as_sort sort.Malformed y w h tt

known_piece : (fresh : Bool) (f : Form) (y : Sort) (w : List ℕ) → is_piece fresh f w ≡ true → All IsByte w → sort_of f w ≡ Some y → Known y w
known_piece fresh form.Word y w is all h = as_sort sort.Word y w h (word_anywhere fresh w is, all)
known_piece fresh form.Number y w is all h = known_number y w (number_anywhere fresh w is) all (lex.is_integer w) (is_floating w) refl h
known_piece fresh form.Character y w is all h = as_sort sort.Character y w h (character_anywhere fresh w is, all)
known_piece fresh form.Text y w is all h = known_text y w all (is_closed_text w) h
known_piece fresh form.Prefixed y w is all h = as_sort sort.Foreign y w h tt
known_piece fresh form.Punctuator y w is all h = as_sort sort.Punctuator y w h tt
known_piece fresh form.Blank y w is all h = absurd cc
known_piece fresh form.LineComment y w is all h = absurd cc
known_piece fresh form.BlockComment y w is all h = maybe_none (lex.is_closed w) y w h
known_piece fresh form.Marker y w is all h = maybe_none (lex.is_skipped_line w) y w h

parts_all : (xs ys : List ℕ) → All IsByte (xs ++ ys) → All IsByte xs × All IsByte ys
parts_all [] ys all = (All-nil IsByte, all)
parts_all (x ∷ xs) ys all =
    let rest = parts_all xs ys (All-tail IsByte x (xs ++ ys) all) in (All-cons IsByte x xs (All-head IsByte x (xs ++ ys) all) rest.0, rest.1)

known_cuts : {fresh : Bool} {at : ℕ} {text : List ℕ} {ls : List Lexeme} → Cuts fresh at text ls → All IsByte text → AllKnown ls
known_cuts lex.ended all = tt
known_cuts (lex.separator f piece rest long is cuts) all = known_cuts cuts (parts_all piece rest (subst (All IsByte) long.parts all)).1
known_cuts {fresh} (lex.lexeme f piece rest y long is cuts) all =
    let parts = parts_all piece rest (subst (All IsByte) long.parts all) in (known_piece fresh f y piece long.is_one parts.0 is, known_cuts cuts parts.1)
known_cuts (lex.stray {b} {text} none cuts) all = (tt, known_cuts cuts (All-tail IsByte b text all))

-- ---- tokens

-- a word's role, by the lists that it stands in
abbrev role_by : Bool → Bool → Bool → Bool → Bool → Bool → Role
role_by a b d trails e f =
    if a then role.Skipped
    else (if b then role.SkippedGroup
    else (if d then (if trails then role.SkippedGroup else role.Unsupported)
    else (if e then role.Unsupported
    else (if f then role.Token kind.Keyword
    else role.Token kind.Identifier))))

abbrev is_word_kind : Kind → Bool
is_word_kind kind.Identifier = true
is_word_kind kind.Keyword = true
is_word_kind _ = false

kind_of : (x y : Kind) → role.Token x ≡ role.Token y → x ≡ y
kind_of x y e = cc

word_kind : (a b d trails e f : Bool) (x : Kind) → role_by a b d trails e f ≡ role.Token x → is_word_kind x ≡ true
word_kind true b d trails e f x h = absurd cc
word_kind false true d trails e f x h = absurd cc
word_kind false false true true e f x h = absurd cc
word_kind false false true false e f x h = absurd cc
word_kind false false false trails true f x h = absurd cc
word_kind false false false trails false true x h = ap is_word_kind (sym (kind_of kind.Keyword x h))
word_kind false false false trails false false x h = ap is_word_kind (sym (kind_of kind.Identifier x h))

name_anywhere : (a b d trails e f : Bool) → role_by a b d trails e f ≡ role.Token kind.Identifier → (other : Bool) → role_by a b d other e f ≡ role.Token kind.Identifier
name_anywhere true b d trails e f h other = absurd cc
name_anywhere false true d trails e f h other = absurd cc
name_anywhere false false true true e f h other = absurd cc
name_anywhere false false true false e f h other = absurd cc
name_anywhere false false false trails true f h other = absurd cc
name_anywhere false false false trails false true h other = absurd cc
name_anywhere false false false trails false false h other = refl

role_is_by : (trails : Bool) (w : List ℕ) → role_of_word trails w ≡ role_by (is_among w skipped) (is_among w attributes) (is_among w assemblers) trails (is_among w unsupported) (is_among w keywords || is_among w respelled)
role_is_by trails w = refl

named_spelt : (x : Terminal) (w : List ℕ) (at : ℕ) → (x ≡ k.Other → IsIdentifier w) → IsSpelt (named x (record { kind = kind.Identifier; text = w; at = at }))
named_spelt k.Other w at h = h refl
named_spelt x w at h = tt

word_spelt : (trails : Bool) (x : Kind) (w : List ℕ) (at : ℕ) → Known sort.Word w → role_of_word trails w ≡ role.Token x
    → IsSpelt (symbol_of (record { kind = x; text = w; at = at }))
word_spelt trails kind.Identifier w at known h = named_spelt (spelt reserved w) w at
    (λ e. record {
      is_word = known.0;
      is_name = name_anywhere (is_among w skipped) (is_among w attributes) (is_among w assemblers) trails (is_among w unsupported) (is_among w keywords || is_among w respelled) h;
      unreserved = e;
      bytes = known.1;
    })
word_spelt trails kind.Keyword w at known h = tt
word_spelt trails kind.Punctuator w at known h = tt
word_spelt trails x w at known h =
    let e = word_kind (is_among w skipped) (is_among w attributes) (is_among w assemblers) trails (is_among w unsupported) (is_among w keywords || is_among w respelled) x h in absurd cc

symbol_spelt : (trails : Bool) (y : Sort) (x : Kind) (w : List ℕ) (at : ℕ) → Known y w → role_of trails y w ≡ role.Token x → IsSpelt (symbol_of (record { kind = x; text = w; at = at }))
symbol_spelt trails sort.Word x w at known h = word_spelt trails x w at known h
symbol_spelt trails sort.Integer kind.Integer w at known h = integer known.0 known.1 known.2
symbol_spelt trails sort.Integer x w at known h = absurd cc
symbol_spelt trails sort.Character kind.Character w at known h = character known.0 known.1
symbol_spelt trails sort.Character x w at known h = absurd cc
symbol_spelt trails sort.Text kind.Text w at known h = known
symbol_spelt trails sort.Text x w at known h = absurd cc
symbol_spelt trails sort.Punctuator kind.Punctuator w at known h = tt
symbol_spelt trails sort.Punctuator x w at known h = absurd cc
symbol_spelt trails sort.Foreign x w at known h = absurd cc
symbol_spelt trails sort.Malformed x w at known h = absurd cc

closing_known : (depth : ℕ) (ls rest : List Lexeme) → after_closing depth ls ≡ Some rest → AllKnown ls → AllKnown rest
closing_known zero ls rest e known = subst AllKnown (same ls rest e) known
  where
    same : (xs ys : List Lexeme) → Some xs ≡ Some ys → xs ≡ ys
    same xs ys e = cc
closing_known (suc depth) [] rest e known = absurd cc
closing_known (suc depth) (l ∷ ls) rest e known = closing_known (depth_after (suc depth) l) ls rest e known.1

group_known : (ls rest : List Lexeme) → after_group ls ≡ Some rest → AllKnown ls → AllKnown rest
group_known [] rest e known = absurd cc
group_known (l ∷ ls) rest e known = step (opens l) e
  where
    step : (b : Bool) → (if b then after_closing 1 ls else None) ≡ Some rest → AllKnown rest
    step true e = closing_known 1 ls rest e known.1
    step false e = absurd cc

reads_spelt : {trails : Bool} {ls : List Lexeme} {tokens : List Token} {refusal : Option Refusal} → tok.Reads trails ls tokens refusal → AllKnown ls → AreSpelt (symbols tokens)
reads_spelt tok.ended known = tt
reads_spelt {trails} (tok.token l x is rest) known = (symbol_spelt trails l.sort x l.text l.at known.0 is, reads_spelt rest known.1)
reads_spelt (tok.skips l is rest) known = reads_spelt rest known.1
reads_spelt (tok.skips_group {ls} l others is group rest) known = reads_spelt rest (group_known ls others group known.1)
reads_spelt (tok.unbalanced l is group) known = tt
reads_spelt (tok.refuses l is) known = tt
reads_spelt (tok.malformed l is) known = tt

-- The symbols of the tokens of a text of bytes.
pub are_spelt : (text : List ℕ) (tokens : List Token) (refusal : Option Refusal) → All IsByte text → Lexes text tokens refusal → AreSpelt (symbols tokens)
are_spelt text tokens refusal all lexes = reads_spelt lexes.reads (known_cuts lexes.cuts all)
