-- Pieces whose words stand clear of what follows them are cut into these words.
use Rattle.std.proofs.Common.{◌≡◌, ℕ, ◌+◌, ◌*◌, Bool, true, false, List, [], ◌∷◌, ◌++◌, length, Some, None, refl, sym, ap, subst, ◌∙◌}
use Rattle.std.specs.Prelude.{if◌then◌else◌, replicate}
use Rattle.std.specs.List.{All}
use Rattle.std.proofs.lemmas.List.{append-nil}
use Rattle.lt_token.specs.declared.kind.Kind.{Kind}
use Rattle.lt_token.specs.declared.kind.Kind.TheVariants as kind
use Rattle.lt_token.specs.declared.piece.Form.{Form}
use Rattle.lt_token.specs.declared.piece.Form.TheVariants as form
use Rattle.lt_token.specs.declared.lexeme.Sort.{Sort}
use Rattle.lt_token.specs.declared.lexeme.Sort.TheVariants as sort
use Rattle.lt_token.specs.declared.lexeme.Role.TheVariants as role
use Rattle.lt_token.specs.Bytes.{class_of}
use Rattle.lt_token.specs.Words.{word_of}
use Rattle.lt_token.specs.Pieces.{is_piece, Longest}
use Rattle.lt_token.specs.Lexemes as lex
use Rattle.lt_token.specs.Lexemes.{Lexeme, Cuts, sort_of, fresh_after}
use Rattle.lt_token.specs.Tokens as tok
use Rattle.lt_token.specs.Tokens.{Token, role_of, role_of_word, trails_after}
use Rattle.lt_tree.specs.declared.terminal.Terminal.{Terminal}
use Rattle.lt_tree.specs.declared.terminal.Terminal.TheVariants as k
use Rattle.lt_tree.specs.Symbols as s
use Rattle.lt_tree.specs.Symbols.{Symbol, symbol_of, symbols, spelling, spelt, named, keywords, punctuators, reserved}
use Rattle.lt_tree.specs.Pieces as p
use Rattle.lt_tree.specs.Pieces.{Word, Piece, word, gap, indent, line_end, quoted, written, text_of}
use Rattle.lt_tree.specs.Canon.{Pieces}
use Rattle.lt_tree_laws.proofs.QuotedStrings.{read_back}
use Rattle.lt_print.proofs.ReadPieces.{Reads, done, a_name, a_constant, a_literal, a_sign, a_gap, an_indent, a_line_end}
use Rattle.lt_print.proofs.Cutting.{ends_word, EndsWord, word_longest}
use Rattle.lt_print.proofs.CuttingMarks.{is_clear, IsClearOf, mark_longest}
use Rattle.lt_print.proofs.CuttingBlanks.{blank, spaces}
use Rattle.lt_print.proofs.CuttingConstants.{EndsConstant, integer_longest, begins_digit, integer_begins}
use Rattle.lt_print.proofs.CuttingQuotes.{IsByte, character_longest, string_longest, string_sort}
use Rattle.lt_print.proofs.Written.{begins_word, is_other, IsWritten, a_punctuator, a_keyword, a_mark_name, written_as}

-- ---- words that are read as what they stand for

pub record IsIdentifier (w : List ℕ) : Type 0 where
  pub is_word : (fresh : Bool) → is_piece fresh form.Word w ≡ true
  pub is_name : (trails : Bool) → role_of_word trails w ≡ role.Token kind.Identifier
  pub unreserved : spelt reserved w ≡ k.Other
  pub bytes : All IsByte w

pub data IsConstant (w : List ℕ) : Type 0 where
  integer : ((fresh : Bool) → is_piece fresh form.Number w ≡ true) → lex.is_integer w ≡ true → All IsByte w → IsConstant w
  character : ((fresh : Bool) → is_piece fresh form.Character w ≡ true) → All IsByte w → IsConstant w

abbrev pub IsGood : Word → Type 0
IsGood (p.name w) = IsIdentifier w
IsGood (p.constant w) = IsConstant w
IsGood (p.literal bytes) = All IsByte bytes
IsGood (p.sign x) = is_other x ≡ false

-- ---- words that stand clear of the text behind them

-- a byte behind the sign that is written so
abbrev pub ends_sign : List ℕ → ℕ → Bool
ends_sign w b = if begins_word w then ends_word (class_of b) else is_clear w b

abbrev pub EndsSign : List ℕ → List ℕ → Type 0
EndsSign w [] = Unit {0}
EndsSign w (b ∷ t) = ends_sign w b ≡ true

abbrev pub IfDigit : Bool → List ℕ → Type 0
IfDigit true t = EndsConstant t
IfDigit false t = Unit {0}

abbrev pub Ends : Word → List ℕ → Type 0
Ends (p.name w) t = EndsWord t
Ends (p.constant w) t = IfDigit (begins_digit w) t
Ends (p.literal bytes) t = Unit {0}
Ends (p.sign x) t = EndsSign (spelling x) t

-- Each word among the pieces is read, and stands clear of the pieces behind it and the text after them.
abbrev pub Clean : Pieces → List ℕ → Type 0
Clean [] after = Unit {0}
Clean (word w ∷ ps) after = IsGood w × Ends w (text_of ps ++ after) × Clean ps after
Clean (gap ∷ ps) after = Clean ps after
Clean (indent n ∷ ps) after = Clean ps after
Clean (line_end ∷ ps) after = Clean ps after

-- ---- one word

record Cut (w : Word) (t : List ℕ) (fresh trails : Bool) : Type 0 where
  piece_form : Form
  piece_sort : Sort
  token_kind : Kind
  long : Longest fresh (written w ++ t) piece_form (written w) t
  sort_is : sort_of piece_form (written w) ≡ Some piece_sort
  role_is : role_of trails piece_sort (written w) ≡ role.Token token_kind
  reads : (at : ℕ) (ps : Pieces) (us rest : List Symbol) → Reads ps us rest → Reads (word w ∷ ps) (symbol_of (record { kind = token_kind; text = written w; at = at }) ∷ us) rest

read_as : {w : Word} {ps : Pieces} (x y : Symbol) {us rest : List Symbol} → x ≡ y → Reads (word w ∷ ps) (x ∷ us) rest → Reads (word w ∷ ps) (y ∷ us) rest
read_as {w} {ps} x y {us} {rest} e = subst (λ (z : Symbol). Reads (word w ∷ ps) (z ∷ us) rest) e

cut_name : (w t : List ℕ) (fresh trails : Bool) → IsIdentifier w → EndsWord t → Cut (p.name w) t fresh trails
cut_name w t fresh trails good ends = record {
  piece_form = form.Word;
  piece_sort = sort.Word;
  token_kind = kind.Identifier;
  long = word_longest fresh w t (good.is_word fresh) ends;
  sort_is = refl;
  role_is = good.is_name trails;
  reads = λ at ps us rest r. read_as (s.name w at) (named (spelt reserved w) (record { kind = kind.Identifier; text = w; at = at }))
      (ap (λ (x : Terminal). named x (record { kind = kind.Identifier; text = w; at = at })) (sym good.unreserved)) (a_name r);
}

cut_integer : (w t : List ℕ) (fresh trails : Bool) → ((fresh : Bool) → is_piece fresh form.Number w ≡ true) → lex.is_integer w ≡ true → IfDigit (begins_digit w) t → Cut (p.constant w) t fresh trails
cut_integer w t fresh trails is i ends = record {
  piece_form = form.Number;
  piece_sort = sort.Integer;
  token_kind = kind.Integer;
  long = integer_longest fresh w t (is fresh) i (subst (λ (b : Bool). IfDigit b t) (integer_begins fresh w (is fresh) i) ends);
  sort_is = ap (λ (b : Bool). Some (if b then sort.Integer else (if lex.is_floating w then sort.Foreign else sort.Malformed))) i;
  role_is = refl;
  reads = λ at ps us rest r. a_constant r;
}

cut_character : (w t : List ℕ) (fresh trails : Bool) → ((fresh : Bool) → is_piece fresh form.Character w ≡ true) → Cut (p.constant w) t fresh trails
cut_character w t fresh trails is = record {
  piece_form = form.Character;
  piece_sort = sort.Character;
  token_kind = kind.Character;
  long = character_longest fresh w t (is fresh);
  sort_is = refl;
  role_is = refl;
  reads = λ at ps us rest r. a_constant r;
}

cut_literal : (bytes t : List ℕ) (fresh trails : Bool) → All IsByte bytes → Cut (p.literal bytes) t fresh trails
cut_literal bytes t fresh trails good = record {
  piece_form = form.Text;
  piece_sort = sort.Text;
  token_kind = kind.Text;
  long = string_longest fresh bytes t good;
  sort_is = string_sort bytes good;
  role_is = refl;
  reads = λ at ps us rest r. a_literal (read_back bytes good) r;
}

ends_mark : (w t : List ℕ) → begins_word w ≡ false → EndsSign w t → IsClearOf w t
ends_mark w [] e h = tt
ends_mark w (b ∷ t) e h = ap (λ (v : Bool). if v then ends_word (class_of b) else is_clear w b) (sym e) ∙ h

ends_keyword : (w t : List ℕ) → begins_word w ≡ true → EndsSign w t → EndsWord t
ends_keyword w [] e h = tt
ends_keyword w (b ∷ t) e h = ap (λ (v : Bool). if v then ends_word (class_of b) else is_clear w b) (sym e) ∙ h

cut_sign : (x : Terminal) (t : List ℕ) (fresh trails : Bool) → IsWritten x → EndsSign (spelling x) t → Cut (p.sign x) t fresh trails
cut_sign x t fresh trails (a_punctuator b is back) ends = record {
  piece_form = form.Punctuator;
  piece_sort = sort.Punctuator;
  token_kind = kind.Punctuator;
  long = mark_longest fresh (spelling x) t is (ends_mark (spelling x) t b ends);
  sort_is = refl;
  role_is = refl;
  reads = λ at ps us rest r. read_as (s.sign x at) (s.sign (spelt punctuators (spelling x)) at) (ap (λ (y : Terminal). s.sign y at) (sym back)) (a_sign r);
}
cut_sign x t fresh trails (a_keyword b is role back) ends = record {
  piece_form = form.Word;
  piece_sort = sort.Word;
  token_kind = kind.Keyword;
  long = word_longest fresh (spelling x) t (is fresh) (ends_keyword (spelling x) t b ends);
  sort_is = refl;
  role_is = role trails;
  reads = λ at ps us rest r. read_as (s.sign x at) (s.sign (spelt keywords (word_of (spelling x))) at) (ap (λ (y : Terminal). s.sign y at) (sym back)) (a_sign r);
}
cut_sign x t fresh trails (a_mark_name b is role back) ends = record {
  piece_form = form.Word;
  piece_sort = sort.Word;
  token_kind = kind.Identifier;
  long = word_longest fresh (spelling x) t (is fresh) (ends_keyword (spelling x) t b ends);
  sort_is = refl;
  role_is = role trails;
  reads = λ at ps us rest r. read_as (s.sign x at) (named (spelt reserved (spelling x)) (record { kind = kind.Identifier; text = spelling x; at = at })) (sym (back (record { kind = kind.Identifier; text = spelling x; at = at }))) (a_sign r);
}

cut_word : (w : Word) (t : List ℕ) (fresh trails : Bool) → IsGood w → Ends w t → Cut w t fresh trails
cut_word (p.name w) t fresh trails good ends = cut_name w t fresh trails good ends
cut_word (p.constant w) t fresh trails (integer is i all) ends = cut_integer w t fresh trails is i ends
cut_word (p.constant w) t fresh trails (character is all) ends = cut_character w t fresh trails is
cut_word (p.literal bytes) t fresh trails good ends = cut_literal bytes t fresh trails good
cut_word (p.sign x) t fresh trails good ends = cut_sign x t fresh trails (written_as x good) ends

-- ---- all words

-- what the text of pieces is cut into, from this place on
pub record Lexed (ps : Pieces) (fresh trails : Bool) (at : ℕ) : Type 0 where
  pub lexemes : List Lexeme
  pub tokens : List Token
  pub cuts : Cuts fresh at (text_of ps) lexemes
  pub reads : tok.Reads trails lexemes tokens None
  pub pieces : Reads ps (symbols tokens) []

pub lexed : (ps : Pieces) → Clean ps [] → (fresh trails : Bool) (at : ℕ) → Lexed ps fresh trails at
unfolding text_of
lexed [] clean fresh trails at = record { lexemes = []; tokens = []; cuts = lex.ended; reads = tok.ended; pieces = done }
lexed (word w ∷ ps) clean fresh trails at =
    let c = cut_word w (text_of ps) fresh trails clean.0 (subst (Ends w) (append-nil (text_of ps)) clean.1) in
    let rest = lexed ps clean.2 (fresh_after fresh (written w)) (trails_after c.token_kind (written w)) (at + length (written w)) in
    record {
      lexemes = record { sort = c.piece_sort; text = written w; at = at } ∷ rest.lexemes;
      tokens = record { kind = c.token_kind; text = written w; at = at } ∷ rest.tokens;
      cuts = lex.lexeme c.piece_form (written w) (text_of ps) c.piece_sort c.long c.sort_is rest.cuts;
      reads = tok.token (record { sort = c.piece_sort; text = written w; at = at }) c.token_kind c.role_is rest.reads;
      pieces = c.reads at ps (symbols rest.tokens) [] rest.pieces;
    }
lexed (gap ∷ ps) clean fresh trails at =
    let rest = lexed ps clean (fresh_after fresh (32 ∷ [])) trails (at + 1) in
    record { lexemes = rest.lexemes; tokens = rest.tokens; cuts = blank fresh at 32 (text_of ps) rest.lexemes refl rest.cuts; reads = rest.reads; pieces = a_gap rest.pieces }
lexed (indent n ∷ ps) clean fresh trails at =
    let rest = lexed ps clean (fresh_after fresh (replicate (2 * n) 32)) trails (at + 2 * n) in
    record { lexemes = rest.lexemes; tokens = rest.tokens; cuts = spaces (2 * n) fresh at (text_of ps) rest.lexemes rest.cuts; reads = rest.reads; pieces = an_indent rest.pieces }
lexed (line_end ∷ ps) clean fresh trails at =
    let rest = lexed ps clean (fresh_after fresh (10 ∷ [])) trails (at + 1) in
    record { lexemes = rest.lexemes; tokens = rest.tokens; cuts = blank fresh at 10 (text_of ps) rest.lexemes refl rest.cuts; reads = rest.reads; pieces = a_line_end rest.pieces }
