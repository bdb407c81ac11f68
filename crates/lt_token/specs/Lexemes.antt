-- A text cut into lexemes: the longest piece at each place, without blanks, comments and skipped lines.
use Rattle.std.specs.Prelude.{◌≡◌, ℕ, ◌+◌, Bool, false, ◌&&◌, ◌||◌, if◌then◌else◌, ◌==◌, List, [], ◌∷◌, length, drop, Option, Some, None, slice_index, nat_eq}
use Rattle.std.specs.List.{list_any, prefix_len, starts_with}
use Rattle.std.specs.Char.{is_ascii_digit, is_ascii_hexdigit}
use Rattle.std.specs.Str.{byte}
use Rattle.lt_token.specs.declared.piece.Form.{Form}
use Rattle.lt_token.specs.declared.piece.Form.TheVariants as form
use Rattle.lt_token.specs.declared.piece.Part.TheVariants as part
use Rattle.lt_token.specs.declared.lexeme.Sort.{Sort}
use Rattle.lt_token.specs.declared.lexeme.Sort.TheVariants as sort
use Rattle.lt_token.specs.Bytes.{line_end, is_space_or_tab, is_octal}
use Rattle.lt_token.specs.Parts.{is_x, first_digit, ends_at, is_floating_end, is_closed_after}
use Rattle.lt_token.specs.Words.{is_among, directives, integer_suffixes}
use Rattle.lt_token.specs.Pieces.{Longest, NoPiece}

-- ---- constants

-- what follows the longest run of bytes that pass
unfoldable pub past : (ℕ → Bool) → List ℕ → List ℕ
past p w = drop (prefix_len p w) w

-- `0x` and a hexadecimal digit
abbrev pub is_hexadecimal : List ℕ → Bool
is_hexadecimal w = slice_index w 0 == byte "0" && is_x (slice_index w 1) && is_ascii_hexdigit (slice_index w 2)

-- C11 6.4.4.1: hexadecimal, octal or decimal digits, and a suffix
abbrev pub is_integer : List ℕ → Bool
is_integer w =
    if is_hexadecimal w then is_among (past is_ascii_hexdigit (drop 2 w)) integer_suffixes
    else (if slice_index w 0 == byte "0" then is_among (past is_octal w) integer_suffixes
    else is_among (past is_ascii_digit w) integer_suffixes)

-- C11 6.4.4.2, of a number piece
abbrev pub is_floating : List ℕ → Bool
is_floating [] = false
is_floating (b ∷ bs) = if b == byte "." then is_floating_end (ends_at part.Fraction (drop 1 bs)) else is_floating_end (ends_at (first_digit b) bs)

-- ---- lines that begin with `#`

abbrev pub begins_with_any : List ℕ → List (List ℕ) → Bool
begins_with_any text words = list_any (λ w. starts_with nat_eq text w) words

-- behind the `#` and spaces and tabs stands a digit, `line`, `pragma` or `ident`
abbrev pub is_skipped_line : List ℕ → Bool
is_skipped_line w =
    is_ascii_digit (slice_index (past is_space_or_tab (drop 1 w)) 0) || begins_with_any (past is_space_or_tab (drop 1 w)) directives

-- ---- strings and comments

-- the string ends with a quote that closes it
abbrev pub is_closed_text : List ℕ → Bool
is_closed_text w = is_closed_after part.Text (drop 1 w)

-- the comment ends with the `*/` that closes it
abbrev pub is_closed : List ℕ → Bool
is_closed w = is_closed_after part.Comment (drop 2 w)

-- ---- lexemes

abbrev pub number_sort : List ℕ → Sort
number_sort w = if is_integer w then sort.Integer else (if is_floating w then sort.Foreign else sort.Malformed)

-- What a piece is, if it doesn't only separate.
abbrev pub sort_of : Form → List ℕ → Option Sort
sort_of form.Word w = Some sort.Word
sort_of form.Number w = Some (number_sort w)
sort_of form.Character w = Some sort.Character
sort_of form.Text w = Some (if is_closed_text w then sort.Text else sort.Malformed)
sort_of form.Prefixed w = Some sort.Foreign
sort_of form.Punctuator w = Some sort.Punctuator
sort_of form.Blank w = None
sort_of form.LineComment w = None
sort_of form.BlockComment w = if is_closed w then None else Some sort.Malformed
sort_of form.Marker w = if is_skipped_line w then None else Some sort.Malformed

-- whether only spaces and tabs stand before this place on its line
abbrev pub fresh_after : Bool → List ℕ → Bool
fresh_after fresh [] = fresh
fresh_after fresh (b ∷ bs) = fresh_after (b == line_end || (fresh && is_space_or_tab b)) bs

pub record Lexeme : Type 0 where
  pub sort : Sort
  pub text : List ℕ
  pub at : ℕ

-- The text from this place on is cut into these lexemes. A byte that begins no piece is one by itself.
pub data Cuts : (fresh : Bool) → (at : ℕ) → (text : List ℕ) → (lexemes : List Lexeme) → Type 0 where
  ended : {fresh : Bool} {at : ℕ} → Cuts fresh at [] []
  separator : {fresh : Bool} {at : ℕ} {text : List ℕ} {lexemes : List Lexeme} (f : Form) (piece rest : List ℕ)
      → Longest fresh text f piece rest → sort_of f piece ≡ None
      → Cuts (fresh_after fresh piece) (at + length piece) rest lexemes → Cuts fresh at text lexemes
  lexeme : {fresh : Bool} {at : ℕ} {text : List ℕ} {lexemes : List Lexeme} (f : Form) (piece rest : List ℕ) (s : Sort)
      → Longest fresh text f piece rest → sort_of f piece ≡ Some s
      → Cuts (fresh_after fresh piece) (at + length piece) rest lexemes
      → Cuts fresh at text (record { sort = s; text = piece; at = at } ∷ lexemes)
  stray : {fresh : Bool} {at b : ℕ} {text : List ℕ} {lexemes : List Lexeme}
      → NoPiece fresh (b ∷ text) → Cuts (fresh_after fresh (b ∷ [])) (at + 1) text lexemes
      → Cuts fresh at (b ∷ text) (record { sort = sort.Malformed; text = b ∷ []; at = at } ∷ lexemes)
