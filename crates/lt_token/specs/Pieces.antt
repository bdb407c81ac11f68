-- The pieces of a text: which bytes are a word, a constant, a literal, a comment, and that the longest is taken.
use Rattle.std.specs.Prelude.{◌≡◌, ℕ, ◌≤◌, Bool, true, false, ◌&&◌, ◌||◌, ◌==◌, List, [], ◌∷◌, ◌++◌, length, take, drop}
use Rattle.std.specs.List.{list_all, prefix_len}
use Rattle.std.specs.Char.{is_ascii_digit}
use Rattle.std.specs.Str.{byte}
use Rattle.lt_token.specs.declared.piece.Class.{Class}
use Rattle.lt_token.specs.declared.piece.Class.TheVariants as class
use Rattle.lt_token.specs.declared.piece.Form.{Form}
use Rattle.lt_token.specs.declared.piece.Form.TheVariants as form
use Rattle.lt_token.specs.declared.piece.Part.TheVariants as part
use Rattle.lt_token.specs.Bytes.{class_of, is_word_byte, is_blank, is_in_line, quote, apostrophe}
use Rattle.lt_token.specs.Parts.{first_digit, is_whole_after, is_closed_after}
use Rattle.lt_token.specs.Words.{is_among, punctuators, literal_prefixes}

-- a string or a character constant, quotes included, and closed
abbrev pub is_literal : List ℕ → Bool
is_literal [] = false
is_literal (b ∷ bs) = (b == quote && is_closed_after part.Text bs) || (b == apostrophe && is_whole_after part.Character bs)

-- a prefix and a literal
abbrev pub is_prefixed : List ℕ → Bool
is_prefixed w = is_among (take (prefix_len is_word_byte w) w) literal_prefixes && is_literal (drop (prefix_len is_word_byte w) w)

-- a digit and what goes on with it, behind a point
abbrev pub is_fraction : List ℕ → Bool
is_fraction [] = false
is_fraction (b ∷ bs) = is_ascii_digit b && is_whole_after part.Fraction bs

-- `//` and the rest of the line, without its first byte
abbrev pub is_line_comment : List ℕ → Bool
is_line_comment [] = false
is_line_comment (b ∷ bs) = b == byte "/" && list_all is_in_line bs

-- `/*` and what goes on with it, without its first byte
abbrev pub is_block_comment : List ℕ → Bool
is_block_comment [] = false
is_block_comment (b ∷ bs) = b == byte "*" && is_whole_after part.Comment bs

-- the piece's first byte, whose class is given, and the bytes behind it
abbrev pub is_piece_at : Bool → Form → Class → ℕ → List ℕ → Bool
is_piece_at fresh form.Word class.Letter b bs = list_all is_word_byte bs
is_piece_at fresh form.Prefixed class.Letter b bs = is_prefixed (b ∷ bs)
is_piece_at fresh form.Number class.Digit b bs = is_whole_after (first_digit b) bs
is_piece_at fresh form.Number class.Dot b bs = is_fraction bs
is_piece_at fresh form.Text class.Quote b bs = is_whole_after part.Text bs
is_piece_at fresh form.Character class.Apostrophe b bs = is_whole_after part.Character bs
is_piece_at fresh form.Blank class.Blank b bs = list_all is_blank bs
is_piece_at fresh form.LineComment class.Slash b bs = is_line_comment bs
is_piece_at fresh form.BlockComment class.Slash b bs = is_block_comment bs
is_piece_at fresh form.Marker class.Hash b bs = fresh && list_all is_in_line bs
is_piece_at fresh _ _ b bs = false

-- The bytes are a piece of this form. A marker stands only where its line is fresh: behind a line end, or at the start of
-- the text, there are only spaces and tabs.
abbrev pub is_piece : Bool → Form → List ℕ → Bool
is_piece fresh f [] = false
is_piece fresh form.Punctuator (b ∷ bs) = is_among (b ∷ bs) punctuators
is_piece fresh f (b ∷ bs) = is_piece_at fresh f (class_of b) b bs

-- The text begins with this piece, and with no longer one.
pub record Longest (fresh : Bool) (text : List ℕ) (f : Form) (piece rest : List ℕ) : Type 0 where
  pub parts : text ≡ piece ++ rest
  pub is_one : is_piece fresh f piece ≡ true
  pub none_longer : (g : Form) (other rest' : List ℕ) → text ≡ other ++ rest' → is_piece fresh g other ≡ true → length other ≤ length piece

-- no piece begins the text
abbrev pub NoPiece : Bool → List ℕ → Type 0
NoPiece fresh text = (g : Form) (other rest : List ℕ) → text ≡ other ++ rest → is_piece fresh g other ≡ true → ⊥
