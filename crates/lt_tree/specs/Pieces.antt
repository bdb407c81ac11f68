-- What a canonical text is made of: words, single spaces, indentation and line ends.
use Rattle.std.specs.Prelude.{ℕ, ◌+◌, ◌*◌, ◌/◌, ◌%◌, ◌&&◌, ◌||◌, ◌==◌, nat_le, if◌then◌else◌, List, [], ◌∷◌, ◌++◌, codes, replicate}
use Rattle.std.specs.List.{flat_map}
use Rattle.lt_tree.specs.declared.terminal.Terminal.{Terminal}
use Rattle.lt_tree.specs.Symbols.{spelling}

pub data Word : Type 0 where
  name : (w : List ℕ) → Word
  constant : (w : List ℕ) → Word
  -- a literal of these bytes
  literal : (bytes : List ℕ) → Word
  sign : (k : Terminal) → Word

pub data Piece : Type 0 where
  word : (w : Word) → Piece
  gap : Piece
  -- the spaces at the start of a line, two for each level
  indent : (level : ℕ) → Piece
  line_end : Piece

-- three octal digits behind a backslash
abbrev pub octal : ℕ → List ℕ
octal b = 92 ∷ (48 + ((b / 64) % 8)) ∷ (48 + ((b / 8) % 8)) ∷ (48 + (b % 8)) ∷ []

-- a byte as it is written between quotes
abbrev pub quoted_byte : ℕ → List ℕ
quoted_byte b =
    if b == 10 then codes "\\n"
    else (if b == 9 then codes "\\t"
    else (if (b == 34) || (b == 92) then 92 ∷ b ∷ []
    else (if nat_le 32 b && nat_le b 126 then b ∷ [] else octal b)))

abbrev pub quoted : List ℕ → List ℕ
quoted bytes = 34 ∷ flat_map quoted_byte bytes ++ 34 ∷ []

abbrev pub written : Word → List ℕ
written (name w) = w
written (constant w) = w
written (literal bytes) = quoted bytes
written (sign k) = spelling k

abbrev pub bytes_of : Piece → List ℕ
bytes_of (word w) = written w
bytes_of gap = 32 ∷ []
bytes_of (indent level) = replicate (2 * level) 32
bytes_of line_end = 10 ∷ []

unfoldable pub text_of : List Piece → List ℕ
text_of [] = []
text_of (p ∷ ps) = bytes_of p ++ text_of ps

-- the words among the pieces
unfoldable pub words_in : List Piece → List Word
words_in [] = []
words_in (word w ∷ ps) = w ∷ words_in ps
words_in (_ ∷ ps) = words_in ps
