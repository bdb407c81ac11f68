-- Literals as C11 writes them, and what doesn't stand in a comment. That the parts of specs/Parts.antt are these literals is a law; of comments
-- none is shown.
use Rattle.std.specs.Prelude.{◌≡◌, ℕ, Bool, true, not, ◌&&◌, ◌==◌, List, [], ◌∷◌, ◌++◌}
use Rattle.std.specs.Char.{is_ascii_hexdigit}
use Rattle.std.specs.Str.{byte}
use Rattle.lt_token.specs.Bytes.{line_end, quote, apostrophe, backslash, is_octal, is_simple_escape}

-- what stands behind a backslash, C11 6.4.4.4: one to three octal digits, or `x` and one or two hexadecimal digits
pub data IsEscape : List ℕ → Type 0 where
  simple : (b : ℕ) → is_simple_escape b ≡ true → IsEscape (b ∷ [])
  octal : (a : ℕ) → is_octal a ≡ true → IsEscape (a ∷ [])
  octal_two : (a b : ℕ) → is_octal a ≡ true → is_octal b ≡ true → IsEscape (a ∷ b ∷ [])
  octal_three : (a b c : ℕ) → is_octal a ≡ true → is_octal b ≡ true → is_octal c ≡ true → IsEscape (a ∷ b ∷ c ∷ [])
  hexadecimal : (a : ℕ) → is_ascii_hexdigit a ≡ true → IsEscape (byte "x" ∷ a ∷ [])
  hexadecimal_two : (a b : ℕ) → is_ascii_hexdigit a ≡ true → is_ascii_hexdigit b ≡ true → IsEscape (byte "x" ∷ a ∷ b ∷ [])

-- a byte that stands for itself between these quotes
abbrev pub is_plain : ℕ → ℕ → Bool
is_plain mark b = not (b == mark) && not (b == line_end) && not (b == backslash)

-- between the quotes of a string, C11 6.4.5
pub data IsString : List ℕ → Type 0 where
  no_more : IsString []
  plain : (b : ℕ) {bs : List ℕ} → is_plain quote b ≡ true → IsString bs → IsString (b ∷ bs)
  escaped : (e : List ℕ) {bs : List ℕ} → IsEscape e → IsString bs → IsString (backslash ∷ e ++ bs)

-- between the quotes of a character constant, C11 6.4.4.4
pub data IsOneCharacter : List ℕ → Type 0 where
  plain_one : (b : ℕ) → is_plain apostrophe b ≡ true → IsOneCharacter (b ∷ [])
  escaped_one : (e : List ℕ) → IsEscape e → IsOneCharacter (backslash ∷ e)

-- nowhere does `*/` stand
abbrev pub HasNoEnd : List ℕ → Type 0
HasNoEnd bs = (front back : List ℕ) → bs ≡ front ++ byte "*" ∷ byte "/" ∷ back → ⊥
