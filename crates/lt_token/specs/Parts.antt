-- What stands between the quotes of a literal, in a comment and in a constant, byte by byte: for each part what the next
-- byte leads to.
use Rattle.std.specs.Prelude.{ℕ, Bool, true, false, ◌||◌, if◌then◌else◌, ◌==◌, List, [], ◌∷◌}
use Rattle.std.specs.Char.{is_ascii_digit, is_ascii_hexdigit}
use Rattle.std.specs.Str.{byte}
use Rattle.lt_token.specs.declared.piece.Part.{Part}
use Rattle.lt_token.specs.declared.piece.Part.TheVariants as part
use Rattle.lt_token.specs.Bytes.{line_end, quote, apostrophe, backslash, is_word_byte, is_octal, is_simple_escape}

-- the letter of a decimal exponent, and of a hexadecimal one
abbrev pub is_e : ℕ → Bool
is_e b = b == byte "e" || b == byte "E"

abbrev pub is_p : ℕ → Bool
is_p b = b == byte "p" || b == byte "P"

abbrev pub is_x : ℕ → Bool
is_x b = b == byte "x" || b == byte "X"

abbrev pub is_sign : ℕ → Bool
is_sign b = b == byte "+" || b == byte "-"

-- C11 6.4.4.2
abbrev pub is_floating_suffix : ℕ → Bool
is_floating_suffix b = b == byte "f" || b == byte "F" || b == byte "l" || b == byte "L"

-- a letter or digit goes on with a constant that it doesn't belong to
abbrev pub tail : ℕ → Part
tail b = if is_word_byte b then part.Tail else part.Nothing

abbrev pub after : Part → ℕ → Part
-- a string, C11 6.4.5: an escape is one byte, an octal digit, or `x` and a hexadecimal digit; further digits are
-- read as plain bytes
after part.Text b =
    if b == quote then part.Closed else (if b == line_end then part.Nothing else (if b == backslash then part.TextEscape else part.Text))
after part.TextEscape b = if b == byte "x" then part.TextHex else (if is_simple_escape b || is_octal b then part.Text else part.Nothing)
after part.TextHex b = if is_ascii_hexdigit b then part.Text else part.Nothing
-- a character constant, C11 6.4.4.4: one byte or one escape, of one to three octal or one or two hexadecimal digits
after part.Character b =
    if b == apostrophe || b == line_end then part.Nothing else (if b == backslash then part.CharacterEscape else part.Single)
after part.CharacterEscape b =
    if b == byte "x" then part.CharacterHex else (if is_octal b then part.OctalOne else (if is_simple_escape b then part.Single else part.Nothing))
after part.CharacterHex b = if is_ascii_hexdigit b then part.CharacterHexOne else part.Nothing
after part.CharacterHexOne b = if is_ascii_hexdigit b then part.Single else (if b == apostrophe then part.Closed else part.Nothing)
after part.OctalOne b = if is_octal b then part.OctalTwo else (if b == apostrophe then part.Closed else part.Nothing)
after part.OctalTwo b = if is_octal b then part.Single else (if b == apostrophe then part.Closed else part.Nothing)
after part.Single b = if b == apostrophe then part.Closed else part.Nothing
-- a comment, C11 6.4.9
after part.Comment b = if b == byte "*" then part.Star else part.Comment
after part.Star b = if b == byte "/" then part.Closed else (if b == byte "*" then part.Star else part.Comment)
after part.Closed b = part.Nothing
-- decimal and octal constants, C11 6.4.4.1 and 6.4.4.2
after part.Zero b =
    if is_ascii_digit b then part.Digits
    else (if b == byte "." then part.Fraction else (if is_e b then part.Exponent else (if is_x b then part.HexPrefix else tail b)))
after part.Digits b =
    if is_ascii_digit b then part.Digits else (if b == byte "." then part.Fraction else (if is_e b then part.Exponent else tail b))
after part.Fraction b =
    if is_ascii_digit b then part.Fraction else (if is_e b then part.Exponent else (if is_floating_suffix b then part.Suffix else tail b))
after part.Exponent b = if is_ascii_digit b then part.ExponentDigits else (if is_sign b then part.ExponentSign else tail b)
after part.ExponentSign b = if is_ascii_digit b then part.ExponentDigits else part.Nothing
after part.ExponentDigits b = if is_ascii_digit b then part.ExponentDigits else (if is_floating_suffix b then part.Suffix else tail b)
after part.Suffix b = tail b
-- hexadecimal constants; one with a point has an exponent
after part.HexPrefix b = if is_ascii_hexdigit b then part.Hex else (if b == byte "." then part.HexPoint else tail b)
after part.Hex b = if is_ascii_hexdigit b then part.Hex else (if b == byte "." then part.HexFraction else (if is_p b then part.Exponent else tail b))
after part.HexPoint b = if is_ascii_hexdigit b then part.HexFraction else part.Nothing
after part.HexFraction b = if is_ascii_hexdigit b then part.HexFraction else (if is_p b then part.HexExponent else part.Nothing)
after part.HexExponent b = if is_ascii_digit b then part.ExponentDigits else (if is_sign b then part.ExponentSign else part.Nothing)
after part.Tail b = tail b
after part.Nothing b = part.Nothing

-- A literal, comment or constant may end here. A comment that isn't closed goes on to the end of the text, a string that
-- isn't to the end of its line, or to what is no escape.
abbrev pub is_whole : Part → Bool
is_whole part.Closed = true
is_whole part.Text = true
is_whole part.Comment = true
is_whole part.Star = true
is_whole part.Zero = true
is_whole part.Digits = true
is_whole part.Fraction = true
is_whole part.Exponent = true
is_whole part.ExponentDigits = true
is_whole part.Suffix = true
is_whole part.HexPrefix = true
is_whole part.Hex = true
is_whole part.Tail = true
is_whole _ = false

-- the part that the bytes lead to
abbrev pub ends_at : Part → List ℕ → Part
ends_at p [] = p
ends_at p (b ∷ bs) = ends_at (after p b) bs

abbrev pub is_whole_after : Part → List ℕ → Bool
is_whole_after p bs = is_whole (ends_at p bs)

-- the part after the first digit of a constant
abbrev pub first_digit : ℕ → Part
first_digit b = if b == byte "0" then part.Zero else part.Digits

abbrev pub is_floating_end : Part → Bool
is_floating_end part.Fraction = true
is_floating_end part.ExponentDigits = true
is_floating_end part.Suffix = true
is_floating_end _ = false

abbrev pub is_closed_end : Part → Bool
is_closed_end part.Closed = true
is_closed_end _ = false

abbrev pub is_closed_after : Part → List ℕ → Bool
is_closed_after p bs = is_closed_end (ends_at p bs)
