-- The bytes of a text, and what each can begin.
use Rattle.std.specs.Prelude.{ℕ, Bool, true, false, not, ◌&&◌, ◌||◌, if◌then◌else◌, ◌==◌, nat_le}
use Rattle.std.specs.Str.{byte}
use Rattle.lt_token.specs.declared.piece.Class.{Class}
use Rattle.lt_token.specs.declared.piece.Class.TheVariants as class

abbrev pub line_end : ℕ
line_end = 10

abbrev pub quote : ℕ
quote = 34

abbrev pub apostrophe : ℕ
apostrophe = 39

abbrev pub backslash : ℕ
backslash = 92

abbrev pub is_space_or_tab : ℕ → Bool
is_space_or_tab b = b == 32 || b == 9

-- The first of the classes that has the byte. Letters are those of ASCII and `_`; a blank is a space, a tab, a line
-- end, a vertical tab, a form feed or a carriage return.
abbrev pub class_of : ℕ → Class
class_of b =
    if (nat_le (byte "a") b && nat_le b (byte "z")) || (nat_le (byte "A") b && nat_le b (byte "Z")) || b == byte "_" then class.Letter
    else (if nat_le (byte "0") b && nat_le b (byte "9") then class.Digit
    else (if b == byte "." then class.Dot
    else (if b == 32 || (nat_le 9 b && nat_le b 13) then class.Blank
    else (if b == quote then class.Quote
    else (if b == apostrophe then class.Apostrophe
    else (if b == byte "#" then class.Hash
    else (if b == byte "/" then class.Slash
    else class.Sign)))))))

abbrev pub goes_on_word : Class → Bool
goes_on_word class.Letter = true
goes_on_word class.Digit = true
goes_on_word _ = false

abbrev pub is_blank_class : Class → Bool
is_blank_class class.Blank = true
is_blank_class _ = false

-- a letter or a digit
abbrev pub is_word_byte : ℕ → Bool
is_word_byte b = goes_on_word (class_of b)

abbrev pub is_blank : ℕ → Bool
is_blank b = is_blank_class (class_of b)

abbrev pub is_in_line : ℕ → Bool
is_in_line b = not (b == line_end)

abbrev pub is_octal : ℕ → Bool
is_octal b = nat_le (byte "0") b && nat_le b (byte "7")

-- what a backslash makes one character, but for octal digits and `x` (C11 6.4.4.4)
abbrev pub is_simple_escape : ℕ → Bool
is_simple_escape b =
    b == apostrophe || b == quote || b == byte "?" || b == backslash || b == byte "a" || b == byte "b" || b == byte "f" || b == byte "n"
    || b == byte "r" || b == byte "t" || b == byte "v"
