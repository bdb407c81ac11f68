-- The values of constants, C11 6.4.4.
use Rattle.std.specs.Prelude.{ℕ, ℤ, pos, ◌-ℤ◌, ◌+◌, ◌*◌, nat_lt, Bool, ◌||◌, ◌==◌, if◌then◌else◌, List, [], ◌∷◌, codes, Option, Some, None, option_map, unwrap_or}
use Rattle.std.specs.List.{list_all}
use Rattle.std.specs.Str.{byte, bytes_eq}
use Rattle.lt_tree.specs.Strings.{hex_value, escape}

-- the value of a digit of any base to 16; 16 for what is no digit
abbrev pub digit : ℕ → ℕ
digit b = unwrap_or (hex_value b) 16

-- the number that the digits of a base make behind this one, and the bytes behind them
abbrev pub number_from : ℕ → ℕ → List ℕ → ℕ × List ℕ
number_from base value [] = (value, [])
number_from base value (b ∷ bytes) = if nat_lt (digit b) base then number_from base (base * value + digit b) bytes else (value, b ∷ bytes)

-- octal behind a zero, hexadecimal behind `0x`, C11 6.4.4.1
abbrev pub number_behind_zero : List ℕ → ℕ × List ℕ
number_behind_zero [] = (0, [])
number_behind_zero (b ∷ bytes) = if (b == byte "x") || (b == byte "X") then number_from 16 0 bytes else number_from 8 0 (b ∷ bytes)

-- the value of an integer constant, and its suffix
abbrev pub integer_parts : List ℕ → ℕ × List ℕ
integer_parts [] = (0, [])
integer_parts (b ∷ bytes) = if b == byte "0" then number_behind_zero bytes else number_from 10 0 (b ∷ bytes)

-- the letters of a suffix; which of them go together is a rule of the tokens
abbrev pub is_suffix_byte : ℕ → Bool
is_suffix_byte b = (b == byte "u") || (b == byte "U") || (b == byte "l") || (b == byte "L")

abbrev pub is_suffix : List ℕ → Bool
is_suffix bytes = list_all is_suffix_byte bytes

abbrev pub with_suffix : ℕ × List ℕ → Option ℤ
with_suffix (value, suffix) = if is_suffix suffix then Some (pos value) else None

abbrev pub integer_value : List ℕ → Option ℤ
integer_value bytes = with_suffix (integer_parts bytes)

-- the character before a closing quote
abbrev pub before_quote : Option (ℕ × List ℕ) → Option ℕ
before_quote None = None
before_quote (Some (b, rest)) = if bytes_eq rest (codes "'") then Some b else None

-- the byte of a character constant behind its opening quote, C11 6.4.4.4
abbrev pub character_byte : List ℕ → Option ℕ
character_byte [] = None
character_byte (b ∷ bytes) =
    if b == byte "\\" then before_quote (escape bytes)
    else (if (b == byte "'") || (b == 10) then None else before_quote (Some (b, bytes)))

-- a byte as a `signed char`
abbrev pub signed_byte : ℕ → ℤ
signed_byte b = if nat_lt b 128 then pos b else pos b -ℤ pos 256

-- The number that an integer or character constant says as an id, as written. A character is read as signed, whatever plain `char` is.
abbrev pub value_of : List ℕ → Option ℤ
value_of [] = None
value_of (b ∷ bytes) = if b == byte "'" then option_map signed_byte (character_byte bytes) else integer_value (b ∷ bytes)
