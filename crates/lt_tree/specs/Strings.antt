-- String literals, C11 6.4.5, with the escapes of C11 6.4.4.4.
use Rattle.std.specs.Prelude.{◌≡◌, ℕ, ◌+◌, ◌-◌, ◌*◌, ◌%◌, Bool, true, not, ◌&&◌, ◌||◌, ◌==◌, nat_le, if◌then◌else◌, List, [], ◌∷◌, Option, Some, None, option_map}

-- the bytes that stand for themselves: all but the quote, the backslash and the line feed
abbrev pub is_plain : ℕ → Bool
is_plain b = not (b == 34) && not (b == 92) && not (b == 10)

abbrev pub is_octal : ℕ → Bool
is_octal b = nat_le 48 b && nat_le b 55

-- the value of a hexadecimal digit
abbrev pub hex_value : ℕ → Option ℕ
hex_value b =
    if nat_le 48 b && nat_le b 57 then Some (b - 48)
    else (if nat_le 97 b && nat_le b 102 then Some (b - 87)
    else (if nat_le 65 b && nat_le b 70 then Some (b - 55) else None))

-- `\n \t \r \a \b \f \v \\ \' \" \?`
abbrev pub simple_escape : ℕ → Option ℕ
simple_escape b =
    if b == 110 then Some 10
    else (if b == 116 then Some 9
    else (if b == 114 then Some 13
    else (if b == 97 then Some 7
    else (if b == 98 then Some 8
    else (if b == 102 then Some 12
    else (if b == 118 then Some 11
    else (if (b == 92) || (b == 39) || (b == 34) || (b == 63) then Some b else None)))))))

-- an octal escape has a third digit, if one follows
abbrev pub third_octal : ℕ → List ℕ → ℕ × List ℕ
third_octal v [] = (v, [])
third_octal v (b ∷ bytes) = if is_octal b then ((8 * v + (b - 48)) % 256, bytes) else (v, b ∷ bytes)

-- and so a second
abbrev pub second_octal : ℕ → List ℕ → ℕ × List ℕ
second_octal v [] = (v, [])
second_octal v (b ∷ bytes) = if is_octal b then third_octal (8 * v + (b - 48)) bytes else (v, b ∷ bytes)

-- a hexadecimal escape has a second digit, if one follows
abbrev pub with_second_hex : ℕ → ℕ → List ℕ → Option ℕ → ℕ × List ℕ
with_second_hex v b bytes None = (v, b ∷ bytes)
with_second_hex v b bytes (Some w) = (16 * v + w, bytes)

abbrev pub second_hex : ℕ → List ℕ → ℕ × List ℕ
second_hex v [] = (v, [])
second_hex v (b ∷ bytes) = with_second_hex v b bytes (hex_value b)

abbrev pub hex_escape : List ℕ → Option (ℕ × List ℕ)
hex_escape [] = None
hex_escape (b ∷ bytes) = option_map (λ v. second_hex v bytes) (hex_value b)

-- the value of an escape, behind its backslash, and the bytes behind it
abbrev pub escape : List ℕ → Option (ℕ × List ℕ)
escape [] = None
escape (b ∷ bytes) =
    if is_octal b then Some (second_octal (b - 48) bytes)
    else (if b == 120 then hex_escape bytes else option_map (λ v. (v, bytes)) (simple_escape b))

-- These bytes, which stand behind an opening quote and end with the closing one, spell the value.
pub data Spells : (bytes : List ℕ) → (value : List ℕ) → Type 0 where
  closed : Spells (34 ∷ []) []
  plain : {b : ℕ} {bytes value : List ℕ} → is_plain b ≡ true → Spells bytes value → Spells (b ∷ bytes) (b ∷ value)
  escaped : {v : ℕ} {bytes rest value : List ℕ} → escape bytes ≡ Some (v, rest) → Spells rest value → Spells (92 ∷ bytes) (v ∷ value)
