-- Words that stand in our files as they are, with no quotes.
use Rattle.std.specs.Prelude.{ℕ, ◌==◌, ◌||◌, Bool, IsTrue, List, All}
use Rattle.std.specs.Char.{is_ascii_alphanumeric}

-- a letter, a digit, a low line, a full stop, a colon or a hyphen
abbrev pub is_plain_byte : ℕ → Bool
is_plain_byte b = is_ascii_alphanumeric b || (b == 95) || (b == 46) || (b == 58) || (b == 45)

abbrev pub IsPlain : List ℕ → Type 0
IsPlain name = All (λ b. IsTrue (is_plain_byte b)) name
