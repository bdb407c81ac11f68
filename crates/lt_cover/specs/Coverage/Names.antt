-- The forms of names, tags and ids in a coverage file.
use Rattle.std.specs.Prelude.{ℕ, ◌≤◌, ◌==◌, ◌||◌, Bool, not, IsTrue, List, length, slice_index, All}
use Rattle.std.specs.Char.{is_ascii_alphanumeric, is_ascii_digit}
use Rattle.lt_model.specs.Plain.{is_plain_byte}
use Rattle.lt_token.specs.Words.{is_no_identifier}

-- a letter, a digit or a low line
abbrev pub is_name_byte : ℕ → Bool
is_name_byte b = is_ascii_alphanumeric b || (b == 95)

-- a test's name: 1 to 64 letters, digits and low lines
pub record IsTestName (name : List ℕ) : Type 0 where
  pub some : 1 ≤ length name
  pub short : length name ≤ 64
  pub bytes : All (λ b. IsTrue (is_name_byte b)) name

-- an identifier, C11 6.4.2.1: letters, digits and low lines, the first of which is no digit
pub record IsIdentifier (name : List ℕ) : Type 0 where
  pub some : 1 ≤ length name
  pub first : IsTrue (not (is_ascii_digit (slice_index name 0)))
  pub bytes : All (λ b. IsTrue (is_name_byte b)) name
  pub free : IsTrue (not (is_no_identifier name))

-- a tag: 1 to 32 letters, digits, low lines, full stops, colons and hyphens
pub record IsTag (tag : List ℕ) : Type 0 where
  pub some : 1 ≤ length tag
  pub short : length tag ≤ 32
  pub bytes : All (λ b. IsTrue (is_plain_byte b)) tag

-- the id of a label or a hyperlabel
abbrev pub IsId : ℕ → Type 0
IsId id = (1 ≤ id) × (id ≤ 2147483647)
