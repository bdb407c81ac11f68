-- How numbers, names, places and targets are written in the files of an entry.
use Rattle.std.specs.Prelude.{ℕ, ℤ, pos, neg_ℤ, ◌^◌, ◌==◌, ◌&&◌, ◌||◌, nat_lt, Bool, true, false, not, if◌then◌else◌, List, [], ◌∷◌, ◌++◌, codes, decimal, flat_map}
use Rattle.std.specs.List.{list_all}
use Rattle.std.specs.Char.{is_ascii_alphanumeric, is_ascii_digit}
use Rattle.std.specs.Str.{bytes_eq}

-- ---- numbers

-- A number in decimal, with no leading zero and no plus, behind a minus or none. `-0` is 0.
pub record Numeral : Type 0 where
  pub is_negative : Bool
  pub size : ℕ

abbrev pub value_of : Numeral → ℤ
value_of n = if n.is_negative then neg_ℤ (pos n.size) else pos n.size

abbrev pub numeral_word : Numeral → List ℕ
numeral_word n = if n.is_negative then 45 ∷ decimal n.size else decimal n.size

-- No number of a file is of the size 2 ^ 64 or more: no type has such a value, and nothing is so long.
abbrev pub is_numeral : Numeral → Bool
is_numeral n = nat_lt n.size (2 ^ 64)

-- ---- names

-- a letter, a digit or a low line
abbrev pub is_name_byte : ℕ → Bool
is_name_byte b = is_ascii_alphanumeric b || (b == 95)

-- of the form of an identifier, C11 6.4.2.1: letters, digits and low lines, the first of which is no digit
abbrev pub is_name : List ℕ → Bool
is_name [] = false
is_name (b ∷ bytes) = not (is_ascii_digit b) && list_all is_name_byte (b ∷ bytes)

-- the name of the default block to which a parameter points
abbrev pub default_name : List ℕ → List ℕ
default_name parameter = 64 ∷ parameter

-- a name, or that of a default block
abbrev pub is_object_name : List ℕ → Bool
is_object_name [] = false
is_object_name (b ∷ bytes) = if b == 64 then is_name bytes else is_name (b ∷ bytes)

-- ---- places

pub data Step : Type 0 where
  -- `[INT]`
  at_index : (index : Numeral) → Step
  -- `[*]`, every element
  at_each : Step
  -- `.NAME`
  at_member : (name : List ℕ) → Step

pub record PlaceWord : Type 0 where
  pub name : List ℕ
  pub steps : List Step

abbrev pub step_bytes : Step → List ℕ
step_bytes (at_index index) = 91 ∷ numeral_word index ++ 93 ∷ []
step_bytes at_each = codes "[*]"
step_bytes (at_member name) = 46 ∷ name

abbrev pub place_word : PlaceWord → List ℕ
place_word place = place.name ++ flat_map step_bytes place.steps

abbrev pub is_step : Step → Bool
is_step (at_index index) = is_numeral index
is_step at_each = true
is_step (at_member name) = is_name name

-- its names are of the form of names, and its numbers of that of numbers
abbrev pub is_place : PlaceWord → Bool
is_place place = is_object_name place.name && list_all is_step place.steps

abbrev pub is_one : Step → Bool
is_one at_each = false
is_one _ = true

-- it names one thing, since no step goes to every element
abbrev pub is_single : PlaceWord → Bool
is_single place = list_all is_one place.steps

-- ---- targets

pub data TargetWord : Type 0 where
  to_null : TargetWord
  to_place : (place : PlaceWord) → TargetWord

abbrev pub target_word : TargetWord → List ℕ
target_word to_null = codes "null"
target_word (to_place place) = place_word place

-- The word `null` is no place here, whatever is called so.
abbrev pub is_target : TargetWord → Bool
is_target to_null = true
is_target (to_place place) = is_place place && not (bytes_eq (place_word place) (codes "null"))

abbrev pub is_single_target : TargetWord → Bool
is_single_target to_null = true
is_single_target (to_place place) = is_single place
