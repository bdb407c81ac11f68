-- How words of files are read back: the number, place or target that a word writes, if it writes one.
use Rattle.std.specs.Prelude.{ℕ, ◌==◌, ◌^◌, ◌||◌, ◌&&◌, nat_lt, Bool, false, not, if◌then◌else◌, List, [], ◌∷◌, ◌++◌, length, codes, Option, Some, None, option_map, option_and_then}
use Rattle.std.specs.List.{list_all, onto_first}
use Rattle.std.specs.Str.{bytes_eq}
use Rattle.std.specs.Str.Parse.{digits_value}
use Rattle.std.specs.Char.{is_ascii_digit}
use Rattle.lt_entry.specs.Written.{Numeral, is_name, is_object_name, Step, at_index, at_each, at_member, PlaceWord, is_single, TargetWord, to_null, to_place}

-- ---- numbers

abbrev pub starts_well : List ℕ → Bool
starts_well [] = false
starts_well (b ∷ digits) = not (b == 48) || (length digits == 0)

abbrev pub read_decimal : List ℕ → Option ℕ
read_decimal digits =
    if starts_well digits && list_all is_ascii_digit digits && nat_lt (digits_value 10 digits) (2 ^ 64) then Some (digits_value 10 digits) else None

abbrev pub read_numeral : List ℕ → Option Numeral
read_numeral [] = None
read_numeral (b ∷ digits) =
    option_map (λ n. record { is_negative = b == 45; size = n }) (read_decimal (if b == 45 then digits else b ∷ digits))

-- ---- lists

abbrev pub with_first : {A : Type 0} → Option A → Option (List A) → Option (List A)
with_first (Some a) (Some more) = Some (a ∷ more)
with_first _ _ = None

-- what each word says, if each says something
abbrev pub read_all : {A : Type 0} → (read : List ℕ → Option A) → List (List ℕ) → Option (List A)
read_all read [] = Some []
read_all read (word ∷ words) = with_first (read word) (read_all read words)

-- ---- places

abbrev pub begins_step : ℕ → Bool
begins_step b = (b == 91) || (b == 46)

-- a word, cut in front of each step
abbrev pub pieces : List ℕ → List (List ℕ)
pieces [] = [] ∷ []
pieces (b ∷ bytes) = if begins_step b then [] ∷ onto_first b (pieces bytes) else onto_first b (pieces bytes)

-- The bytes stand in front of the first of the parts.
abbrev pub onto : List ℕ → List (List ℕ) → List (List ℕ)
onto bytes [] = bytes ∷ []
onto bytes (part ∷ parts) = (bytes ++ part) ∷ parts

-- what stands before the bracket at the end
abbrev pub inside : List ℕ → Option (List ℕ)
inside [] = None
inside (b ∷ []) = if b == 93 then Some [] else None
inside (b ∷ bytes) = option_map (λ rest. b ∷ rest) (inside bytes)

abbrev pub read_index : List ℕ → Option Step
read_index word = if bytes_eq word (codes "*") then Some at_each else option_map at_index (read_numeral word)

abbrev pub read_closed : List ℕ → Option Step
read_closed bytes = option_and_then read_index (inside bytes)

abbrev pub read_step : List ℕ → Option Step
read_step [] = None
read_step (b ∷ bytes) =
    if b == 91 then read_closed bytes else if (b == 46) && is_name bytes then Some (at_member bytes) else None

abbrev pub place_from : List (List ℕ) → Option PlaceWord
place_from [] = None
place_from (name ∷ others) =
    if is_object_name name then option_map (λ steps. record { name = name; steps = steps }) (read_all read_step others) else None

abbrev pub read_place : List ℕ → Option PlaceWord
read_place word = place_from (pieces word)

abbrev pub read_target : List ℕ → Option TargetWord
read_target word = if bytes_eq word (codes "null") then Some to_null else option_map to_place (read_place word)

-- ---- places with one part

abbrev pub if_single : Option PlaceWord → Option PlaceWord
if_single None = None
if_single (Some place) = if is_single place then Some place else None

abbrev pub read_single : List ℕ → Option PlaceWord
read_single word = if_single (read_place word)

abbrev pub read_single_target : List ℕ → Option TargetWord
read_single_target word = if bytes_eq word (codes "null") then Some to_null else option_map to_place (read_single word)
