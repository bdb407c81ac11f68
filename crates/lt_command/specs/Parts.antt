-- The words behind a command: positionals, and options with their values.
use Rattle.std.specs.Prelude.{ℕ, ◌==◌, ◌&&◌, Bool, true, false, not, List, [], ◌∷◌, Option, Some, None, option_map, find, if◌then◌else◌}
use Rattle.std.specs.List.{list_any, before_first, after_first}
use Rattle.std.specs.Str.{bytes_eq}

-- a positional or an option's value: the word isn't empty and doesn't begin with a dash
abbrev pub is_value : List ℕ → Bool
is_value [] = false
is_value (b ∷ bytes) = not (b == 45)

-- an option by its word, as `--model`, and its value
pub record Setting : Type 0 where
  pub name : List ℕ
  pub value : List ℕ

-- positionals and options, each in order
pub record Parts : Type 0 where
  pub positionals : List (List ℕ)
  pub options : List Setting

abbrev pub add_positional : List ℕ → Parts → Parts
add_positional word parts = record parts { positionals = word ∷ parts.positionals }

abbrev pub add_option : List ℕ → List ℕ → Parts → Parts
add_option name value parts = record parts { options = record { name = name; value = value } ∷ parts.options }

-- the parts of the rest with this option before them, where its value is one
abbrev pub with_option : List ℕ → List ℕ → Option Parts → Option Parts
with_option name value rest = if is_value value then option_map (add_option name value) rest else None

abbrev pub is_equals : ℕ → Bool
is_equals b = b == 61

-- the word is NAME=VALUE
abbrev pub is_joined : List ℕ → Bool
is_joined word = list_any is_equals word

abbrev mutual
  -- a positional, an option joined to its value, or an option that stands before its value; and so on
  pub parts_of : List (List ℕ) → Option Parts
  parts_of [] = Some (record { positionals = []; options = [] })
  parts_of (word ∷ rest) =
      if is_value word then option_map (add_positional word) (parts_of rest)
      else if is_joined word then with_option (before_first is_equals word) (after_first is_equals word) (parts_of rest)
      else parts_behind word rest

  -- the value of the option comes first
  pub parts_behind : List ℕ → List (List ℕ) → Option Parts
  parts_behind name [] = None
  parts_behind name (value ∷ rest) = with_option name value (parts_of rest)

abbrev pub has_name : List ℕ → Setting → Bool
has_name name option = bytes_eq option.name name

-- the value of the first option of this name
abbrev pub value_of : List ℕ → List Setting → Option (List ℕ)
value_of name options = option_map (λ option. option.value) (find (has_name name) options)

abbrev pub is_among : List ℕ → List (List ℕ) → Bool
is_among word names = list_any (bytes_eq word) names

-- each option has one of these names, and none stands twice
abbrev pub stand_once : List (List ℕ) → List Setting → Bool
stand_once names [] = true
stand_once names (option ∷ options) =
    is_among option.name names && not (list_any (has_name option.name) options) && stand_once names options
