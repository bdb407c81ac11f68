-- The parts of words, as the code keeps them.
use Rattle.std.specs.Prelude.{◌≡◌, ℕ, ◌++◌, ◌&&◌, nat_le, Bool, false, List, [], ◌∷◌, map, Option, Some, None, option_map, if◌then◌else◌}
use Rattle.lt_command.specs.Parts.{Parts, Setting, parts_of, parts_behind, with_option}
use Rattle.lt_command.specs.declared.parts.Parts.{Parts as PartsRead}
use Rattle.lt_command.specs.declared.parts.Setting.{Setting as SettingRead}
use Rattle.lt_command.specs.declared.parts.Reader.{Reader}

abbrev pub setting_in : SettingRead → Setting
setting_in option = record { name = option.name.now; value = option.value.now }

abbrev pub parts_in : PartsRead → Parts
parts_in parts = record {
  positionals = map (λ word. word.now) parts.positionals.items;
  options = map setting_in parts.options.items;
}

-- the first parts with the second behind them
abbrev pub joined : Parts → Parts → Parts
joined first second = record {
  positionals = first.positionals ++ second.positionals;
  options = first.options ++ second.options;
}

abbrev pub before : PartsRead → Option Parts → Option Parts
before first = option_map (joined (parts_in first))

-- the parts of the rest, where an option waits for its value or none does
abbrev pub parts_waiting : Option (List ℕ) → List (List ℕ) → Option Parts
parts_waiting None rest = parts_of rest
parts_waiting (Some name) rest = parts_behind name rest

-- the parts of all words, as far as they are read, if this is the rest
abbrev pub parts_with : Reader → List (List ℕ) → Option Parts
parts_with reader rest = before reader.parts (parts_waiting (option_map (λ name. name.now) reader.waiting) rest)

-- The option is added, or its value is none.
abbrev pub AddsOption : PartsRead → List ℕ → List ℕ → PartsRead → Bool → Type 0
AddsOption old name value new is_added =
    (rest : Option Parts) → before old (with_option name value rest) ≡ (if is_added then before new rest else None)

-- The word is read, or isn't of the form.
abbrev pub Reads : Reader → List ℕ → Reader → Bool → Type 0
Reads old word new is_read =
    (rest : List (List ℕ)) → parts_with old (word ∷ rest) ≡ (if is_read then parts_with new rest else None)

-- the first byte is a digit other than 0
abbrev pub starts_well : List ℕ → Bool
starts_well [] = false
starts_well (b ∷ bytes) = nat_le 49 b && nat_le b 57
