-- What places and targets of lines name, where no step goes to every element.
use Rattle.std.specs.Prelude.{◌≡◌, true, [], Option, option_map, option_to_list, unwrap_or}
use Rattle.lt_model.specs.declared.input.Place.{Place}
use Rattle.lt_tree.specs.Typing.Types.{target_of}
use Rattle.lt_entry.specs.Written.{PlaceWord, is_single, TargetWord, is_single_target}
use Rattle.lt_entry.specs.Naming.{named_by, targets_of}
use Rattle.lt_input_names.specs.declared.names.Names.{Names}
use Rattle.lt_input_names.specs.declared.part.Part.{Part}
use Rattle.lt_input_names.specs.declared.part.PartType.{PartType}
use Rattle.lt_input_names.specs.Views.{scope_of, type_at, named_at}

-- the one part that a place names, if it names any
abbrev pub IsPart : Names → PlaceWord → Option Part → Type 0
IsPart names place part = is_single place ≡ true → named_by (scope_of names) place ≡ option_to_list (option_map (named_at names) part)

-- the one address that a target names for a pointer of this type, if it names any
abbrev pub IsTarget : Names → PartType → TargetWord → Option (Option Place) → Type 0
IsTarget names t target found =
    is_single_target target ≡ true
    → unwrap_or (option_map (λ pointed. targets_of (scope_of names) pointed target) (target_of (type_at names t))) [] ≡ option_to_list found
