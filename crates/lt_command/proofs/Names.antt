-- Options and names as the code keeps them, and as definitions see them.
use Rattle.std.proofs.Common.{◌≡◌, ℕ, List, [], ◌∷◌, map, refl}
use Rattle.std.specs.Borrow.{Bor}
use Rattle.std.specs.List.{list_any}
use Rattle.std.specs.Str.{bytes_eq}
use Rattle.lt_command.specs.Parts.{has_name, is_among}
use Rattle.lt_command.specs.Views.{setting_in}
use Rattle.lt_command.specs.declared.parts.Setting.{Setting as SettingRead}

pub list_any_map : (name : List ℕ) (options : List SettingRead)
    → list_any (has_name name) (map setting_in options) ≡ list_any (λ option. has_name name (setting_in option)) options
list_any_map name [] = refl
list_any_map name (o ∷ options) = rw (list_any_map name options) refl

pub is_among_map : (word : List ℕ) (names : List (Bor (List ℕ))) → is_among word (map (λ name. name.now) names) ≡ list_any (λ name. bytes_eq word name.now) names
is_among_map word [] = refl
is_among_map word (n ∷ names) = rw (is_among_map word names) refl
