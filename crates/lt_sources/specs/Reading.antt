-- What is known of files that are read, whatever the shelf tells.
use Rattle.std.specs.Prelude.{◌≤◌, ℕ, List, length, Option, option_map, IfSome}
use Rattle.std.specs.Borrow.{Bor}
use Rattle.std.specs.Global.{Vec}
use Rattle.lt_answers.specs.Answers.{most_bytes}
use Rattle.lt_answers.specs.Replays.{Sources}

-- the name of an option's file, where the option is given
abbrev pub name_in : Option (Bor (List ℕ)) → Option (List ℕ)
name_in name = option_map (λ text. text.now) name

-- the bytes of an option's file
abbrev pub bytes_in : Option (Vec ℕ) → Option (List ℕ)
bytes_in found = option_map (λ bytes. bytes.items) found

-- the file of an option isn't too long
abbrev pub IsShortIf : Option (List ℕ) → Type 0
IsShortIf found = IfSome found (λ bytes. length bytes ≤ most_bytes)

-- No file is too long.
pub record AreShort (from : Sources) : Type 0 where
  pub file : length from.file ≤ most_bytes
  pub suite : length from.suite ≤ most_bytes
  pub entry : IsShortIf from.entry
  pub cover : IsShortIf from.cover
