-- The addresses that targets name.
use Rattle.std.specs.Prelude.{◌≡◌, ℕ, List, [], ◌∷◌, ◌++◌, map, Option, None, Some}
use Rattle.lt_model.specs.declared.input.Place.{Place}
use Rattle.lt_tree.specs.Typing.Types.{CType}
use Rattle.lt_tree.specs.Typing.Programs.{Program}
use Rattle.lt_entry.specs.Written as written
use Rattle.lt_entry.specs.Naming as naming
use Rattle.lt_entry.specs.Naming.{parts_at, whole, named_part, if_all_pointed, past_root}
use Rattle.lt_entry.specs.declared.number.Numeral.{Numeral}
use Rattle.lt_entry.specs.declared.place.Step.{Step}
use Rattle.lt_entry.specs.declared.place.Step.TheVariants as step
use Rattle.lt_entry.specs.Views.{step_view}
use Rattle.lt_input_names.specs.declared.names.Names.{Names}
use Rattle.lt_input_names.specs.declared.part.PartType.{PartType}
use Rattle.lt_input_names.specs.declared.part.Root.{Root}
use Rattle.lt_input_names.specs.Parts.{address_in}
use Rattle.lt_input_names.specs.Roots.{root_at}
use Rattle.lt_input_names.specs.Views.{program_at, types_at, type_at}

-- the addresses within an object and past its end
abbrev pub targets_in : Program → (pointed : CType) → naming.Root → List written.Step → List (Option Place)
targets_in program pointed root steps = if_all_pointed pointed (map (named_part root.name) (parts_at program steps (whole root))) ++ past_root program pointed root steps

-- the index that is the only step
abbrev pub only_index : List Step → Option Numeral
only_index (step.Index index ∷ []) = Some index
only_index _ = None

-- the address of the byte past the end, if there is one
abbrev pub end_in : (name : List ℕ) → Option ℕ → List (Option Place)
end_in name None = []
end_in name (Some end) = address_in name end ∷ []

-- This is the byte past the end of a block, if steps lead there.
abbrev pub IsEnd : Names → PartType → Root → List Step → Option ℕ → Type 0
IsEnd names pointed root steps end =
    (name : List ℕ) → past_root (program_at names) (type_at names pointed) (root_at (types_at names) name root) (map step_view steps) ≡ end_in name end
