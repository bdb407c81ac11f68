-- The cells of structs, as they are counted.
use Rattle.std.specs.Prelude.{◌≡◌, ◌≤◌, ℕ, ◌*◌, Bool, true, false, List, [], length, slice_index_or, None, Some}
use Rattle.std.specs.List.{sum_by, list_all}
use Rattle.lt_tree.specs.declared.typed.entity.Member.{Member}
use Rattle.lt_tree.specs.declared.typed.entity.StructType.{StructType}
use Rattle.lt_tree.specs.Typing.Extents.{Structs, struct_cells}
use Rattle.lt_input_blocks.specs.declared.facts.Part.{Part}
use Rattle.lt_input_blocks.specs.declared.facts.Part.TheVariants as part
use Rattle.lt_input_blocks.specs.declared.facts.Facts.{Facts}
use Rattle.lt_input_blocks.specs.Facts.{capped, part_cells, facts_at}

-- the members of a struct, as far as it has any
abbrev pub members_among : StructType → List Member
members_among it = elim (it.members) [ None ↦ [] | Some members ↦ members.items ]

-- the cells of a type, where these of structs are known
abbrev pub cells_by : List ℕ → Facts → ℕ
cells_by known facts = capped (facts.count * part_cells (λ k. slice_index_or known k 0) facts.part)

-- the cells of a struct, where these are known of types and of structs
abbrev pub struct_cells_by : List Facts → List ℕ → StructType → ℕ
struct_cells_by facts known it = capped (sum_by (λ member. cells_by known (facts_at facts member.ty)) (members_among it))

-- the cells of all structs where they nest no deeper than this
abbrev pub AreCellsAt : Structs → ℕ → List ℕ → Type 0
AreCellsAt structs depth known = (k : ℕ) → slice_index_or known k 0 ≡ capped (struct_cells structs depth k)

-- the cells of all structs
abbrev pub AreCells : Structs → List ℕ → Type 0
AreCells structs known = AreCellsAt structs (length structs) known

-- ---- structs that hold only structs whose cells are known

-- whether it is settled of the struct that a type holds, if any
abbrev pub is_settled : List Bool → Part → Bool
is_settled settled (part.Struct k) = slice_index_or settled k false
is_settled settled _ = true

abbrev pub holds_settled : List Facts → List Bool → StructType → Bool
holds_settled facts settled it = list_all (λ member. is_settled settled (facts_at facts member.ty).part) (members_among it)

-- The cells of the settled structs are known, and a greater bound on the nesting changes none of them.
abbrev pub AreSettled : Structs → ℕ → List ℕ → List Bool → Type 0
AreSettled structs bound known settled =
    (k : ℕ) → slice_index_or settled k false ≡ true → (depth : ℕ) → bound ≤ depth → slice_index_or known k 0 ≡ capped (struct_cells structs depth k)
