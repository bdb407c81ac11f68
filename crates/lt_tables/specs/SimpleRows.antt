-- Rows of types without qualifiers, each once, to which simple ones are added.
use Rattle.std.specs.Prelude.{ℕ, ◌<◌, ◌^◌, List, length}
use Rattle.lt_tree.specs.declared.typed.types.TypeRow.{TypeRow}
use Rattle.lt_tree.specs.declared.typed.types.TypeRow.TheVariants as row
use Rattle.lt_table.specs.RowsOnce.{AreOnce}

-- a row of a scalar, a struct or a floating type, which can stand at this place
abbrev pub IsSimple : ℕ → TypeRow → Type 0
IsSimple n (row.Num s) = Unit {0}
IsSimple n (row.Pointer t) = t.place < n
IsSimple n (row.Struct k) = Unit {0}
IsSimple n row.Floating = Unit {0}
IsSimple n _ = ⊥

-- each row stands once, and its place is one that an id can have
pub record CanBeFound (rows : List TypeRow) : Type 0 where
  pub once : AreOnce rows
  pub few : length rows < 2 ^ 32
