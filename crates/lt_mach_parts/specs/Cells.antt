-- The cells that lie in memory, as the meaning has them.
use Rattle.std.specs.Prelude.{List, map}
use Rattle.lt_model.specs.State.{CellName}
pub use Rattle.lt_mach_parts.specs.declared.footprint.CellName.{CellName as HeldName}

abbrev pub name_of : HeldName → CellName
name_of cell = record { block = cell.block; offset = cell.offset }

abbrev pub names_of : List HeldName → List CellName
names_of cells = map name_of cells
