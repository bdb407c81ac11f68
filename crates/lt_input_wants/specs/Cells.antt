-- What a free cell holds, by what is set in it.
use Rattle.std.specs.Prelude.{Bool, Option, option_map, unwrap_or}
use Rattle.lt_model.specs.declared.input.CellSet.{CellSet}
use Rattle.lt_model.specs.declared.input.FreeCell.{FreeCell}
use Rattle.lt_entry.specs.Meeting.{value_set, is_wanted}

-- a cell holds what it may, where this is set in it
abbrev pub holds_well : FreeCell → Option CellSet → Bool
holds_well cell it = is_wanted cell.want (unwrap_or (option_map value_set it) cell.start)
