-- The types of a program with its structs, as contracts see them.
use Rattle.std.specs.Prelude.{◌≡◌, List}
use Rattle.lt_model.specs.declared.scalar.DataModel.{DataModel}
use Rattle.lt_tree.specs.declared.typed.types.TypeRow.{TypeRow}
use Rattle.lt_tree.specs.declared.typed.entity.StructType.{StructType}
use Rattle.lt_tree.specs.Typing.Types.{CType}
use Rattle.lt_tree.specs.Typing.EntityView.{structs_of}
use Rattle.lt_tree.specs.Typing.Extents.{Structs}
use Rattle.lt_table.specs.TableRows.{Grows}

pub record TypesValue : Type 0 where
  pub model : DataModel
  -- each type once, behind those of which it is made
  pub rows : List TypeRow
  pub structs : List StructType

-- the structs, where rows stand for these types
abbrev pub structs_at : List CType → TypesValue → Structs
structs_at types value = structs_of types value.structs

-- types are only added
pub record Widens (old new : TypesValue) : Type 0 where
  pub grows : Grows old.rows new.rows
  pub structs : new.structs ≡ old.structs
  pub model : new.model ≡ old.model
