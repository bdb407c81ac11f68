-- What typing gives is in range.
use Rattle.std.specs.Prelude.{◌≡◌, List, length}
use Rattle.lt_model.specs.declared.scalar.DataModel.{DataModel}
use Rattle.lt_tree.specs.declared.typed.types.TypeId.{TypeId}
use Rattle.lt_tree.specs.declared.typed.types.TypeRow.{TypeRow}
use Rattle.lt_tree.specs.declared.typed.entity.StructType.{StructType}
use Rattle.lt_tree.specs.declared.typed.entity.Object.{Object}
use Rattle.lt_tree.specs.declared.typed.entity.Declared.{Declared}
use Rattle.lt_tree.specs.declared.typed.entity.Function.{Function}
use Rattle.lt_tree.specs.declared.typed.entity.Frame.{Frame}
use Rattle.lt_tree.specs.declared.typed.entity.LabelInfo.{LabelInfo}
use Rattle.lt_tree.specs.declared.typed.entity.Fact.{Fact}
use Rattle.lt_tree.specs.Tree.{Unit as SourceUnit}
use Rattle.lt_tree.specs.Typing.Programs.{Program}
use Rattle.lt_tree.specs.Typing.Ranges.{IsInRange}
use Rattle.lt_tree.specs.Typing.UnitTyping.{IsProgramOf}
use Rattle.lt_tree.specs.Typing.TypeRows.{types_of_rows, Lasts}
use Rattle.lt_tree.specs.Typing.TypeIds.{ids_among, AreBelow}
use Rattle.lt_tree.specs.Typing.ProgramView.{program_at}

-- All that stands in the typed program of a unit refers to what is there.
abbrev pub ProgramsAreInRange : Type 0
ProgramsAreInRange = (model : DataModel) (unit : SourceUnit) (program : Program) → IsProgramOf model unit program → IsInRange program

-- Where the program of parts that lie in memory is the same, whatever types are added to their table, each type id in them has a row.
abbrev pub LastingIdsHaveRows : Type 0
LastingIdsHaveRows =
    (unit : SourceUnit) (model : DataModel) (structs : List StructType) (objects : List Object) (declared : List Declared) (functions : List Function) (file : Frame) (types : List TypeId)
    (labels : List LabelInfo) (facts : List Fact) (table : List TypeRow)
    → Lasts (types_of_rows table) (λ at. program_at at unit model structs objects declared functions file types labels facts ≡ program_at (types_of_rows table) unit model structs objects declared functions file types labels facts)
    → AreBelow (length table) (ids_among structs objects declared functions file types facts)
