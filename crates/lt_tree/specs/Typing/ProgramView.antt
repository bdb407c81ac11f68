-- The value of a typed program that lies in memory.
use Rattle.std.specs.Prelude.{List, map}
use Rattle.lt_model.specs.declared.scalar.DataModel.{DataModel}
use Rattle.lt_tree.specs.declared.typed.types.TypeId.{TypeId}
use Rattle.lt_tree.specs.declared.typed.entity.StructType.{StructType}
use Rattle.lt_tree.specs.declared.typed.entity.Object.{Object}
use Rattle.lt_tree.specs.declared.typed.entity.Declared.{Declared}
use Rattle.lt_tree.specs.declared.typed.entity.Function.{Function}
use Rattle.lt_tree.specs.declared.typed.entity.Frame.{Frame}
use Rattle.lt_tree.specs.declared.typed.entity.LabelInfo.{LabelInfo}
use Rattle.lt_tree.specs.declared.typed.entity.Fact.{Fact}
use Rattle.lt_tree.specs.declared.typed.program.Program.{Program}
use Rattle.lt_tree.specs.Tree.{Unit as SourceUnit}
use Rattle.lt_tree.specs.UnitView.{unit_of}
use Rattle.lt_tree.specs.Typing.Types.{CType}
use Rattle.lt_tree.specs.Typing.TypeRows.{type_in, types_of_rows}
use Rattle.lt_tree.specs.Typing.EntityView.{structs_of, object_of, declared_of, function_of, frame_of, label_of, fact_of}
use Rattle.lt_tree.specs.Typing.Programs as s

-- of these parts, where the rows of the table stand for these types
abbrev pub program_at : List CType → SourceUnit → DataModel → List StructType → List Object → List Declared → List Function → Frame → List TypeId → List LabelInfo → List Fact → s.Program
program_at at unit model structs objects declared functions file types labels facts = record {
  unit = unit;
  model = model;
  structs = structs_of at structs;
  objects = map (object_of at) objects;
  declared = map (declared_of at) declared;
  functions = map (function_of at) functions;
  file = frame_of at file;
  types = map (type_in at) types;
  labels = map label_of labels;
  facts = map (fact_of at) facts;
}

abbrev pub program_with : List CType → Program → s.Program
program_with at p =
    program_at at (unit_of p.unit.now) p.model p.structs.items p.objects.items p.declared.items p.functions.items p.file p.types.items p.labels.items p.facts.items

abbrev pub program_of : Program → s.Program
program_of p = program_with (types_of_rows p.table.items) p
