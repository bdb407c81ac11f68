-- That the parts of a typed program that lie in memory refer only to what is there, where the rows of the table stand for these types.
use Rattle.std.specs.Prelude.{List, map}
use Rattle.lt_tree.specs.declared.typed.types.TypeId.{TypeId}
use Rattle.lt_tree.specs.declared.typed.entity.StructType.{StructType}
use Rattle.lt_tree.specs.declared.typed.entity.Object.{Object}
use Rattle.lt_tree.specs.declared.typed.entity.Declared.{Declared}
use Rattle.lt_tree.specs.declared.typed.entity.Function.{Function}
use Rattle.lt_tree.specs.declared.typed.entity.Frame.{Frame}
use Rattle.lt_tree.specs.declared.typed.entity.LabelInfo.{LabelInfo}
use Rattle.lt_tree.specs.declared.typed.entity.Fact.{Fact}
use Rattle.lt_tree.specs.Typing.Types.{CType}
use Rattle.lt_tree.specs.Typing.TypeRows.{type_in}
use Rattle.lt_tree.specs.Typing.EntityView.{structs_of, object_of, declared_of, function_of, frame_of, label_of, fact_of}
use Rattle.lt_tree.specs.Typing.Ranges.{Reference, references_among, Lists, lists_among, AreThere, AreThere-prop}

abbrev pub lists_at : List CType → List StructType → List Object → List Declared → List LabelInfo → Lists
lists_at at structs objects declared labels =
    lists_among (structs_of at structs) (map (object_of at) objects) (map (declared_of at) declared) (map label_of labels)

abbrev pub references_at : List CType → List StructType → List Object → List Declared → List Function → Frame → List TypeId → List Fact → List Reference
references_at at structs objects declared functions file types facts =
    references_among (structs_of at structs) (map (object_of at) objects) (map (declared_of at) declared) (map (function_of at) functions) (frame_of at file)
    (map (type_in at) types) (map (fact_of at) facts)

abbrev pub ReferInRange : List CType → List StructType → List Object → List Declared → List Function → Frame → List TypeId → List LabelInfo → List Fact → Type 0
ReferInRange at structs objects declared functions file types labels facts =
    AreThere (lists_at at structs objects declared labels) (references_at at structs objects declared functions file types facts)

pub ReferInRange-prop : (at : List CType) (structs : List StructType) (objects : List Object) (declared : List Declared) (functions : List Function) (file : Frame) (types : List TypeId)
    (labels : List LabelInfo) (facts : List Fact) → IsProp (ReferInRange at structs objects declared functions file types labels facts)
ReferInRange-prop at structs objects declared functions file types labels facts =
    AreThere-prop (lists_at at structs objects declared labels) (references_at at structs objects declared functions file types facts)
