-- What operators ask of what is known: types and objects.
use Rattle.std.specs.Prelude.{false, List, [], map}
use Rattle.lt_tree.specs.declared.typed.entity.Object.{Object}
use Rattle.lt_tree.specs.Typing.Types.{CType}
use Rattle.lt_tree.specs.Typing.EntityView.{object_of}
use Rattle.lt_tree.specs.Typing.Entities.{Known, greatest_written_id}
use Rattle.lt_table.specs.TypesValue.{TypesValue, structs_at}

-- only these types and objects
abbrev pub known_with : List CType → TypesValue → List Object → Known
known_with types value objects = record {
  model = value.model;
  defined = [];
  next = 0;
  greatest_id = greatest_written_id;
  is_unmarked = false;
  frames = [];
  structs = structs_at types value;
  objects = map (object_of types) objects;
  declared = [];
  functions = [];
  labels = [];
  facts = [];
}
