-- The types that a program lists.
use Rattle.std.specs.Prelude.{List, map, ◌++◌}
use Rattle.std.specs.List.{flat_map}
use Rattle.lt_tree.specs.declared.typed.entity.StructType.{StructType}
use Rattle.lt_tree.specs.declared.typed.entity.Object.{Object}
use Rattle.lt_tree.specs.declared.typed.entity.Declared.{Declared}
use Rattle.lt_tree.specs.declared.typed.entity.Fact.{Fact}
use Rattle.lt_tree.specs.Typing.Types.{CType}
use Rattle.lt_tree.specs.Typing.EntityView.{structs_of, object_of, declared_of, fact_of}
use Rattle.lt_tree.specs.Typing.Programs.{made_of, types_of_struct}

-- of members, of objects, of functions and of expressions, each behind those of which it is made
abbrev pub types_in_all : List CType → List StructType → List Object → List Declared → List Fact → List CType
types_in_all types structs objects declared facts =
    flat_map types_of_struct (structs_of types structs)
    ++ flat_map (λ object. made_of object.type) (map (object_of types) objects)
    ++ flat_map (λ f. made_of f.type) (map (declared_of types) declared)
    ++ flat_map (λ fact. made_of fact.type) (map (fact_of types) facts)
