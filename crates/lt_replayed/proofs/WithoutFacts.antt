-- What a program refers to is there without what is known of its expressions too.
use Rattle.std.proofs.Common.{◌≡◌, ℕ, List, [], ◌∷◌, ◌++◌, map, sym, subst}
use Rattle.std.specs.List.{AllByRecursion, flat_map}
use Rattle.lt_tree.specs.declared.typed.types.TypeId.{TypeId}
use Rattle.lt_tree.specs.declared.typed.entity.StructType.{StructType}
use Rattle.lt_tree.specs.declared.typed.entity.Object.{Object}
use Rattle.lt_tree.specs.declared.typed.entity.Declared.{Declared}
use Rattle.lt_tree.specs.declared.typed.entity.Function.{Function}
use Rattle.lt_tree.specs.declared.typed.entity.Frame.{Frame}
use Rattle.lt_tree.specs.declared.typed.entity.LabelInfo.{LabelInfo}
use Rattle.lt_tree.specs.declared.typed.entity.Fact.{Fact}
use Rattle.lt_tree.specs.Typing.Types.{CType}
use Rattle.lt_tree.specs.Typing.TypeRows.{type_in}
use Rattle.lt_tree.specs.Typing.TypeIds.{ids_among, ids_in_struct, ids_in_object, ids_in_declared, ids_in_function, ids_in_frame, ids_in_fact, IsBelow, AreBelow}
use Rattle.lt_tree.specs.Typing.EntityView.{structs_of, object_of, declared_of, function_of, frame_of, fact_of}
use Rattle.lt_tree.specs.Typing.Ranges.{in_struct, in_object, in_declared, in_function, in_frame, in_type, in_fact, IsThere}
use Rattle.lt_tree.specs.Typing.MemoryRanges.{lists_at, ReferInRange}

-- behind a list another rest may stand
behind : {X : Type 0} (P : X → Type 0) (xs ys zs : List X) → (AllByRecursion P ys → AllByRecursion P zs) → AllByRecursion P (xs ++ ys) → AllByRecursion P (xs ++ zs)
behind P [] ys zs rest all = rest all
behind P (x ∷ xs) ys zs rest all = (all.0, behind P xs ys zs rest all.1)

pub in_range_without_facts : (at : List CType) (structs : List StructType) (objects : List Object) (declared : List Declared) (functions : List Function) (file : Frame) (types : List TypeId)
    (labels : List LabelInfo) (facts none : List Fact) → none ≡ []
    → ReferInRange at structs objects declared functions file types labels facts → ReferInRange at structs objects declared functions file types labels none
in_range_without_facts at structs objects declared functions file types labels facts none is all =
    subst (λ them. ReferInRange at structs objects declared functions file types labels them) (sym is)
    (behind (IsThere (lists_at at structs objects declared labels)) (flat_map in_struct (structs_of at structs) ++ flat_map in_object (map (object_of at) objects) ++ flat_map in_declared (map (declared_of at) declared) ++ flat_map in_function (map (function_of at) functions) ++ in_frame (frame_of at file) ++ flat_map in_type (map (type_in at) types))
    (flat_map in_fact (map (fact_of at) facts)) [] (λ facts_are. tt) all)

pub rows_without_facts : (rows : ℕ) (structs : List StructType) (objects : List Object) (declared : List Declared) (functions : List Function) (file : Frame) (types : List TypeId) (facts none : List Fact) → none ≡ []
    → AreBelow rows (ids_among structs objects declared functions file types facts) → AreBelow rows (ids_among structs objects declared functions file types none)
rows_without_facts rows structs objects declared functions file types facts none is all =
    subst (λ them. AreBelow rows (ids_among structs objects declared functions file types them)) (sym is)
    (behind (IsBelow rows) (flat_map ids_in_struct structs ++ flat_map ids_in_object objects ++ flat_map ids_in_declared declared ++ flat_map ids_in_function functions ++ ids_in_frame file ++ types)
    (flat_map ids_in_fact facts) [] (λ facts_are. tt) all)
