use Rattle.std.proofs.Common.{[], map, length}
use Rattle.lt_tree.specs.Typing.TypeRows.{type_in}
use Rattle.lt_tree.specs.Typing.Steps.{Goes, gives}
use Rattle.lt_tree.specs.Typing.Declarators as d
use Rattle.lt_type.specs.Found.{part_of, with_parts}
use Rattle.lt_declare.specs.DeclaredViews.{built_of}
use Rattle.lt_type.proofs.Turns.{Turning}
use Rattle.lt_type.proofs.walk.shapes.with_shapes.Given as goal

abbrev pub invariant-shapes : goal.invariant-shapes
invariant-shapes l = Turning l.fn.walker l.walker (λ types known. Goes (with_parts known (map (part_of types) l.fn.shapes.items) (d.built (type_in types l.fn.t) [])) known)
    (λ types known. Goes (with_parts known (map (part_of types) l.rest.items) (built_of types l.made)) known) (λ types b. gives b)

abbrev pub decreases-shapes : goal.decreases-shapes
decreases-shapes l = length l.rest.items
