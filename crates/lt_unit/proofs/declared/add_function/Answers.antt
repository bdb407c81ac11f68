use Rattle.std.proofs.Common.{refl, ◌++◌, ◌∷◌, []}
use Rattle.lt_tree.specs.Typing.EntityView.{function_of}
use Rattle.lt_unit.proofs.Changed.{changed, one_function}
use Rattle.lt_unit.proofs.declared.add_function.Goals as goal

pub returns : goal.returns
returns c =
    changed {s0 = c.args.walker.now} {s1 = record c.args.walker.now { functions = c.add.new.self }} (λ types known. record known { functions = known.functions ++ function_of types c.args.function ∷ [] }) refl refl
    (λ types. one_function types c.args.walker.now c.args.function _ c.in_ok-add.ensures)
