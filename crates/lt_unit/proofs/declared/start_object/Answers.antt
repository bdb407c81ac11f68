use Rattle.std.proofs.Common.{refl}
use Rattle.std.specs.Prelude.{option_map}
use Rattle.lt_tree.specs.Typing.TypeRows.{type_in}
use Rattle.lt_tree.specs.Typing.StatementView.{start_of}
use Rattle.lt_tree.specs.Typing.Declaring as typing
use Rattle.lt_unit.proofs.Changed.{changed, one_started}
use Rattle.lt_unit.proofs.declared.start_object.Goals as goal

pub returns : goal.returns
returns c =
    changed {s0 = c.args.walker.now} {s1 = record c.args.walker.now { objects = c.start.new.self }} (λ types. typing.with_start c.args.number (option_map (start_of types) c.args.start) (type_in types c.args.t)) refl refl
    (λ types. one_started types c.args.walker.now c.args.number c.args.t c.args.start _ c.start.ensures)
