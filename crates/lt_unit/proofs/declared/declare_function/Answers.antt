use Rattle.std.proofs.Common.{refl}
use Rattle.lt_tree.specs.Typing.TypeRows.{type_in}
use Rattle.lt_tree.specs.Typing.Entities.{a_function}
use Rattle.lt_tree.specs.Typing.Steps.{binds}
use Rattle.lt_tree.specs.Typing.Declaring as typing
use Rattle.lt_type.proofs.Sequences.{gives_then}
use Rattle.lt_unit.proofs.Changed.{changed, one_declared}
use Rattle.lt_unit.proofs.declared.declare_function.Goals as goal

pub returns : goal.returns
returns c =
    gives_then (λ types u. binds c.args.name.now a_function)
    (changed {s0 = c.args.walker.now} {s1 = record c.args.walker.now { declared = c.declare.new.self }} (λ types. typing.with_declared c.args.name.now (type_in types c.args.t)) refl refl
    (λ types. one_declared types c.args.walker.now c.args.name.now c.args.t _ c.in_ok-declare.ensures))
    c.bind.ensures.gives
