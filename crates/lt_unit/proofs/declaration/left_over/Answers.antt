use Rattle.std.proofs.Common.{ap}
use Rattle.lt_tree.specs.Typing.Steps.{Goes}
use Rattle.lt_type.proofs.Sequences.{gives_so, gives_itself}
use Rattle.lt_unit.specs.UnitViews.{locals_of}
use Rattle.lt_unit.proofs.declaration.left_over.Goals as goal

pub returns : goal.returns
returns c = gives_so (λ types k. ap (λ l. Goes (record { locals = locals_of types c.args.locals.items; faults = l }) k) c.faults_alone.ensures) gives_itself
