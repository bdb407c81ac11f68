use Rattle.lt_tree.specs.Typing.Steps.{Goes}
use Rattle.lt_env.specs.Going.{answering}
use Rattle.lt_type.proofs.Sequences.{gives_then, gives_itself}
use Rattle.lt_unit.specs.UnitViews.{around_of}
use Rattle.std.proofs.Common.{false}
use Rattle.lt_tree.specs.Typing.Steps.{gives}
use Rattle.lt_unit.proofs.external.around_body.Goals as goal

pub returns : goal.returns
returns c = gives_then (λ types t. gives (record { result = t; in_loop = false; in_switch = false })) c.in_ok-returned.ensures gives_itself
