use Rattle.lt_tree.specs.Typing.Specifying as typing
use Rattle.std.proofs.Common.{Some}
use Rattle.lt_env.specs.Going.{answering}
use Rattle.lt_declare.proofs.Steps.{gives_then}
use Rattle.lt_declare.proofs.enums.close_tagged.Goals as goal

pub returns : goal.returns
returns c = gives_then (λ types _. answering (λ known. record { type = Some typing.enum_type; faults = c.args.faults })) c.in_ok-bind_tag.ensures.gives c.enum_named.ensures
