use Rattle.lt_tree.specs.Typing.Types.{adjusted}
use Rattle.lt_tree.specs.Typing.TypeRows.{type_in}
use Rattle.lt_type.proofs.Sequences.{gives_made}
use Rattle.lt_type.proofs.walk.parameters.adjusted_in.Goals as goal

pub returns : goal.returns
returns c = gives_made (λ types known. adjusted (type_in types c.args.t)) c.in_ok-adjusted.ensures.widens c.in_ok-adjusted.ensures.made
