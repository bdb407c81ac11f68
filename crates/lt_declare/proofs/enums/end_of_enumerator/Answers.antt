use Rattle.std.proofs.Common.{ap}
use Rattle.lt_env.specs.Going.{known_of}
use Rattle.lt_declare.specs.Declaring.{enumerator_end}
use Rattle.lt_declare.proofs.Steps.{gives_as}
use Rattle.lt_declare.proofs.enums.end_of_enumerator.Goals as goal

pub returns : goal.returns
returns c = gives_as c.enumerator_ends.ensures (λ types. ap (λ f. enumerator_end c.args.node c.args.name.now c.args.z f (known_of types c.args.walker.now)) (c.in_ok-faults.ensures types))
