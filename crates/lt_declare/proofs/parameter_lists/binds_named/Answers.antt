use Rattle.std.proofs.Common.{ap}
use Rattle.lt_env.specs.Going.{known_of}
use Rattle.lt_declare.proofs.Steps.{gives_as}
use Rattle.lt_declare.specs.Declaring.{binding_object}
use Rattle.lt_declare.proofs.parameter_lists.binds_named.Goals as goal

pub returns : goal.returns
returns c =
    gives_as c.binds_object.ensures (λ types. ap (λ o. binding_object c.args.name.now c.args.is_register o (known_of types c.args.walker.now)) (c.in_ok-object.ensures types))
