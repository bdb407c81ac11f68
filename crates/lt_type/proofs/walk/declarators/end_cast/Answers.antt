use Rattle.std.proofs.Common.{ap}
use Rattle.lt_tree.specs.Typing.Expressions.{finish}
use Rattle.lt_tree.specs.Typing.NodeEnds.{also}
use Rattle.lt_env.specs.Views.{use_of}
use Rattle.lt_type.proofs.Sequences.{gives_then, gives_so}
use Rattle.lt_type.proofs.walk.declarators.end_cast.Goals as goal

pub returns : goal.returns
returns c =
    gives_then (λ types judged. finish c.args.node (use_of c.args.role) (also c.args.t.faults judged)) c.in_ok-judged.ensures
    (gives_so (λ types k. ap (λ judged. finish c.args.node (use_of c.args.role) judged k) (c.in_ok-with_faults.ensures types)) c.finish.ensures.gives)
