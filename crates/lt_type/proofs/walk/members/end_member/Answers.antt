use Rattle.std.proofs.Common.{ap}
use Rattle.lt_tree.specs.Typing.Steps.{◌>>◌, gives, settle}
use Rattle.lt_declare.specs.DeclaredViews.{members_in}
use Rattle.lt_type.proofs.Sequences.{gives_then, gives_stops, gives_so, gives_itself, stopped}
use Rattle.lt_type.proofs.walk.members.end_member.Goals as goal

pub returns-in_err-settle : goal.returns-in_err-settle
returns-in_err-settle c =
    gives_so (λ types k. ap (λ faults. (settle c.args.node faults >> gives (members_in types c.args.found.members)) k) (c.in_ok-faults.ensures types))
    (gives_stops (λ types u. gives (members_in types c.args.found.members)) c.in_err-settle.ensures.gives (stopped c.from_residual-in_err-settle.ensures))

pub returns : goal.returns
returns c =
    gives_so (λ types k. ap (λ faults. (settle c.args.node faults >> gives (members_in types c.args.found.members)) k) (c.in_ok-faults.ensures types))
    (gives_then (λ types u. gives (members_in types c.args.found.members)) c.in_ok-settle.ensures.gives gives_itself)
