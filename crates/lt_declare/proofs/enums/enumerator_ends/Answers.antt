use Rattle.std.proofs.Common.{unwrap_or, ap}
use Rattle.lt_tree.specs.Typing.Steps as steps
use Rattle.lt_env.specs.Going.{answering, known_of}
use Rattle.lt_declare.proofs.Steps.{made, gives_as, gives_then}
use Rattle.std.proofs.Common.{pos, ◌+ℤ◌}
use Rattle.lt_tree.specs.Typing.Entities.{an_enumerator}
use Rattle.lt_declare.proofs.enums.enumerator_ends.Goals as goal

pub returns : goal.returns
returns c =
    let w = c.args.walker.now in
    let node = c.args.node in
    let name = c.args.name.now in
    let v = unwrap_or c.args.z (pos 0) in
    let next = made c.bind.new.self c.next_after.result (v +ℤ pos 1) c.next_after.ensures.next c.next_after.ensures.stops in
    let told = gives_as {other = λ types. steps.binds name (an_enumerator v)} c.in_ok-bind.ensures.gives (λ types. ap (λ u. steps.binds name u (known_of types c.settle.new.self)) (c.enumerator.ensures types)) in
    let bound = gives_then (λ types _. answering (λ known. v +ℤ pos 1)) told next in
    gives_then (λ types _. steps.◌>>◌ (steps.binds name (an_enumerator v)) (steps.gives (v +ℤ pos 1))) c.in_ok-settle.ensures.gives bound
