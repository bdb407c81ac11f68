use Rattle.lt_tree.specs.Typing.Operations.{object_size}
use Rattle.lt_judge.proofs.Members.{extent_as}
use Rattle.lt_judge.proofs.parts.constancy_at.Goals as goal

pub returns : goal.returns
returns c = λ longer more known model structs objects.
    c.moved_by.ensures (object_size known) (extent_as longer c.args.types.now c.args.objects.now known c.in_ok-extent.extent _ model structs objects (c.in_ok-extent.ensures longer more))
