use Rattle.std.proofs.Common.{ap, ◌∙◌}
use Rattle.lt_tree.specs.Records.{marks_in}
use Rattle.lt_placing.proofs.Gathering.{marks_joined}
use Rattle.lt_placing.proofs.place.joined_marks.Goals as goal

pub returns : goal.returns
returns c = ap marks_in c.in_ok-append.ensures.items ∙ marks_joined c.args.first.items c.args.others.items
