use Rattle.std.proofs.Common.{refl}
use Rattle.lt_placing.proofs.Reached.{copying}
use Rattle.lt_placing.proofs.walk.Walk.without_marks.Goals as goal

pub returns : goal.returns
returns c = copying c.args.self.now _ c.new.ensures.items refl
