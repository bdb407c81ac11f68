use Rattle.std.proofs.Common.{◌<◌, length, arith}
use Rattle.std.proofs.lemmas.Grind.{common_steps}
use Rattle.lt_marks.proofs.CommaParts.{longer_is, alone_is}
use Rattle.lt_marks.proofs.erasure.comma.before.Goals as goal

pub returns-in-Comma : goal.returns-in-Comma
returns-in-Comma c =
    let some : 0 < length c.args.others.items = grind (arith, common_steps, c.is_empty.ensures, c.if-is_empty.false, c.args.others.ok.0) in
    longer_is _ _ _ _ c.in-Comma.is some c.longer.ensures

pub returns-in_default : goal.returns-in_default
returns-in_default c =
    let some : 0 < length c.args.others.items = grind (arith, common_steps, c.is_empty.ensures, c.if-is_empty.false, c.args.others.ok.0) in
    alone_is _ _ _ c.in_default.not-Comma some c.inserted.ensures
