use Rattle.std.proofs.Common.{[]}
use Rattle.lt_expr.proofs.CompleteWhole.{whole_is_read}
use Rattle.lt_expr.proofs.laws.derived_is_read.Goals as goal

pub returns : goal.returns
returns c scope ts rest e spots w = whole_is_read scope ts rest e spots [] [] w
